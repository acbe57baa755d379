-- Events that are given to all tables.
use Rattle.std.proofs.Common.{◌≡◌, ◌+◌, ◌≤◌, ◌<◌, ℕ, List, [], ◌∷◌, ◌++◌, Bool, true, false, refl, ap, ◌∙◌, append_assoc, append-nil, arith, length}
use Rattle.std.proofs.{Common.{length-append, IsTrue, ◌&&◌, not, sym, rules, map}, lemmas.List.{map-append, length-map, Elements.filter-append}}
use Rattle.tally_base.specs.{declared.{event.Event.Event, header.Mode.{Mode, TheVariants.T2}, tally.Tally.Ghosts}, Events.is_ordered, Settings.is_strict}
use Rattle.{tally_base.{specs.{Tally.{History, floor_after, InOrder}, Limits.record_limit}, proofs.Floors.order-looser}, ptu_definitions.specs.Kept.Marked}
use Rattle.{ptu_definitions.specs.Settled.not_marked, abs_time.{specs.Floors.{orders_markers, moved_floor}, proofs.Floors.moved_floor-push}}
use Rattle.{record_stream.{specs.Blocks.on_time, proofs.Gathering.floor_of-block}, gate_plan.specs.{Shifting.{Sorting, shifted}, Histories.with_groups}}
use Rattle.{gate_plan.proofs.Histories.{with_groups-more, order-shifted, floor-shifted}, tally_engine.specs.Give.{Each, Standing, MayTake, HasTaken, Gave}}

length-on_time : (es : List Event) → length (on_time es) ≡ length es
length-on_time [] = refl
length-on_time (e ∷ es) = omega (arith, length-on_time es)

not_marked-on_time : (es : List Event) → not_marked (on_time es) ≡ es
not_marked-on_time [] = refl
not_marked-on_time (e ∷ es) = ap (λ l. e ∷ l) (not_marked-on_time es)

not_marked-block : (l : Marked) (es : List Event) → not_marked (l ++ on_time es) ≡ not_marked l ++ es
not_marked-block l es = rw (filter-append, map-append) (ap (λ m. not_marked l ++ m) (not_marked-on_time es))

not_marked-late : (l : Marked) (e : Event) → not_marked (l ++ (e, true) ∷ []) ≡ not_marked l
not_marked-late l e = rw (filter-append, append-nil) refl

never : (b : Bool) → IsTrue (b && not true) → ⊥
never b is = search (rules, arith)

late_floor : (mode : Mode) (floor : ℕ) (e : Event) → moved_floor mode floor e true ≡ floor
late_floor mode floor e = search (rules, arith)

-- a strict table is of a mode that orders markers
fewer : (mode : Mode) (strict : Bool) → (mode ≡ T2 → strict ≡ false) → IsTrue strict → IsTrue (orders_markers mode)
fewer mode strict loose is = search (rules, arith)

module _ {T : Type 0} (g : Ghosts T) where
  -- A table may be given events that come in the order of its stream.
  pub can_take : (mode : Mode) (taken floor : ℕ) (es : List Event) (t : T) → Standing g mode taken floor t
      → taken + length es ≤ record_limit → InOrder (orders_markers mode) floor es → MayTake g es t
  can_take mode taken floor es t stands room order = search (rules, arith, order-looser, fewer)

  -- It may be given them with shifted dtimes.
  pub can_take-shifted : (by : Sorting) (es es' : List Event) (t : T) → es' ≡ map (shifted by) es → MayTake g es t → MayTake g es' t
  can_take-shifted by es es' t is can = search (rules, arith, length-map, order-shifted)

  pub took-shifted : (by : Sorting) (es es' : List Event) (more : History) (old new : T)
      → es' ≡ map (shifted by) es → HasTaken g es' more old new → HasTaken g es more old new
  took-shifted by es es' more old new is took = search (rules, arith, length-map, floor-shifted)

  pub took_none : (by : Sorting) (es : List Event) (t : T) → length es ≡ 0 → g.closed t ≡ false → HasTaken g es (with_groups by es) t t
  took_none by [] t none still = search (rules, arith, append-nil)
  took_none by (e ∷ es) t none still = absurd (omega (arith, none))

  -- A table that was given them stands where they lead.
  pub standing_took : (mode : Mode) (taken floor : ℕ) (es : List Event) (more : History) (old new : T)
      → Standing g mode taken floor old → HasTaken g es more old new → InOrder (orders_markers mode) floor es
      → Standing g mode (taken + length es) (floor_after (orders_markers mode) floor es) new
  standing_took mode taken floor es more old new stands took order =
      let below = (order-looser (orders_markers mode) (is_strict (g.settings old)) (g.floor old) floor es (fewer mode _ stands.suits) stands.before order).1 in
      record {
        still_open = took.still_open;
        few = omega (arith, stands.few, took.count);
        before = rw took.moved below;
        suits = λ is. rw took.same_settings (stands.suits is);
      }

  pub standing_on : (mode : Mode) (taken floor given top : ℕ) (t : T) → taken ≤ given → floor ≤ top → Standing g mode taken floor t → Standing g mode given top t
  standing_on mode taken floor given top t more later stands = search (rules, arith)

  pub gave_block : (by by' : Sorting) (mode mode' : Mode) (taken taken' next floor floor' now : ℕ) (es : List Event) (first old new : List T) (l : Marked)
      → Gave g by by' mode mode' taken taken' floor floor' first old l → length new ≡ length old → Each (HasTaken g es (with_groups by' es)) old new
      → InOrder (orders_markers mode') floor' es → next ≡ taken' + length es → now ≡ floor_after (orders_markers mode') floor' es
      → Gave g by by' mode mode' taken next floor now first new (l ++ on_time es)
  gave_block by by' mode mode' taken taken' next floor floor' now es first old new l gave same took order counted is = record {
    same_sorting = gave.same_sorting;
    same_mode = gave.same_mode;
    counted = omega (arith, counted, gave.counted, length-append l (on_time es), length-on_time es);
    moved = is ∙ floor_of-block mode' l es floor floor' (rw gave.same_mode gave.moved) order ∙ rw gave.same_mode refl;
    follows = λ h held. λ k d inside.
        let within : k < length old = omega (arith, same, inside) in
        rw (not_marked-block l es, with_groups-more by (not_marked l) es, ← append_assoc h)
        ((rw gave.same_sorting at (took k d within)).follows _ (gave.follows h held k d within));
  }

  -- a late event is given to no table
  pub gave_late : (by by' : Sorting) (mode mode' : Mode) (taken taken' floor floor' : ℕ) (first old : List T) (l : Marked) (e : Event)
      → Gave g by by' mode mode' taken taken' floor floor' first old l → Gave g by by' mode mode' taken (taken' + 1) floor floor' first old (l ++ (e, true) ∷ [])
  gave_late by by' mode mode' taken taken' floor floor' first old l e gave = record {
    same_sorting = gave.same_sorting;
    same_mode = gave.same_mode;
    counted = omega (arith, gave.counted, length-append l ((e, true) ∷ []));
    moved = sym (late_floor mode floor' e) ∙ moved_floor-push mode floor floor' l e true gave.moved (λ is. absurd (never (is_ordered mode e) is));
    follows = λ h held. rw (not_marked-late l e) (gave.follows h held);
  }
