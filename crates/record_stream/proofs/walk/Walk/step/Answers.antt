use Rattle.std.proofs.Common.{arith, rules, ap, length, refl, ◌≡◌, ℕ, List, [], ◌∷◌, ◌++◌, Bool, true, false, Ok, Err, OnOk, map, subst, sym, ◌∙◌, inl, inr}
use Rattle.std.{proofs.{Common.append-nil, lemmas.{Grind.common_steps, Result.{err_from_is_err_and, on_ok_weaker}}}, specs.declared.result.Result.Result}
use Rattle.{abs_time.specs.declared.clock.Placed.Placed, tally_base.specs.declared.{event.Event.Event, fault.Fault.Fault}, ptu_definitions.specs.Kept.Marked}
use Rattle.ptu_definitions.{specs.{Kept.is_late, Streams.{StreamSettings, refusal, events_in}, Times.events}, proofs.StreamLemmas.fresh}
use Rattle.{settle.specs.declared.settle.Settle.Settle, record_stream.specs.{Walking.{how_of, given_by, KeepsPlace, WalksOn}, Feeding.{Fed, Follows}}}
use Rattle.record_stream.specs.{Keeping.{Comes, IsKeeping, Settles, tells, refused_for}, Rows.{CountsOne, IsPlaced, KeepsGiven}, Settling.{floor_in, HasTaken}}
use Rattle.record_stream.specs.{Settling.{StaysKept, Tells, TellsAfterAny, Untold}, declared.{taker.EventTaker.Ghosts, walk.Walk.Walk}}
use Rattle.record_stream.proofs.{Feeds.delivers-both, Placed.{skipped-event, event_in, top_in, comes, refused-placed, fresh-placed, skipped-fresh}}
use Rattle.record_stream.proofs.{Steps.{refused_fed, word_at, word_gave, word_broke, skipped_word}, Settles.{come_word, kept_on}}
use Rattle.record_stream.proofs.walk.Walk.step.Goals as goal

-- the events of these words
abbrev came_in : StreamSettings → List ℕ → List Event
came_in how ws = events (map how.meaning ws)

-- One word more.
module _ {T : Type 0} (g : Ghosts T) {old mid : Walk} {ws : List ℕ} {w : ℕ} {p : Placed} (settle settle' : Settle) (t : T)
    (placed : IsPlaced old mid ws w p) (same_how : how_of mid ≡ how_of old) (same_given : given_by mid ≡ given_by old)
    (b : HasTaken old settle ws) where
  module _ (new : Walk) (now : T) (e : Event) (is : event_in p ≡ e ∷ []) (place : KeepsPlace mid new) where
    marks : Marked
    marks = tells (how_of old).policy.settle (how_of old).mode (came_in (how_of old) ws) e

    refuses : refusal (how_of old) ws w ≡ refused_for (how_of old) (came_in (how_of old) ws) e (top_in p)
    refuses = placed.refusal ∙ refused-placed (how_of old) _ _ p e placed.answer is

    adds : fresh (how_of old) ws ((how_of old).meaning w) ≡ marks
    unfolding marks
    adds = fresh-placed (how_of old) ws ((how_of old).meaning w) p e placed.answer is

    told_mid : {X : Type 0} (r : Result X Fault) → Tells g mid new settle' t now (came_in (how_of old) ws) (events_in (how_of old) ws) e (top_in p) r
        → OnOk r (HasTaken new settle' (ws ++ w ∷ [])) × Fed g (how_of old) t now ws (ws ++ w ∷ []) r
    unfolding marks
    told_mid (Ok x) by_mid =
        let how = how_of old in
        let told = rw same_how at by_mid in
        let none = refuses ∙ told.unrefused in
        let came = (comes how.mode (map how.meaning ws) (how.meaning w) p placed.answer).0 ∙ is in (
          record {
            at = word_at marks placed same_how b.at none adds new place same_given told.summary told.counted;
            settles = subst (λ h. Settles h settle' (ws ++ w ∷ [])) (sym (place.same_how ∙ same_how)) (come_word how settle' ws w (e ∷ []) marks came adds told.come);
          },
          word_gave marks placed same_how b.at none adds g told.got told.kept,
        )
    told_mid {X} (Err y) untold_mid =
        let untold = subst (λ h. Untold g h t now (came_in (how_of old) ws) e (top_in p) y) same_how untold_mid in (
          tt,
          elim untold [
            | inl q ↦ rw q.1 (refused_fed g X (how_of old) t ws w y b.at.clear (refuses ∙ q.0))
            | inr q ↦ inr (q.0, word_broke marks placed same_how b.at (refuses ∙ q.1.unrefused) adds g q.1.some q.1.broken q.1.rose)
          ],
        )

    told_word : {X : Type 0} (late : Bool) (r : Result X Fault) → is_late (how_of old).mode (came_in (how_of old) ws) e ≡ late
        → TellsAfterAny g mid new settle settle' t now e (top_in p) late r
        → OnOk r (HasTaken new settle' (ws ++ w ∷ [])) × Fed g (how_of old) t now ws (ws ++ w ∷ []) r
    told_word late r so each =
        let before = came_in (how_of old) ws in
        told_mid r (each before (events_in (how_of old) ws) (subst (λ (h : StreamSettings). is_late h.mode before e ≡ late) (sym same_how) so)
        (subst (λ (h : StreamSettings). Comes h settle before (events_in (how_of old) ws)) (sym same_how) b.settles))

  skip_word : event_in p ≡ [] → HasTaken mid settle (ws ++ w ∷ []) × Fed g {X = Unit {0}} (how_of old) t t ws (ws ++ w ∷ []) (Ok tt)
  skip_word none =
      let how = how_of old in
      let came = (comes how.mode _ _ p placed.answer).0 ∙ none in
      let skipped = skipped_word g placed same_how same_given b.at t none in
      let come = come_word how settle ws w [] [] came (skipped-fresh how ws (how.meaning w) p placed.answer none) (rw (append-nil (came_in how ws), append-nil (events_in how ws)) b.settles) in
      (record { at = skipped.0; settles = subst (λ h. Settles h settle (ws ++ w ∷ [])) (sym same_how) come }, skipped.1)

-- what is kept back after a record that is counted and placed
keeps-placed : {old mid : Walk} {settle : Settle} → KeepsGiven old mid → IsKeeping old settle → IsKeeping mid settle
keeps-placed {old = old} {mid = mid} {settle = settle} k keeps =
    kept_on old mid settle settle keeps k.same_how refl keeps.unpopped keeps.fit (omega (arith, keeps.behind, k.more_placed)) (omega (arith, keeps.room, k.same_given, k.more_records))

module _ {T : Type 0} (g : Ghosts T) where
  none-kept : {old mid : Walk} {settle : Settle} {t : T} → KeepsGiven old mid → g.same t t → IsKeeping old settle → StaysKept g old mid settle t t
  none-kept k none keeps = record { stays = record { same_how = k.same_how; later = omega arith; same = none }; keeps = keeps-placed k keeps }

  then-kept : {old mid new : Walk} {settle : Settle} {t u : T} → KeepsGiven old mid → StaysKept g mid new settle t u → StaysKept g old new settle t u
  then-kept k s = record { stays = record { same_how = s.stays.same_how ∙ k.same_how; later = s.stays.later; same = s.stays.same }; keeps = s.keeps }

  then-on : {X : Type 0} {old mid new : Walk} {p : Placed} (settle : Settle) (u : T) (w : ℕ) (r : Result X Fault) → KeepsGiven old mid → CountsOne old mid p → KeepsPlace mid new
      → OnOk r (Follows g (how_of mid).mode (given_by new) (floor_in new settle) u) → OnOk r (WalksOn g old new (floor_in new settle) u (length (w ∷ [])))
  then-on {mid = mid} {new = new} settle u w r k counts place on = on_ok_weaker r (λ (f : Follows g (how_of mid).mode (given_by new) (floor_in new settle) u). record {
    follows = record { mode_is = f.mode_is ∙ ap (λ (x : StreamSettings). x.mode) k.same_how; few = f.few; before = f.before };
    counted = omega (arith, counts.counted, place.same_records);
  }) on

pub returns-in_err-event : goal.returns-in_err-event
returns-in_err-event g c =
    let s = g.S.EventTaker in
    let p = err_from_is_err_and c.from_residual.result c.from_residual.ensures.1 in
    rw (p.1, p.2) (record {
      delivers = delivers-both s (λ words h. (tt, refused_fed s (Unit {0}) _ _ words _ _ h.at.clear (c.in_err-event.ensures.refused words h.at)));
      goes_on = tt;
      stays = none-kept s c.place_next.ensures.keeps (g.met.S.EventTaker.same_none _) c.requires.ready.keeps;
    })

pub returns-in-Event : goal.returns-in-Event
returns-in-Event g c =
    let s = g.S.EventTaker in
    let keeps = c.place_next.ensures.keeps in
    record {
      delivers = delivers-both s (λ words h.
          let placed = rw c.in-Event.is at (c.in_ok-event.ensures.placed words h.at) in
          told_word s c.args.settle.now _ _ placed keeps.same_how keeps.same_given h _ _ c.in-Event.event refl
          c.take_event.ensures.place false c.take_event.result (comes _ _ _ _ placed.answer).1 c.take_event.ensures.tells);
      goes_on = then-on s c.take_event.new.settle c.take_event.new.taker c.args.word c.take_event.result keeps c.in_ok-event.ensures.counts c.take_event.ensures.place c.take_event.ensures.goes_on;
      stays = then-kept s keeps c.take_event.ensures.stays;
    }

pub returns-in-Late : goal.returns-in-Late
returns-in-Late g c =
    let s = g.S.EventTaker in
    let keeps = c.place_next.ensures.keeps in
    let take = c.take_event-in-Late in
    record {
      delivers = delivers-both s (λ words h.
          let placed = rw c.in-Late.is at (c.in_ok-event.ensures.placed words h.at) in
          told_word s c.args.settle.now _ _ placed keeps.same_how keeps.same_given h _ _ c.in-Late.event refl
          take.ensures.place true take.result (comes _ _ _ _ placed.answer).1.0 take.ensures.tells);
      goes_on = then-on s take.new.settle take.new.taker c.args.word take.result keeps c.in_ok-event.ensures.counts take.ensures.place take.ensures.goes_on;
      stays = then-kept s keeps take.ensures.stays;
    }

pub returns-in-Wrap : goal.returns-in-Wrap
returns-in-Wrap g c = record {
  delivers = delivers-both g.S.EventTaker (λ words h.
      skip_word g.S.EventTaker c.args.settle.now c.args.settle.now c.args.taker.now (c.in_ok-event.ensures.placed words h.at)
      c.place_next.ensures.keeps.same_how c.place_next.ensures.keeps.same_given h (skipped-event _ c.in-Wrap.is));
  goes_on = first_of (search (rules, arith), grind (arith, common_steps));
  stays = none-kept g.S.EventTaker c.place_next.ensures.keeps (g.met.S.EventTaker.same_none _) c.requires.ready.keeps;
}

pub take_event-requires-clause-ready : goal.take_event-requires-clause-ready
take_event-requires-clause-ready g c = record {
  is_for = search (rules, arith);
  keeps = keeps-placed c.place_next.ensures.keeps c.requires.ready.keeps;
  follows = first_of (search (rules, arith), grind (arith, common_steps));
}

pub take_event-requires-in-Late-clause-ready : goal.take_event-requires-in-Late-clause-ready
take_event-requires-in-Late-clause-ready g c = record {
  is_for = search (rules, arith);
  keeps = keeps-placed c.place_next.ensures.keeps c.requires.ready.keeps;
  follows = first_of (search (rules, arith), grind (arith, common_steps));
}
