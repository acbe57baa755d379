use Rattle.std.proofs.Common.{◌≡◌, ◌+◌, ◌<◌, ◌≤◌, ℕ, Bool, true, false, length, sym, rules, arith, if◌then◌else◌, ◌∙◌, List, [], ◌∷◌, ◌++◌, ap, refl, get_or}
use Rattle.std.{proofs.{Common.{set, append-nil, slice_index}, lemmas.{Grind.common_steps, List.{get_or-set_same, Elements.filter-append}}}, specs.List.filter}
use Rattle.tally_base.specs.{Columns.{event_at, rows}, Events.is_in, declared.event.{Event.Event, EventKind.{EventKind, TheVariants.{Photon, Marker}}}}
use Rattle.{tally_base.{specs.declared.block.Block.Block, proofs.BlockRows.{same-rows, more_rows}}, gate_plan.specs.{Groups.sorting_of, Shifting.Sorting}}
use Rattle.{gate_plan.{specs.Taking.groups_in, proofs.Parts.of_shifted_marker}, photon_pick.specs.{Chosen.is_chosen, Giving.events_at}}
use Rattle.photon_pick.proofs.choosing.choose.Goals as goal

-- a marker is in no group
none-in : (group : ℕ) → is_in 0 group ≡ false
none-in group = search (rules, arith)

chosen-kind : (by : Sorting) (group : ℕ) (e : Event) (kind : EventKind) → e.kind ≡ kind → is_chosen by group e ≡ is_in (groups_in by e) group
chosen-kind by group e (Photon input dtime) is = rw is refl
chosen-kind by group e (Marker bits) is = rw (of_shifted_marker by e bits is, is) (sym (none-in group))

-- one place more among those that are chosen
other : (xs : List ℕ) (n k v : ℕ) → k < n → get_or (set xs n v) k 0 ≡ get_or xs k 0
other xs n k v lt = grind (arith, common_steps)

-- those before it stay
before : (b : Block 1024) (places : List ℕ) (n at : ℕ) → events_at b (set places n at) n ≡ events_at b places n
before b places n at = search (rules, arith, same-rows, other)

chosen-more : (p : Event → Bool) (b : Block 1024) (places : List ℕ) (n at : ℕ) (test : Bool)
    → n < length places → events_at b places n ≡ filter p (rows (event_at b) at) → p (event_at b at) ≡ test
    → events_at b (set places n at) (n + (if test then 1 else 0)) ≡ filter p (rows (event_at b) (at + 1))
chosen-more p b places n at true inside are is =
    let here : event_at b (slice_index (set places n at) n) ≡ event_at b at = ap (event_at b) (get_or-set_same places n at 0 inside) in
    let kept : filter p (event_at b at ∷ []) ≡ event_at b at ∷ [] = rw is refl in
    more_rows (λ k. event_at b (slice_index (set places n at) k)) n ∙ ap (λ e. events_at b (set places n at) n ++ e ∷ []) here
    ∙ ap (λ l. l ++ event_at b at ∷ []) (before b places n at ∙ are)
    ∙ sym (ap (filter p) (more_rows (event_at b) at) ∙ filter-append p (rows (event_at b) at) (event_at b at ∷ []) ∙ ap (λ l. filter p (rows (event_at b) at) ++ l) kept)
chosen-more p b places n at false inside are is = search (rules, arith, before, more_rows, filter-append, append-nil)

inside-more : (places : List ℕ) (n at : ℕ) (test : Bool) → n < length places → ((k : ℕ) → k < n → slice_index places k < at)
    → (k : ℕ) → k < n + (if test then 1 else 0) → slice_index (set places n at) k < at + 1
inside-more places n at test inside below k lt = search (rules, arith, get_or-set_same, other)

pub loop-at-preserved : goal.loop-at-preserved
loop-at-preserved c =
    let inv = c.loop-at.invariant in
    let b = c.args.block.now in
    let at = c.loop-at.at in
    let n = c.loop-at.chosen in
    let test = c.is_in.result in
    let few : at < 1024 = search (rules, arith) in
    let inside : n < length c.loop-at.places = omega (arith, inv.sized, inv.few, few) in
    let more : c.from-chosen.result ≡ (if test then 1 else 0) = search rules in
    let is : is_chosen (sorting_of c.args.gates.now) c.args.group (event_at b at) ≡ test =
    rw c.event.ensures at (chosen-kind (sorting_of c.args.gates.now) c.args.group c.event.result c.event.result.kind refl
    ∙ ap (λ groups. is_in groups c.args.group) (sym c.groups_of-groups.ensures) ∙ sym c.is_in.ensures) in
    rw more (record {
      sized = search (rules, arith, inv.sized);
      few = few-more test n at inv.few;
      inside = inside-more c.loop-at.places n at test inside inv.inside;
      chosen = chosen-more (is_chosen (sorting_of c.args.gates.now) c.args.group) b c.loop-at.places n at test inside inv.chosen is;
    })
  where
    few-more : (test : Bool) (n at : ℕ) → n ≤ at → n + (if test then 1 else 0) ≤ at + 1
    few-more true n at few = omega (arith, few)
    few-more false n at few = omega (arith, few)
