use Rattle.{std.proofs.Common.{◌≡◌, ◌∙◌, true, false, sym, ap, arith, if◌then◌else◌, ℕ, ◌≤◌, [], ◌∷◌, length, get_or, rules}, tally_base.specs.Events.is_photon}
use Rattle.tally_base.specs.{declared.{event.Event.Event, block.Block.Block}, Columns.{rows, item, event_at, code_at, groups_at, gathered, events_in}}
use Rattle.tally_base.proofs.{block.Block+TABLE_BLOCK.of_one.Goals.{then-is_photon, else-is_photon}, Floors.moves_row, BlockRows.length-rows}
use Rattle.tally_base.proofs.block.Block+TABLE_BLOCK.of_one.Goals as goal

-- a block of one event
one_row : {N : ℕ} (b : Block N) (e : Event) → gathered b ≡ e ∷ [] → (b.len ≡ 1) × (event_at b 0 ≡ e)
one_row b e is =
    let one : b.len ≡ 1 = sym (length-rows (event_at b) b.len) ∙ ap length is in
    (one, ap (λ es. get_or es 0 e) (sym (ap (rows (event_at b)) one) ∙ is))

one_marker : {N : ℕ} (b : Block N) (e : Event) → event_at b 0 ≡ e → 256 ≤ code_at b 0 → is_photon e ≡ false
one_marker b e is marker = search (rules, arith, moves_row)

one_item : {N : ℕ} (b : Block N) (e : Event) (groups : ℕ) → b.len ≡ 1 → event_at b 0 ≡ e → groups_at b 0 ≡ groups → events_in b ≡ (e, groups) ∷ []
one_item b e groups one is there = ap (rows (item b)) one ∙ ap (λ e. (e, groups_at b 0) ∷ []) is ∙ ap (λ groups. (e, groups) ∷ []) there

pub put-requires : goal.put-requires
put-requires c =
    let is = one_row c.push.new.self c.args.e.now (rw c.new-block.ensures.empty at c.push.ensures.more) in (
      omega arith,
      (
        omega (arith, is.0),
        (
          sym (c.push.ensures.unsorted ∙ c.new-block.ensures.unsorted),
          λ marker.
              let none : is_photon c.args.e.now ≡ false = one_marker c.push.new.self c.args.e.now is.1 marker in
              elim c.if-is_photon.branch [
                | then-is_photon w ↦ let some : is_photon c.args.e.now ≡ true = sym c.is_photon.ensures ∙ w.if-is_photon.true in cc
                | else-is_photon w ↦ w.put-is
              ],
        ),
      ),
    )

pub returns-clause-sorted : goal.returns-clause-sorted
returns-clause-sorted c =
    let is = one_row c.push.new.self c.args.e.now (rw c.new-block.ensures.empty at c.push.ensures.more) in
    omega (arith, c.put.ensures.kept.sorted, c.put.ensures.kept.count, is.0)

pub returns-clause-events : goal.returns-clause-events
returns-clause-events c =
    let is = one_row c.push.new.self c.args.e.now (rw c.new-block.ensures.empty at c.push.ensures.more) in
    let groups : c.if-is_photon.put ≡ (if is_photon c.args.e.now then c.args.groups else 0) =
    elim c.if-is_photon.branch [
      | then-is_photon w ↦ w.put-is ∙ sym (ap (λ b. if b then c.args.groups else 0) (sym c.is_photon.ensures ∙ w.if-is_photon.true))
      | else-is_photon w ↦ w.put-is ∙ sym (ap (λ b. if b then c.args.groups else 0) (sym c.is_photon.ensures ∙ w.if-is_photon.false))
    ] in
    one_item c.put.new.self c.args.e.now _ (c.put.ensures.kept.count ∙ is.0) (c.put.ensures.kept.same 0 ∙ is.1) (c.put.ensures.there ∙ groups)
