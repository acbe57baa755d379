use Rattle.{std.proofs.Common.{rules, arith, ◌≡◌, ◌<◌, length}, tally_base.{specs.Columns.gathered, proofs.Sums.whole_slice}}
use Rattle.tally_engine.{specs.contracts.part.PartTally.TheImpl.ghosts, proofs.Takes.{can_take, standing_took, gave_block}}
use Rattle.tally_engine.proofs.part_taker.PartTakerEventTaker.take_block.Goals as goal

pub give-requires : goal.give-requires
give-requires g c =
    let t = c.args.self.now in
    record {
      unsorted = c.requires.unsorted;
      may = rw c.deref_mut.ensures.value (λ k d within. can_take ghosts t.mode t.taken t.floor (gathered c.args.block.now) _ (t.standing k d within) c.requires.room c.requires.in_order);
    }

pub invariant_of-self : goal.invariant_of-self
invariant_of-self g c =
    let t = c.args.self.now in
    let same : length c.give.new.parts ≡ length t.parts.now.items = search rules in
    let all : t.parts.now.len ≡ length t.parts.now.items = search rules in
    let took = rw c.deref_mut.ensures.value at c.give.ensures.took in
    record {
      standing = rw (whole_slice _ _ _ same all, c.len.ensures.value, c.floor_after-floor.ensures, c.orders_markers.ensures) (λ k d inside.
          let within : k < length t.parts.now.items = omega (arith, same, inside) in
          standing_took ghosts t.mode t.taken t.floor (gathered c.args.block.now) _ _ _ (t.standing k d within) (took k d within) c.requires.in_order);
    }

pub returns-clause-follows : goal.returns-clause-follows
returns-clause-follows g c = λ start l gave.
    let t = c.args.self.now in
    let same : length c.give.new.parts ≡ length t.parts.now.items = search rules in
    let all : t.parts.now.len ≡ length t.parts.now.items = search rules in
    let took = rw c.deref_mut.ensures.value at c.give.ensures.took in
    rw (whole_slice _ _ _ same all)
    (gave_block ghosts _ _ _ _ _ _ _ _ _ _ (gathered c.args.block.now) _ _ _ l gave same took c.requires.in_order (search (rules, arith)) (search rules))
