use Rattle.{std.proofs.{Common.{◌≡◌, ◌+◌, ◌<◌, [], ◌∷◌, ◌++◌, rules, arith, append-nil}, Math.Logic.∥∥₁_map}, tally_base.specs.Settings.coincidence_view}
use Rattle.{tally_base.specs.{Tally.History, Columns.{item, rows, gathered}}, coincidence.specs.{Pairs.photons_of_groups, Pairing.{Gathered, Came}}}
use Rattle.coincidence.{specs.StandsFor.CanTake, proofs.{Blockwise.{photons-same, put_row, photons-more}, Visits.close_on}}
use Rattle.coincidence.proofs.taking.take_block.Goals.{then-first-second, else-first-second}
use Rattle.coincidence.proofs.taking.take_block.Goals as goal

pub gather_block-open-requires-clause-stands : goal.gather_block-open-requires-clause-stands
gather_block-open-requires-clause-stands g c = ∥∥₁_map c.requires.stands (λ w. (c.args.pairing.now.ring, c.args.pairing.now.cells, w.0, w.1))

pub close_all-requires-clause-stands : goal.close_all-requires-clause-stands
close_all-requires-clause-stands g c = ∥∥₁_map c.requires.stands (λ w.
    let now = c.gather_block-open.ensures.follows _ _ w.0 w.1 in
    ([], now.shut, rw (c.deref.ensures.0, append-nil c.gather_block-open.new.bins.items) now.pending))

pub returns-then-len-ge-MANY : goal.returns-then-len-ge-MANY
returns-then-len-ge-MANY g c = record {
  steps = c.close_all.ensures.steps;
  follows = λ h can.
      let now = c.gather_block-open.ensures.follows _ _ h can in
      close_on _ _ _ _ _ _ _ _ [] now (c.close_all.ensures.follows [] now.shut (rw (c.deref.ensures.0, append-nil c.gather_block-open.new.bins.items) now.pending));
}

pub put-open-requires : goal.put-open-requires
put-open-requires g c =
    let within : c.loop-at.at < c.args.given.block.now.len = search (rules, arith) in
    let either = rw (c.has_photon-first.ensures, c.has_photon-second.ensures) at c.if-first-second.true in
    record {
      stands = ∥∥₁_map c.requires.stands (λ w.
          (photons_of_groups (coincidence_view c.args.given.set) (w.0 ++ rows (item c.args.given.block.now) c.loop-at.at), item c.args.given.block.now c.loop-at.at ∷ [], rw c.bin_in-bin.ensures (put_row _ c.args.given.block.now w.0 c.loop-at.at either _ within w.1 _ (c.loop-at.invariant.came w.0 w.1))));
    }

pub returns : goal.returns
returns g c = record {
  follows = λ h can.
      let end : c.loop-at.at ≡ c.args.given.block.now.len = search (rules, arith) in
      rw end at (c.loop-at.invariant.came h can);
  steps = c.loop-at.invariant.steps;
}

pub loop-at-preserved : goal.loop-at-preserved
loop-at-preserved g c =
    let inv = c.loop-at.invariant in
    let b = c.args.given.block.now in
    let set = coincidence_view c.args.given.set in
    let at = c.loop-at.at in
    let within : at < b.len = search (rules, arith) in
    let then = c.if-first-second in
    let row : ((h : History) → CanTake set (Came set c.args.pairing.now) (gathered b) h → Gathered set then.open then.pairing.ring then.pairing.cells [] (photons_of_groups set (h ++ rows (item b) (at + 1)))) × (then.steps + c.args.pairing.now.cells.added ≡ c.args.steps.now + then.pairing.cells.added) =
    elim c.if-first-second.branch [
      | then-first-second w ↦
          let either = rw (c.has_photon-first.ensures, c.has_photon-second.ensures) at w.if-first-second.true in
          rw (w.pairing-is, w.steps-is, w.open-is) (
            λ h can.
                rw (photons-more set b h at either)
                (w.put-open.ensures.follows (photons_of_groups set (h ++ rows (item b) at)) (item b at ∷ []) (rw w.bin_in-bin.ensures (put_row set b h at either _ within can _ (inv.came h can)))),
            omega (arith, inv.steps, w.put-open.ensures.steps),
          )
      | else-first-second w ↦
          rw (w.pairing-is, w.steps-is, w.open-is) (
            λ h can. rw (photons-same set b h at (rw (c.has_photon-first.ensures, c.has_photon-second.ensures) at w.if-first-second.false)) (inv.came h can),
            inv.steps,
          )
    ] in
    record {
      came = λ h can. c.pass_lone-passed.ensures.follows _ then.pairing.cells h can (row.0 h can);
      within = c.pass_lone-passed.ensures.upto.1;
      steps = row.1;
    }
