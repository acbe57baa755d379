use Rattle.{std.proofs.Common.{◌≡◌, ◌/◌, false, length, rules, arith, length-append, nat_le, ◌==◌}, tally_base.specs.{Settings.hist_view, Columns.item}}
use Rattle.tally_base.{specs.Columns.events_in, proofs.{BlockRows.length-rows, Floors.greatest_block, Sums.whole_slice}}
use Rattle.tcspc_hist.proofs.Blocks.{count-append}
use Rattle.tcspc_hist.proofs.hist.HistTally.events.Goals as goal

pub returns-clause-follows : goal.returns-clause-follows
returns-clause-follows g c = λ h is.
    let t = c.args.self.now in
    let set = hist_view t.set in
    let block = c.args.block.now in
    let e = rw c.deref_mut.ensures.value at c.count_block-self.ensures in
    let count : length c.count_block-self.new.cells ≡ length t.cells.items = search rules in
    let all : t.cells.len ≡ length t.cells.items = search rules in
    record {
      cells = λ b lt.
          let more = count-append set (λ dtime. dtime / set.width == b) h (events_in block) in
          rw (whole_slice c.count_block-self.new.cells t.cells.items t.cells.len count all) (omega (arith, e.cells b lt, is.cells b lt, more));
      over =
          let more = count-append set (λ dtime. nat_le set.bins (dtime / set.width)) h (events_in block) in
          omega (arith, e.over, is.over, more);
      taken = omega (arith, is.taken, c.len.ensures.count, length-append h (events_in block), length-rows (item block) block.len);
      floor = greatest_block false h block _ _ is.floor c.requires.in_order c.floor_after-self.ensures;
    }
