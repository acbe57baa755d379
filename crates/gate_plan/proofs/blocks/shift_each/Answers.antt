use Rattle.{std.proofs.Common.{◌≡◌, ◌∙◌, rules, arith, refl, ap}, tally_base.specs.{Codes.kind_of, Columns.{event_at, code_at}}}
use Rattle.gate_plan.{specs.{Groups.sorting_of, Shifting.shifted}, proofs.Histories.{shifted_rows, shifted_more, left_behind}}
use Rattle.gate_plan.proofs.blocks.shift_each.Goals as goal

pub loop-at-preserved : goal.loop-at-preserved
loop-at-preserved c =
    let inv = c.loop-at.invariant in
    let by = sorting_of c.args.gates.now in
    let old = c.args.block.now in
    let now = c.loop-at.block in
    let at = c.loop-at.at in
    let e = event_at now at in
    let set = c.set_dtime.ensures in
    let kind : kind_of (code_at now at) c.dtime_behind-dtime.result ≡ (shifted by e).kind =
    (rw (c.code.ensures, c.dtime.ensures) at c.dtime_behind-dtime.ensures) e refl in
    let here : event_at c.set_dtime.new.self at ≡ shifted by e = set.there ∙ ap (λ kind. record { place = e.place; kind = kind; time = e.time }) kind in
    record {
      same_count = set.count ∙ inv.same_count;
      unsorted = set.unsorted ∙ inv.unsorted;
      shifted = shifted_more by (event_at old) (event_at now) (event_at c.set_dtime.new.self) at inv.shifted inv.left here set.others;
      left = left_behind (event_at old) (event_at now) (event_at c.set_dtime.new.self) at inv.left set.others;
    }

pub returns-clause-shifted : goal.returns-clause-shifted
returns-clause-shifted c = search (rules, arith, shifted_rows)
