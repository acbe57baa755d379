use Rattle.std.proofs.{Common.{◌≡◌, ◌∙◌, ℕ, ◌+◌, ◌-◌, length, take, drop, sym, ap, rules, arith}, lemmas.{List.take-take, Slice.between-put_mid}}
use Rattle.tau_cascade.proofs.{Follows.raised-none, Few.alike_merged}
use borrow.Rule.Slice.PartMut.{put_mid}
use Rattle.tau_cascade.proofs.level.merge_many.Goals as goal

pub returns-clause-bins : goal.returns-clause-bins
returns-clause-bins c =
    let from : ℕ = c.args.closing.from in
    let size : from + c.args.closing.count - from ≡ c.args.closing.count = omega arith in
    let new = c.merge-count.new.bins in
    let long : length new ≡ from + c.args.closing.count - from = search (rules, arith) in
    let whole = put_mid from (from + c.args.closing.count - from) c.args.list.now new in
    let here : take c.merge-count.result (drop from whole) ≡ take c.merge-count.result new =
    sym (take-take c.merge-count.result (from + c.args.closing.count - from) (drop from whole) (search (rules, arith)))
    ∙ ap (take c.merge-count.result) (between-put_mid from _ c.args.list.now new _ (search (rules, arith)) long) in
    alike_merged _ _ (rw raised-none (here ∙ (rw size at c.merge-count.ensures.bins)))
