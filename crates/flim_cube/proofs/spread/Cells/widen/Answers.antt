use Rattle.{std.proofs.{Common.{◌≡◌, ◌∙◌, ℕ, ◌≤◌, length, rules, arith}, lemmas.Nat.mul-le}, flim_cube.{specs.Bytes.byte_in, proofs.Bytes.more_zeros}}
use Rattle.flim_cube.proofs.Bytes.{count_same, counts_same}
use Rattle.flim_cube.proofs.spread.Cells.widen.Goals as goal

pub returns-clause-counts : goal.returns-clause-counts
returns-clause-counts c =
    let s = c.args.self.now in
    let wider = mul-le s.wide s.size c.args.wide s.size (omega (arith, c.if-wide-self.false)) (omega arith) in
    let all : length s.bytes.items ≤ c.div_ceil.result = omega (arith, s.there, c.div_ceil.ensures, wider) in
    let same : (place : ℕ) → byte_in c.resize.new.self.items place ≡ byte_in s.bytes.items place =
    λ place. rw c.in-Ok.ensures.items (more_zeros s.bytes.items c.div_ceil.result _ place all) in
    search (rules, arith, counts_same, count_same)

pub invariant_of-self : goal.invariant_of-self
invariant_of-self c =
    let s = c.args.self.now in
    let wider = mul-le s.wide s.size c.args.wide s.size (omega (arith, c.if-wide-self.false)) (omega arith) in
    let all : length s.bytes.items ≤ c.div_ceil.result = omega (arith, s.there, c.div_ceil.ensures, wider) in
    record {
      few = s.few;
      some = (omega (arith, s.some.0, c.if-wide-self.false), c.requires);
      there = search (rules, arith);
      room = omega (arith, s.room, c.in-Ok.ensures.capacity);
      zeros = λ place le. rw c.in-Ok.ensures.items (more_zeros s.bytes.items c.div_ceil.result _ place all ∙ s.zeros place (omega (arith, le, wider)));
    }
