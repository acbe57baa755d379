use Rattle.{std.proofs.{Common.{◌<◌, length, arith, rules}, lemmas.Nat.{mul-le, row_fits}}, flim_cube.{specs.Bytes.length_counts, proofs.Bytes.placed}}
use Rattle.flim_cube.proofs.spread.Cells.part.Goals as goal

pub byte-requires : goal.byte-requires
byte-requires c =
    let s = c.args.self.now in
    record {
      inside = rw c.deref.ensures.value (placed s.size s.wide c.args.i c.args.at (length s.bytes.items) s.there c.if-i-self.true
          (omega (arith, c.requires.inside, length_counts s.bytes.items s.size)));
    }

pub returns-else-i-self : goal.returns-else-i-self
returns-else-i-self c = search (rules, arith, mul-le)

pub overflow_add-i : goal.overflow_add-i
overflow_add-i c =
    let s = c.args.self.now in
    let inside : c.args.at < s.size = omega (arith, c.requires.inside, length_counts s.bytes.items s.size) in
    omega (arith, row_fits c.args.i s.size 8 s.size c.requires.low (omega arith), inside, s.few)
