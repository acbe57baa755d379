use Rattle.{std.proofs.Common.{◌∙◌, ◌<◌, length, ap, sym, arith}, flim_cube.{specs.Bytes.{byte_in, length_counts}, proofs.Bytes.{get_counts, count_low}}}
use Rattle.flim_cube.proofs.Bytes.{first_placed}
use Rattle.flim_cube.proofs.spread.Cells.get.Goals as goal

pub byte-requires : goal.byte-requires
byte-requires c =
    let s = c.args.self.now in
    record {
      inside = rw c.deref.ensures.value
          (first_placed s.size s.wide c.args.at (length s.bytes.items) s.there s.some.0 (omega (arith, c.requires.inside, length_counts s.bytes.items s.size)));
    }

pub returns-then-self-eq1 : goal.returns-then-self-eq1
returns-then-self-eq1 c =
    let s = c.args.self.now in
    let at = c.args.at in
    let inside : at < s.size = omega (arith, c.requires.inside, length_counts s.bytes.items s.size) in
    c.from.ensures ∙ c.byte.ensures ∙ ap (λ bytes. byte_in bytes at) c.deref.ensures.value
    ∙ sym (count_low s.bytes.items s.size at (λ place le. s.zeros place (rw c.if-self-eq1.true (omega (arith, le)))))
    ∙ sym (get_counts s.bytes.items s.size at inside)
