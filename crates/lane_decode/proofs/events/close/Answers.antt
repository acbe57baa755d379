use Rattle.{std.proofs.{Common.{refl, ◌∙◌, arith, w32}, lemmas.Simd.{SwzOk-from_below, length-swz_l}}, lane_decode.specs.Staying.lanes_in}
use Rattle.lane_decode.proofs.{Chosen.{below-all, few-bits}, Table.{row_is, lanes-below, lanes-long, close-at}}
use Rattle.lane_decode.proofs.events.close.Goals as goal

pub swizzle : goal.swizzle
swizzle c =
    let bits = c.args.bits in
    rw (row_is bits c.requires.bits) (SwzOk-from_below w32 8 1 8 0 (lanes_in bits) refl
    (omega (arith, lanes-long bits c.requires.bits)) (below-all 8 (lanes_in bits) (lanes-below bits c.requires.bits)))

pub returns : goal.returns
returns c =
    let bits = c.args.bits in
    rw (row_is bits c.requires.bits) (record {
      lanes = length-swz_l w32 8 c.args.eight 0 (lanes_in bits) ∙ lanes-long bits c.requires.bits;
      close = λ j lt. close-at c.args.eight bits j (few-bits bits c.requires.bits) lt;
    })
