use Rattle.{std.proofs.Common.{ap, ◌∙◌, ◌%◌, ◌^◌, ◌+◌, arith}, lane_decode.{specs.Staying.lanes_in, proofs.{Chosen.few-bits, Table.{row_is, lanes-long}}}}
use Rattle.lane_decode.proofs.{Table.lane-at, Wide.{long-places, places-at}}
use Rattle.lane_decode.proofs.events.places_from.Goals as goal

pub returns : goal.returns
returns c =
    let bits = c.args.bits in
    let few = few-bits bits c.requires in
    rw (row_is bits c.requires) (record {
      lanes = long-places c.args.first (lanes_in bits) (lanes-long bits c.requires);
      close = λ j lt. places-at c.args.first (lanes_in bits) j (lanes-long bits c.requires) (omega (arith, few, lt)) ∙ ap (λ x. (c.args.first + x) % 2 ^ 64) (lane-at bits j lt);
    })
