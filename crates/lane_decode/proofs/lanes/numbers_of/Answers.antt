use Rattle.{std.proofs.{Common.{[], ap}, lemmas.Simd.pick_l_whole}, ptu_definitions.specs.Words.numbers}
use Rattle.lane_decode.proofs.lanes.numbers_of.Goals as goal

pub returns : goal.returns
returns c =
    rw (c.from_le_bytes.ensures, c.from_le_bytes-2.ensures, c.from_le_bytes-3.ensures, c.from_le_bytes-4.ensures, c.from_le_bytes-5.ensures, c.from_le_bytes-6.ensures, c.from_le_bytes-7.ensures, c.from_le_bytes-8.ensures)
    (ap numbers (pick_l_whole [] c.args.words.now 8 c.requires))
