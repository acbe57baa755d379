-- How many events a block has at most.
use Rattle.std.specs.Prelude.{ℕ}

abbrev pub block_size : ℕ
block_size = 64
