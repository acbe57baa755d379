use Rattle.std.{proofs.Common.{◌≡◌, ◌<◌, ℕ, true, get_or}, specs.Char.is_ascii_digit}
use Rattle.ptu_cli.proofs.words.are_digits.Given as goal

abbrev pub invariant-loop-byte : goal.invariant-loop-byte
invariant-loop-byte l = (k : ℕ) → k < l.byte-index → is_ascii_digit (get_or l.text k 0) ≡ true
