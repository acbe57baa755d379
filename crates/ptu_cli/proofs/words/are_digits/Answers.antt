use Rattle.std.{proofs.{Common.{arith, refl, sym, ◌∙◌}, lemmas.List.Recursion.{and_fails_at, and_from_places}}, specs.Char.is_ascii_digit}
use Rattle.std.specs.Str.{all_ascii_digits}
use Rattle.ptu_cli.proofs.words.are_digits.Goals as goal

pub returns-then-not-is_ascii_digit : goal.returns-then-not-is_ascii_digit
returns-then-not-is_ascii_digit c =
    sym (and_fails_at all_ascii_digits is_ascii_digit refl (λ _ _. refl) c.args.text.now c.loop-byte.byte-index 0 c.loop-byte-test.true
    (sym c.is_ascii_digit.ensures.value ∙ c.if-not-is_ascii_digit.true))

pub returns : goal.returns
returns c = sym (and_from_places all_ascii_digits is_ascii_digit refl (λ _ _. refl) c.args.text.now 0 (λ i within. c.loop-byte.invariant i (omega arith)))
