use Rattle.std.proofs.Common.{◌<◌, ◌≤◌, ◌≡◌, ◌∙◌, ◌^◌, ◌&&◌, ℕ, Bool, true, false, None, Some, Ok, Err, List, length, sym, ap, refl, arith, rules, inl, inr}
use Rattle.std.proofs.{Common.{nat_le, if◌then◌else◌}, lemmas.{Bool.{Decides.nat_tests, cases_lt}, Str.Parse.{IsNumeralModel, numerals_by_value}}}
use Rattle.std.{proofs.lemmas.Str.Parse.{tells_all_ascii_digits, parse_digits}, specs.Str.{all_ascii_digits, Parse.{ParsesUnsigned, digits_value}}}
use Rattle.ptu_cli.specs.Commands.{is_numeral, number_in}
use Rattle.ptu_cli.proofs.words.number.Goals as goal

-- the number that a word writes
own : IsNumeralModel (λ ds. all_ascii_digits ds ≡ true) (digits_value 10)
own = numerals_by_value _ tells_all_ascii_digits

by-numeral : (most : ℕ) (word : List ℕ) (numeral small : Bool) → is_numeral word ≡ numeral → nat_le (digits_value 10 word) most ≡ small
    → number_in most word ≡ (if numeral && small then Some (digits_value 10 word) else None)
unfolding number_in
by-numeral most word numeral small n s = rw (n, s) refl

no-numeral : (most : ℕ) (word : List ℕ) → is_numeral word ≡ false → number_in most word ≡ None
no-numeral most word n = by-numeral most word false _ n refl

low : (most : ℕ) (word : List ℕ) → is_numeral word ≡ true → digits_value 10 word ≤ most → number_in most word ≡ Some (digits_value 10 word)
low most word n h = by-numeral most word true true n (grind (arith, nat_tests))

great : (most : ℕ) (word : List ℕ) → is_numeral word ≡ true → most < digits_value 10 word → number_in most word ≡ None
great most word n h = by-numeral most word true false n (grind (arith, nat_tests))

all-three : (a b c : Bool) → (a && b && c) ≡ true → (a ≡ true) × (c ≡ true)
all-three a b c h = search (rules, arith)

-- a numeral is not empty, and has digits alone
parts : (word : List ℕ) → is_numeral word ≡ true → (0 < length word) × (all_ascii_digits word ≡ true)
parts word n =
    let p = all-three (nat_le 1 (length word)) (nat_le (length word) 20) (all_ascii_digits word) n in
    let some : 0 < length word = let e = p.0 in grind (arith, nat_tests) in
    (some, p.1)

-- what parsing a numeral answers is its number; where it answers none this is too great for 64 bits
parsed : (E : Type 0) (word : List ℕ) (value : ℕ) → ParsesUnsigned {E = E} 64 10 word (Ok value) → is_numeral word ≡ true → value ≡ digits_value 10 word
parsed E word value parses n = (parse_digits own {E = E} 64 word (Ok value) parses (parts word n).1).1

unparsed : (E : Type 0) (word : List ℕ) (error : E) → ParsesUnsigned {E = E} 64 10 word (Err error) → is_numeral word ≡ true → 2 ^ 64 ≤ digits_value 10 word
unparsed E word error parses n = elim (cases_lt (digits_value 10 word) (2 ^ 64)) [
  | inl less ↦ absurd (parse_digits own {E = E} 64 word (Err error) parses (parts word n).1 ((parts word n).0, less))
  | inr most ↦ most
]

pub returns-then-not-is_number-clause-value : goal.returns-then-not-is_number-clause-value
returns-then-not-is_number-clause-value c = sym (no-numeral c.args.most c.args.word.now (sym c.is_number.ensures ∙ c.if-not-is_number.true))

pub returns-then-value-most-clause-value : goal.returns-then-value-most-clause-value
returns-then-value-most-clause-value c =
    let numeral = sym c.is_number.ensures ∙ c.if-not-is_number.false in
    let same = parsed ℕ c.args.word.now c.in-Ok.value c.in-Ok.ensures.value.0 numeral in
    ap (λ (n : ℕ). Some n) same ∙ sym (low c.args.most c.args.word.now numeral (omega (arith, same, c.if-value-most.true)))

pub returns-else-value-most-clause-value : goal.returns-else-value-most-clause-value
returns-else-value-most-clause-value c =
    let numeral = sym c.is_number.ensures ∙ c.if-not-is_number.false in
    let same = parsed ℕ c.args.word.now c.in-Ok.value c.in-Ok.ensures.value.0 numeral in
    sym (great c.args.most c.args.word.now numeral (omega (arith, same, c.if-value-most.false)))

pub returns-in-Err-clause-value : goal.returns-in-Err-clause-value
returns-in-Err-clause-value c =
    let numeral = sym c.is_number.ensures ∙ c.if-not-is_number.false in
    sym (great c.args.most c.args.word.now numeral (omega (arith, unparsed _ c.args.word.now c.in-Err.field-0 c.in-Err.ensures.value.0 numeral)))
