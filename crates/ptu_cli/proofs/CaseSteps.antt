-- Steps that the proofs for several commands share.
use Rattle.std.proofs.Common.{◌≡◌, ℕ, List, [], ◌∷◌, length, Bool, true, false, None, Ok, Err, refl, ap, ◌≢◌, ◌<◌, ◌≤◌, arith, ◌==◌, Result, nat_lt}
use Rattle.{std.proofs.{Common.{if◌then◌else◌, rules}, lemmas.Bool.Decides.nat_tests}, tally_base.specs.declared.fault.Fault.Fault}
use Rattle.{tally_base.specs.declared.fault.Fault.TheVariants.TruncatedRecord, ptu_definitions.specs.{declared.records.Summary.Summary, Words.words_of}}
use Rattle.ptu_definitions.specs.{Words.rest_of, Streams.{StreamSettings, record_refusal, summary, streamed, or_refusal}}

-- ## Tests

pub lt-true : (a b : ℕ) → nat_lt a b ≡ true → a < b
lt-true a b h = grind (arith, nat_tests)

pub lt-false : (a b : ℕ) → nat_lt a b ≡ false → b ≤ a
lt-false a b h = grind (arith, nat_tests)

pub empty-true : (xs : List ℕ) → (length xs == 0) ≡ true → xs ≡ []
empty-true [] h = refl
empty-true (x ∷ xs) h = let some : (length (x ∷ xs) == 0) ≡ false = grind (arith, nat_tests) in cc

pub empty-false : (xs : List ℕ) → (length xs == 0) ≡ false → xs ≢ []
empty-false xs h = search (rules, arith)

pub true-empty : (xs : List ℕ) → xs ≡ [] → (length xs == 0) ≡ true
true-empty xs e = rw e refl

pub false-empty : (xs : List ℕ) → xs ≢ [] → (length xs == 0) ≡ false
false-empty [] h = absurd (h refl)
false-empty (x ∷ xs) h = grind (arith, nat_tests)

-- ## Records that are cut

abbrev pub whole_answer : StreamSettings → List ℕ → Bool → Result Summary Fault
whole_answer how behind whole = if whole then Ok (summary how (words_of behind)) else Err (TruncatedRecord (length (rest_of behind)))

pub streamed-clear : (how : StreamSettings) (behind : List ℕ) → record_refusal how (words_of behind) ≡ None
    → streamed how behind ≡ whole_answer how behind (length (rest_of behind) == 0)
unfolding streamed
streamed-clear how behind none = ap (λ o. or_refusal o (whole_answer how behind (length (rest_of behind) == 0))) none
