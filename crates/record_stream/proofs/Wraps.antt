-- How much one wrap adds at most.
use Rattle.std.proofs.Common.{rules, ◌<◌, ◌^◌, ℕ, Bool, arith, ◌≡◌, ◌+◌, List, [], ◌∷◌, ◌++◌, Some, length, take, drop, get_or, take-append-drop, refl, sym, ap}
use Rattle.std.{proofs.{Common.{◌∙◌, append_assoc}, lemmas.{Grind.common_steps, Bool.Decides.nat_tests, List.{take_more, map-append}}}, specs.Int.from_le_bytes}
use Rattle.{std.specs.Int.w32, tally_base.specs.declared.{header.RecordType.RecordType, fault.Fault.Fault}, ptu_definitions.specs.Layouts.{pico_t2, pico_t3}}
use Rattle.ptu_definitions.specs.{Layouts.{hydra_t2, hydra_t3, meaning_of}, Times.amount, Words.{words_of, rest_of, numbers}, Streams.StreamSettings}
use Rattle.ptu_definitions.{specs.Streams.record_refusal, proofs.{WordsLemmas.{words_of-append, rest_of-append}, StreamLemmas.refused-more}}

pico_t2-small : (word : ℕ) → amount (pico_t2 word) < 2 ^ 50
unfolding pico_t2
pico_t2-small word = grind (arith, common_steps, nat_tests)

pico_t3-small : (word : ℕ) → amount (pico_t3 word) < 2 ^ 50
unfolding pico_t3
pico_t3-small word = grind (arith, common_steps, nat_tests)

hydra_t2-small : (old : Bool) (word : ℕ) → amount (hydra_t2 old word) < 2 ^ 50
unfolding hydra_t2
hydra_t2-small old word = search (rules, arith)

hydra_t3-small : (old : Bool) (word : ℕ) → amount (hydra_t3 old word) < 2 ^ 50
unfolding hydra_t3
hydra_t3-small old word = search (rules, arith)

pub amount-small : (t : RecordType) (word : ℕ) → amount (meaning_of t word) < 2 ^ 50
amount-small t word = search (rules, arith, pico_t2-small, pico_t3-small, hydra_t2-small, hydra_t3-small)

-- Bytes in fours.

pub numbers-more : (ws : List (List ℕ)) (i : ℕ) (d : List ℕ) → i < length ws
    → numbers (take (i + 1) ws) ≡ numbers (take i ws) ++ from_le_bytes w32 (get_or ws i d) ∷ []
numbers-more ws i d lt = rw (take_more ws i d lt, map-append) refl

-- One word more of a list.
module _ (ws : List (List ℕ)) (i : ℕ) (d : List ℕ) (w : ℕ) (lt : i < length ws) (is : w ≡ from_le_bytes w32 (get_or ws i d)) where
  pub step-numbers : numbers (take (i + 1) ws) ≡ numbers (take i ws) ++ w ∷ []
  step-numbers = numbers-more ws i d lt ∙ ap (λ x. numbers (take i ws) ++ x ∷ []) (sym is)

  pub whole-numbers : numbers ws ≡ (numbers (take i ws) ++ w ∷ []) ++ numbers (drop (i + 1) ws)
  whole-numbers = ap numbers (sym (take-append-drop (i + 1) ws))
      ∙ map-append (from_le_bytes w32) (take (i + 1) ws) (drop (i + 1) ws) ∙ ap (λ l. l ++ numbers (drop (i + 1) ws)) step-numbers

-- A list in parts.
pub both-numbers : (words seen rest : List (List ℕ)) → words ≡ seen ++ rest → numbers words ≡ numbers seen ++ numbers rest
both-numbers words seen rest is = ap numbers is ∙ map-append (from_le_bytes w32) seen rest

pub parted : {X : Type 0} (words seen rest front back : List X) → words ≡ seen ++ rest → rest ≡ front ++ back → words ≡ (seen ++ front) ++ back
parted words seen rest front back is parts = is ∙ ap (λ l. seen ++ l) parts ∙ sym (append_assoc seen front back)

pub parted-numbers : (words seen rest front back : List (List ℕ)) → words ≡ seen ++ rest
    → rest ≡ front ++ back → numbers words ≡ (numbers seen ++ numbers front) ++ numbers back
parted-numbers words seen rest front back is parts = search (rules, arith, parted, both-numbers)

-- What is carried, and a piece after it.
module _ (carried bytes piece : List ℕ) (is : carried ≡ rest_of bytes) where
  pub cut-words : (first others : List (List ℕ)) → numbers (first ++ others) ≡ words_of (carried ++ piece)
      → (words_of bytes ++ numbers first) ++ numbers others ≡ words_of (bytes ++ piece)
  cut-words first others cut = search (rules, arith, append_assoc, map-append, words_of-append)

  pub cut-rest : (rest : List ℕ) → rest ≡ rest_of (carried ++ piece) → rest ≡ rest_of (bytes ++ piece)
  cut-rest rest cut = cut ∙ ap (λ l. rest_of (l ++ piece)) is ∙ sym (rest_of-append bytes piece)

-- bytes of a refused stream, and more
pub refused-bytes : (how : StreamSettings) (bytes piece : List ℕ) (fault : Fault)
    → record_refusal how (words_of bytes) ≡ Some fault → record_refusal how (words_of (bytes ++ piece)) ≡ Some fault
refused-bytes how bytes piece fault h = rw (words_of-append bytes piece) (refused-more how (words_of bytes) _ fault h)
