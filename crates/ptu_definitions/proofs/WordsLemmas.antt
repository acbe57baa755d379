-- The words of bytes that grow, and of bytes in fours.
use Rattle.std.proofs.Common.{◌≡◌, ◌/◌, ◌%◌, ◌<◌, ◌≤◌, ℕ, List, [], ◌∷◌, ◌++◌, length, refl, ap, arith, rules, ◌*◌, suc, drop, length-append, Bool}
use Rattle.std.{proofs.lemmas.{Grind.common_steps, Bool.Decides.nat_tests}, specs.{Simd.first_chunks, Int.{from_le_bytes, w32}}}
use Rattle.{tally_base.specs.{declared.header.{RecordType.RecordType, Mode.TheVariants.{T2, T3}}, RecordTypes.mode_of}, ptu_definitions.specs.Words.word_of}
use Rattle.ptu_definitions.specs.{Words.{words_of, rest_of, numbers}, Layouts.{pico_t2, pico_t3, hydra_t2, hydra_t3, meaning_of, Fits}}

-- the words of bytes after others, by what was left over of these
pub words_of-append : (bytes piece : List ℕ) → words_of (bytes ++ piece) ≡ words_of bytes ++ words_of (rest_of bytes ++ piece)
words_of-append [] piece = refl
words_of-append (a ∷ []) piece = refl
words_of-append (a ∷ b ∷ []) piece = refl
words_of-append (a ∷ b ∷ c ∷ []) piece = refl
words_of-append (a ∷ b ∷ c ∷ d ∷ more) piece = ap (λ ws. word_of a b c d ∷ ws) (words_of-append more piece)

pub rest_of-append : (bytes piece : List ℕ) → rest_of (bytes ++ piece) ≡ rest_of (rest_of bytes ++ piece)
rest_of-append [] piece = refl
rest_of-append (a ∷ []) piece = refl
rest_of-append (a ∷ b ∷ []) piece = refl
rest_of-append (a ∷ b ∷ c ∷ []) piece = refl
rest_of-append (a ∷ b ∷ c ∷ d ∷ more) piece = rest_of-append more piece

-- each word has four bytes
pub length-words_of : (bytes : List ℕ) → length (words_of bytes) ≡ length bytes / 4
length-words_of [] = refl
length-words_of (a ∷ []) = refl
length-words_of (a ∷ b ∷ []) = refl
length-words_of (a ∷ b ∷ c ∷ []) = refl
length-words_of (a ∷ b ∷ c ∷ d ∷ more) = omega (arith, length-words_of more)

pub length-rest_of : (bytes : List ℕ) → length (rest_of bytes) ≡ length bytes % 4
length-rest_of [] = refl
length-rest_of (a ∷ []) = refl
length-rest_of (a ∷ b ∷ []) = refl
length-rest_of (a ∷ b ∷ c ∷ []) = refl
length-rest_of (a ∷ b ∷ c ∷ d ∷ more) = omega (arith, length-rest_of more)

-- more bytes give no fewer words
pub length-words_of-append : (bytes more : List ℕ) → length (words_of bytes) ≤ length (words_of (bytes ++ more))
length-words_of-append bytes more = omega (arith, length-words_of bytes, length-words_of (bytes ++ more), length-append bytes more)

-- bytes that are no word
pub words_of-few : (bytes : List ℕ) → length bytes < 4 → words_of bytes ≡ []
words_of-few bytes few = search (rules, arith)

pub rest_of-few : (bytes : List ℕ) → length bytes < 4 → rest_of bytes ≡ bytes
rest_of-few bytes few = search (rules, arith)

-- bytes that are one word
pub rest_of-four : (bytes : List ℕ) → length bytes ≡ 4 → rest_of bytes ≡ []
rest_of-four bytes four = search (rules, arith)

-- the fours of `as_chunks` are the words
number_of : (a b c d : ℕ) → from_le_bytes w32 (a ∷ b ∷ c ∷ d ∷ []) ≡ word_of a b c d
number_of a b c d = omega arith

pub numbers-chunks : (bytes : List ℕ) → numbers (first_chunks 4 (length bytes / 4) bytes) ≡ words_of bytes
numbers-chunks [] = refl
numbers-chunks (a ∷ []) = refl
numbers-chunks (a ∷ b ∷ []) = refl
numbers-chunks (a ∷ b ∷ c ∷ []) = refl
numbers-chunks (a ∷ b ∷ c ∷ d ∷ more) =
    let count : length (a ∷ b ∷ c ∷ d ∷ more) / 4 ≡ suc (length more / 4) = omega arith in
    rw (count, number_of a b c d, numbers-chunks more) refl

-- after the fours of `as_chunks` lies what is left over
pub drop-chunks : (bytes : List ℕ) → drop (length bytes / 4 * 4) bytes ≡ rest_of bytes
drop-chunks [] = refl
drop-chunks (a ∷ []) = refl
drop-chunks (a ∷ b ∷ []) = refl
drop-chunks (a ∷ b ∷ c ∷ []) = refl
drop-chunks (a ∷ b ∷ c ∷ d ∷ more) =
    let count : length (a ∷ b ∷ c ∷ d ∷ more) / 4 * 4 ≡ suc (suc (suc (suc (length more / 4 * 4)))) = omega arith in
    rw count (drop-chunks more)

-- The fields of each word are as large as the mode of its record type allows.

pico_t2-fits : (word : ℕ) → Fits T2 (pico_t2 word)
unfolding pico_t2
pico_t2-fits word = grind (arith, common_steps, nat_tests)

pico_t3-fits : (word : ℕ) → Fits T3 (pico_t3 word)
unfolding pico_t3
pico_t3-fits word = grind (arith, common_steps, nat_tests)

hydra_t2-fits : (old : Bool) (word : ℕ) → Fits T2 (hydra_t2 old word)
unfolding hydra_t2
hydra_t2-fits old word = grind (arith, common_steps, nat_tests)

hydra_t3-fits : (old : Bool) (word : ℕ) → Fits T3 (hydra_t3 old word)
unfolding hydra_t3
hydra_t3-fits old word = grind (arith, common_steps, nat_tests)

pub meaning-fits : (t : RecordType) (word : ℕ) → Fits (mode_of t) (meaning_of t word)
meaning-fits t word = search (rules, arith, pico_t2-fits, pico_t3-fits, hydra_t2-fits, hydra_t3-fits)
