-- A counter's bytes grow.
use Rattle.std.proofs.Common.{rules, ◌≡◌, ◌+◌, ◌-◌, ◌*◌, ◌<◌, ◌≤◌, ℕ, List, [], ◌++◌, length, map, Ok, Err, refl, sym, ap, ◌∙◌, arith, length-append, ◌∷◌, take}
use Rattle.std.proofs.{Common.{drop, get_or, take-append-drop, append_assoc, Option, MatchOption}, lemmas.List.{length-map, map-append}}
use Rattle.{std.proofs.lemmas.Bool.Decides.nat_tests, tally_base.specs.declared.fault.Fault.TheVariants.{RecordLimit, TruncatedRecord}}
use Rattle.{tally_base.specs.declared.header.RecordType.RecordType, ptu_definitions.specs.{declared.records.KindCounts.KindCounts, Words.{words_of, rest_of}}}
use Rattle.ptu_definitions.specs.{Words.{numbers, counted, records_of, record_limit}, Layouts.meaning_of, Kinds.counts_of, Headers.Shows, Prefixes.listed}
use Rattle.ptu_definitions.proofs.WordsLemmas.{words_of-append, rest_of-append, length-words_of, length-rest_of, length-words_of-append, rest_of-four}
use Rattle.record_layout.{specs.{Sums.sum_of, Counting.AreCounts}, proofs.KindLemmas.counts_of-append}

module _ (record_type : RecordType) (carried : List ℕ) (counts : KindCounts) (bytes : List ℕ) (h : AreCounts record_type carried counts bytes) where
  -- each word is counted
  records-counted : counts.records ≡ length (words_of bytes)
  unfolding records_of
  records-counted = ap (λ (k : KindCounts). k.records) h.kinds ∙ length-map (words_of bytes) (meaning_of record_type)

  carried-short : length carried < 4
  carried-short = let rest : length carried ≡ length (rest_of bytes) = ap length h.rest in omega (arith, rest, length-rest_of bytes)

  -- each byte is counted or carried
  bytes-taken : 4 * counts.records + length carried ≡ length bytes
  bytes-taken = search (rules, arith, records-counted, length-words_of, length-rest_of)

  -- a piece that there is room for
  pub words-fit : (piece : List ℕ) → length piece ≤ 4 * (record_limit - counts.records) + 3 - length carried → length (words_of (bytes ++ piece)) ≤ record_limit
  words-fit piece fits = omega (arith, h.few, records-counted, carried-short, bytes-taken, length-words_of (bytes ++ piece), length-append bytes piece)

  -- a piece that there is no room for
  pub words-pass : (piece : List ℕ) → 4 * (record_limit - counts.records) + 3 - length carried < length piece
      → record_limit < length (words_of (bytes ++ piece))
  words-pass piece passes = omega (arith, h.few, records-counted, carried-short, bytes-taken, length-words_of (bytes ++ piece), length-append bytes piece)

  -- a piece is counted with what was carried
  pub AreCounts-append : (piece : List ℕ) (more : KindCounts) → length piece ≤ 4 * (record_limit - counts.records) + 3 - length carried
      → more ≡ counts_of (map (meaning_of record_type) (words_of (carried ++ piece)))
      → AreCounts record_type (rest_of (carried ++ piece)) (sum_of counts more) (bytes ++ piece)
  unfolding records_of
  AreCounts-append piece more fits counted_more = search (rules, arith, rest_of-append, words_of-append, map-append, counts_of-append, words-fit)

  pub counted-whole : length carried ≡ 0 → Ok counts ≡ counted record_type bytes
  unfolding counted
  counted-whole none = search (rules, arith)

  pub counted-cut : (length carried ≡ 0 → ⊥) → Err (TruncatedRecord (length carried)) ≡ counted record_type bytes
  unfolding counted
  counted-cut some = search (rules, arith)

-- no bytes
pub AreCounts-none : (record_type : RecordType) → AreCounts record_type [] (record { records = 0; photons = 0; markers = 0; wraps = 0; reserved = 0 }) []
unfolding records_of
AreCounts-none record_type = record { rest = refl; kinds = refl; few = omega arith }

-- the counts of two lists of words, one after the other
pub counts_of-both : (record_type : RecordType) (first others : List (List ℕ)) (words : List ℕ) (counts more : KindCounts)
    → counts ≡ counts_of (map (meaning_of record_type) (numbers first)) → more ≡ counts_of (map (meaning_of record_type) (numbers others))
    → numbers (first ++ others) ≡ words → sum_of counts more ≡ counts_of (map (meaning_of record_type) words)
counts_of-both record_type first others words counts more of_first of_others are = search (rules, arith, map-append, counts_of-append)

-- too many words stay too many
pub words-more : (bytes more : List ℕ) → record_limit < length (words_of bytes) → record_limit < length (words_of (bytes ++ more))
words-more bytes more many = omega (arith, length-words_of-append bytes more)

pub counted-limit : (record_type : RecordType) (bytes : List ℕ) → record_limit < length (words_of bytes)
    → Err (RecordLimit record_limit) ≡ counted record_type bytes
unfolding counted
counted-limit record_type bytes many = grind (arith, nat_tests)

-- too many words are refused, whatever comes after them
pub counted-shows : (record_type : RecordType) (bytes : List ℕ) → record_limit < length (words_of bytes)
    → Shows (counted record_type) bytes (Err (RecordLimit record_limit))
counted-shows record_type bytes many = λ more. sym (counted-limit record_type (bytes ++ more) (words-more bytes more many))

-- A begun word, and a piece after it.

pub none_of : (xs : List ℕ) → length xs ≡ 0 → xs ≡ []
none_of [] none = refl
none_of (x ∷ xs) none = absurd (omega arith)

-- a value in a slice of its own
pub slice-listed : {X : Type 0} (o : Option X) (xs : List X) → MatchOption o (xs ≡ []) (λ x. xs ≡ x ∷ []) → xs ≡ listed o
slice-listed o xs is = search (rules, arith)

-- the only word of a list
pub only-word : (words : List (List ℕ)) (d : List ℕ) → length words ≡ 1 → words ≡ get_or words 0 d ∷ []
only-word [] d one = absurd (omega arith)
only-word (w ∷ []) d one = refl
only-word (w ∷ v ∷ words) d one = absurd (omega arith)

module _ (begun piece : List ℕ) (n : ℕ) (four : length (begun ++ take n piece) ≡ 4) where
  parted : begun ++ piece ≡ (begun ++ take n piece) ++ drop n piece
  parted = ap (λ l. begun ++ l) (sym (take-append-drop n piece)) ∙ sym (append_assoc begun (take n piece) (drop n piece))

  -- the word that a piece completes comes first
  pub words-completed : words_of (begun ++ piece) ≡ words_of (begun ++ take n piece) ++ words_of (drop n piece)
  words-completed = search (rules, arith, parted, words_of-append, rest_of-four)

  pub rest-completed : rest_of (begun ++ piece) ≡ rest_of (drop n piece)
  rest-completed = search (rules, arith, parted, rest_of-append, rest_of-four)
