-- How many of some words are of each kind.
use Rattle.std.proofs.Common.{rules, ◌≡◌, ◌+◌, ◌-◌, ◌<◌, ◌≤◌, ℕ, zero, suc, get_or, take, List, [], ◌∷◌, ◌++◌, Bool, cond, length, map, refl, ◌∙◌, arith}
use Rattle.std.{proofs.{Common.count_by, lemmas.List.{length-append, length-map, Sums.sum_by-append}}, specs.Int.{from_le_bytes, w32}}
use Rattle.ptu_definitions.specs.{declared.records.{KindCounts.KindCounts, Raw.{Raw, TheVariants.{Photon, Marker, Wrap, Reserved}}}, Words.numbers}
use Rattle.{ptu_definitions.specs.Kinds.{is_photon, is_marker, is_wrap, is_reserved, counts_of}, record_layout.specs.Sums.{IsSplit, sum_of}}

count_by-append : {X : Type 0} (p : X → Bool) (xs ys : List X) → count_by p (xs ++ ys) ≡ count_by p xs + count_by p ys
count_by-append p xs ys = sum_by-append (λ x. cond (p x) 1 0) xs ys

count_by-cons : {X : Type 0} (p : X → Bool) (x : X) (xs : List X) → count_by p (x ∷ xs) ≡ cond (p x) 1 0 + count_by p xs
count_by-cons p x xs = let e = count_by-append p (x ∷ []) xs in omega (arith, e)

-- one element more
pub count-more : {X : Type 0} (p : X → Bool) (xs : List X) (i : ℕ) (d : X) → i < length xs
    → count_by p (take (i + 1) xs) ≡ count_by p (take i xs) + cond (p (get_or xs i d)) 1 0
count-more p xs i d lt = let e : i + 1 ≡ suc i = omega arith in rw e (one-more p xs i d lt)
  where
    one-more : {X : Type 0} (p : X → Bool) (xs : List X) (i : ℕ) (d : X) → i < length xs
        → count_by p (take (suc i) xs) ≡ count_by p (take i xs) + cond (p (get_or xs i d)) 1 0
    one-more p [] i d lt = absurd (omega (arith, lt))
    one-more p (x ∷ xs) zero d lt = omega (arith, count_by-cons p x [])
    one-more p (x ∷ xs) (suc i) d lt =
        let more = one-more p xs i d (omega (arith, lt)) in
        omega (arith, more, count_by-cons p x (take (suc i) xs), count_by-cons p x (take i xs))

-- each record is of one kind
pub counts_of-split : (records : List Raw) → IsSplit (counts_of records)
counts_of-split [] = refl
counts_of-split (Photon input time dtime ∷ records) = omega (arith, counts_of-split records, count_by-cons {X = Raw})
counts_of-split (Marker bits time ∷ records) = omega (arith, counts_of-split records, count_by-cons {X = Raw})
counts_of-split (Wrap amount ∷ records) = omega (arith, counts_of-split records, count_by-cons {X = Raw})
counts_of-split (Reserved ∷ records) = omega (arith, counts_of-split records, count_by-cons {X = Raw})

-- counting by a test of what words mean, over their bytes
count_by-meanings : (p : Raw → Bool) (meaning : ℕ → Raw) (words : List (List ℕ))
    → count_by (λ bytes. p (meaning (from_le_bytes w32 bytes))) words ≡ count_by p (map meaning (numbers words))
count_by-meanings p meaning [] = refl
count_by-meanings p meaning (bytes ∷ words) = search (rules, arith, count_by-cons, count_by-meanings p meaning words)

pub length-meanings : (meaning : ℕ → Raw) (words : List (List ℕ)) → length (map meaning (numbers words)) ≡ length words
length-meanings meaning words = length-map (numbers words) meaning ∙ length-map words (from_le_bytes w32)

-- What is counted of words is as many records, each of one kind.
module _ (meaning : ℕ → Raw) (words : List (List ℕ)) (counts : KindCounts) (is : counts ≡ counts_of (map meaning (numbers words))) where
  pub counted_records : counts.records ≡ length words
  counted_records = rw is (length-meanings meaning words)

  pub counted_split : IsSplit counts
  counted_split = rw is (counts_of-split (map meaning (numbers words)))

-- The counts of three kinds are all that is to be counted.
module _ (meaning : ℕ → Raw) (words : List (List ℕ)) (photons markers wraps : ℕ)
    (photons_are : photons ≡ count_by (λ bytes. is_photon (meaning (from_le_bytes w32 bytes))) words)
    (markers_are : markers ≡ count_by (λ bytes. is_marker (meaning (from_le_bytes w32 bytes))) words)
    (wraps_are : wraps ≡ count_by (λ bytes. is_wrap (meaning (from_le_bytes w32 bytes))) words) where
  others : photons + markers + wraps + count_by is_reserved (map meaning (numbers words)) ≡ length words
  others = search (rules, arith, count_by-meanings, counts_of-split, length-meanings)

  pub others-fit : photons + markers + wraps ≤ length words
  others-fit = let h = others in omega (arith, h)

  pub counts_of-three : record {
    records = length words;
    photons = photons;
    markers = markers;
    wraps =
        wraps;
    reserved = length words - (photons + markers + wraps);
  } ≡ counts_of (map meaning (numbers words))
  counts_of-three =
      let h = others in
      let rest : length words - (photons + markers + wraps) ≡ count_by is_reserved (map meaning (numbers words)) = omega (arith, h) in
      rw (
        rest,
        photons_are,
        markers_are,
        wraps_are,
        count_by-meanings is_photon meaning words,
        count_by-meanings is_marker meaning words,
        count_by-meanings is_wrap meaning words,
        ← length-meanings meaning words,
      ) refl

-- the counts of records and of more after them
pub counts_of-append : (records more : List Raw) → counts_of (records ++ more) ≡ sum_of (counts_of records) (counts_of more)
counts_of-append records more = simp (length-append, count_by-append)
