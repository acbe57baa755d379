-- The words after one more photon.
use Rattle.std.proofs.Common.{◌≡◌, ◌+◌, ◌<◌, ℕ, List, [], ◌∷◌, ◌++◌, refl, arith, rules, ◌-◌, ◌≤◌, length, take, drop, sym, ap, ◌∙◌, append_assoc, slice_range}
use Rattle.std.proofs.{lemmas.{List.{Sums.sum_by-cons, length-take, take-take, drop-append-le, drop-drop}, Slice.{take-put_mid, between_is}}, Math.Seq.take-add}
use Rattle.{std.proofs.Math.Seq.take-append-add, ptu_definitions.specs.Prefixes.{each_after, each}, ptu_made.specs.Generator.{next_state, states, gap, channel}}
use Rattle.ptu_made.specs.Generator.{last_time, photon_words, words_behind}
use borrow.Rule.Slice.PartMut.{put_mid}

-- what each state gives by the time of the photon before, its own time and its channel
abbrev pub Giving : Type 0 → Type 0
Giving A = ℕ → ℕ → ℕ → List A

abbrev given_by : {A : Type 0} → Giving A → ℕ → List ℕ → ℕ → List A
given_by give start before state = give (start + last_time before) (start + (last_time before + gap state)) (channel state)

abbrev pub all_given : {A : Type 0} → Giving A → ℕ → List ℕ → List A
all_given give start xs = each (given_by give start) xs

same_given : {A : Type 0} (give : Giving A) (before time other_before other_time number : ℕ)
    → before ≡ other_before → time ≡ other_time → give before time number ≡ give other_before other_time number
same_given give before time other_before other_time number b t = rw (b, t) refl

-- a state more in front is its gap
given_by-shift : {A : Type 0} (give : Giving A) (start state : ℕ) (before : List ℕ) (x : ℕ)
    → given_by give start (state ∷ before) x ≡ given_by give (start + gap state) before x
given_by-shift give start state before x =
    let more : last_time (state ∷ before) ≡ gap state + last_time before = sum_by-cons gap state before in
    same_given give _ _ _ _ (channel x) (omega (arith, more)) (omega (arith, more))

each-shift : {A : Type 0} (give : Giving A) (start state : ℕ) (before xs : List ℕ)
    → each_after (given_by give start) (state ∷ before) xs ≡ each_after (given_by give (start + gap state)) before xs
each-shift give start state before [] = refl
each-shift give start state before (x ∷ xs) = rw (given_by-shift give start state before x, each-shift give start state (before ++ x ∷ []) xs) refl

pub all_given-cons : {A : Type 0} (give : Giving A) (start state : ℕ) (xs : List ℕ)
    → all_given give start (state ∷ xs) ≡ give start (start + gap state) (channel state) ++ all_given give (start + gap state) xs
all_given-cons give start state xs = search (rules, arith, each-shift, given_by, same_given)

pub words_behind-cons : (start state : ℕ) (xs : List ℕ)
    → words_behind start (state ∷ xs) ≡ photon_words start (start + gap state) (channel state) ++ words_behind (start + gap state) xs
words_behind-cons start state xs = all_given-cons photon_words start state xs

pub states-none : (count seed : ℕ) → count ≡ 0 → states count seed ≡ []
unfolding states
states-none count seed none = search (rules, arith)

pub states-some : (count seed : ℕ) → 0 < count → (n : ℕ) → count ≡ n + 1 → states count seed ≡ next_state seed ∷ states n (next_state seed)
unfolding states
states-some count seed some n is = search (rules, arith)

-- Bytes that are held in a part of an array.

pub held-more : (next end k : ℕ) (held bytes : List ℕ) → next ≤ end → end ≤ length held → length bytes ≡ 4
    → slice_range (put_mid end k held bytes) next (end + 4) ≡ slice_range held next end ++ bytes
held-more next end k held bytes low fits four = search (rules, arith, between_is, take-put_mid, drop-append-le, length-take)

pub held-split : (next end count : ℕ) (held : List ℕ) → next + count ≤ end
    → slice_range held next end ≡ slice_range held next (next + count) ++ slice_range held (next + count) end
held-split next end count held fits =
    let whole : end - next ≡ count + (end - (next + count)) = omega arith in
    let part : (next + count) - next ≡ count = omega arith in
    rw (whole, part) (take-add count (end - (next + count)) (drop next held)
    ∙ ap (λ l. take count (drop next held) ++ take (end - (next + count)) l) (drop-drop count next held))

-- the first bytes with those that were read after them
read_behind : (filled k count : ℕ) (into new : List ℕ) → filled ≤ length into → count ≤ length new
    → take (filled + count) (put_mid filled k into new) ≡ take filled into ++ take count new
read_behind filled k count into new fits few =
    let size : length (take filled into) ≡ filled = length-take filled into ∙ omega arith in
    sym (take-take (filled + count) (filled + length new) (put_mid filled k into new) (omega arith))
    ∙ ap (take (filled + count)) (take-put_mid filled k into new (filled + length new) refl fits)
    ∙ ap (λ n. take (n + count) (take filled into ++ new)) (sym size) ∙ take-append-add (take filled into) new count

-- what was given and what is left, after one more part
pub given_behind : (filled count k : ℕ) (into new old before left : List ℕ) → filled ≤ length into
    → count ≤ length new → old ≡ take filled into ++ before → before ≡ take count new ++ left → old ≡ take (filled + count) (put_mid filled k into new) ++ left
given_behind filled count k into new old before left fits few was step = search (rules, arith, append_assoc, read_behind)
