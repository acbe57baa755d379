-- Words that are put into a block one after another.
use Rattle.std.proofs.Common.{◌≡◌, ◌≢◌, ◌+◌, ◌-◌, ◌/◌, ◌%◌, ◌<◌, ℕ, false, List, [], ◌∷◌, ◌++◌, replicate, refl, sym, ap, subst, ◌∙◌, append_assoc, append-nil}
use Rattle.std.proofs.{Common.{arith, ◌==◌}, lemmas.{List.{replicate_more, replicate-append-replicate}, Bool.ne_eqb}}
use Rattle.{tally_base.specs.declared.event.Event.Event, bench_io.{specs.Sinks.{SinkState, WroteShort, PassesOn}, proofs.Bytes.WroteShort-same}}
use Rattle.bench_io.proofs.Bytes.{WroteShort-more, WroteShort-flushed, WroteShort-passed, PassesOn-held, PassesOn-trans}
use Rattle.{ptu_definitions.proofs.PrefixLemmas.last_after-push, minimal_file.{specs.ShortFiles.bytes_in, proofs.ShortHeaders.bytes_in-append}}
use Rattle.record_write.specs.{Picked.{wrap_word, wraps, time_or_none, last_time}, Writing.{PutsWords, CutsWords}}

more-bytes : (held xs ys : List ℕ) → (held ++ bytes_in xs) ++ bytes_in ys ≡ held ++ bytes_in (xs ++ ys)
more-bytes held xs ys = append_assoc held (bytes_in xs) (bytes_in ys) ∙ ap (λ l. held ++ l) (sym (bytes_in-append xs ys))

pub puts-none : (a : SinkState) (held : List ℕ) → PutsWords a a held held []
puts-none a held = rw append-nil (PassesOn-held a held)

pub puts-more : (a b c : SinkState) (held mid now xs ys : List ℕ)
    → PutsWords a b held mid xs → PutsWords b c mid now ys → PutsWords a c held now (xs ++ ys)
puts-more a b c held mid now xs ys p q =
    subst (λ text. PassesOn a c text now) (more-bytes held xs ys) (PassesOn-trans a b c (held ++ bytes_in xs) mid (bytes_in ys) now p q)

pub cuts-behind : (a b c : SinkState) (held mid now xs ys : List ℕ)
    → PutsWords a b held mid xs → CutsWords b c mid now ys → CutsWords a c held now (xs ++ ys)
cuts-behind a b c held mid now xs ys p q = record {
  short = WroteShort-same a c _ _ (more-bytes held xs ys) (WroteShort-passed a b c (held ++ bytes_in xs) mid (bytes_in ys) p q.short);
  empty = q.empty;
}

pub cuts-front : (a b : SinkState) (held now xs ys : List ℕ) → CutsWords a b held now xs → CutsWords a b held now (xs ++ ys)
cuts-front a b held now xs ys q = record {
  short = WroteShort-same a b _ _ (more-bytes held xs ys) (WroteShort-more a b (held ++ bytes_in xs) (bytes_in ys) q.short);
  empty = q.empty;
}

-- one copy more
pub puts-copy : (a b c : SinkState) (held mid now : List ℕ) (n word : ℕ) → PutsWords a b held mid (replicate n word)
    → PutsWords b c mid now (word ∷ []) → PutsWords a c held now (replicate (n + 1) word)
puts-copy a b c held mid now n word p q =
    subst (λ words. PutsWords a c held now words) (replicate_more n word) (puts-more a b c held mid now (replicate n word) (word ∷ []) p q)

pub cuts-copy : (a b c : SinkState) (held mid now : List ℕ) (n count word : ℕ) → n < count
    → PutsWords a b held mid (replicate n word) → CutsWords b c mid now (word ∷ []) → CutsWords a c held now (replicate count word)
cuts-copy a b c held mid now n count word few p q =
    let whole : (n + 1) + (count - (n + 1)) ≡ count = omega arith in
    subst (CutsWords a c held now) (replicate-append-replicate (n + 1) (count - (n + 1)) word ∙ ap (λ k. replicate k word) whole)
    (cuts-front a c held now _ _ (subst (CutsWords a c held now) (replicate_more n word) (cuts-behind a b c held mid now _ (word ∷ []) p q)))

-- The wraps of so many units.
pub even-wraps : (most units word : ℕ) → word ≡ wrap_word most → units % most ≡ 0 → replicate (units / most) word ≡ wraps most units
even-wraps most units word is none = rw (is, none) (sym (append-nil (replicate (units / most) (wrap_word most))))

pub odd-wraps : (most units first last : ℕ) → first ≡ wrap_word most → last ≡ wrap_word (units % most)
    → units % most ≢ 0 → replicate (units / most) first ++ last ∷ [] ≡ wraps most units
odd-wraps most units first last is is_last some = let left : (units % most == 0) ≡ false = ne_eqb (units % most) 0 some in rw (is, is_last, left) refl

-- What a block passes on that held nothing before.
pub short-flushed : (a b c : SinkState) (held now words : List ℕ) → held ≡ []
    → PutsWords a b held now words → WroteShort b c now → WroteShort a c (bytes_in words)
short-flushed a b c held now words none p q = let all = rw none at p in WroteShort-flushed a b c (bytes_in words) now all q

pub last_time-push : (photons : List Event) (e : Event) → e.time ≡ last_time (photons ++ e ∷ [])
last_time-push photons e = sym (ap time_or_none (last_after-push _ photons e))
