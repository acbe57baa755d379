-- The text of a body that grows by a byte.
use Rattle.std.proofs.Common.{◌≡◌, ◌≢◌, ℕ, List, [], ◌∷◌, ◌++◌, Bool, true, false, cond, refl, sym, ap, ◌∙◌, append-nil, ◌==◌, not, take_while, ◌&&◌, arith}
use Rattle.std.{proofs.{Common.rules, lemmas.{Grind.flat_map-append, List.Sums.take_while-cons}}, specs.List.{flat_map, list_all}}
use Rattle.{tally_base.specs.Hexadecimal.hexadecimal, ptu_header.specs.declared.kind.TagKind.{TagKind, TheVariants.AnsiString}}
use Rattle.list_out.specs.{HeaderText.{body_text, shown_byte}, Lines.has_no_nul}

-- a front without what ends it is passed whole
pub take_while-passed : (p : ℕ → Bool) (front more : List ℕ) → list_all p front ≡ true → take_while p (front ++ more) ≡ front ++ take_while p more
take_while-passed p [] more h = refl
take_while-passed p (x ∷ xs) more h = take_while-cons p x (xs ++ more)
    ∙ elim (p x) as (λ b. ((b && list_all p xs) ≡ true) → cond b (x ∷ take_while p (xs ++ more)) [] ≡ x ∷ (xs ++ take_while p more))
    [ true ↦ λ h. ap (λ l. x ∷ l) (take_while-passed p xs more h) | false ↦ λ h. cc ] h

-- after what ends it nothing counts
pub take_while-ended : (p : ℕ → Bool) (front more : List ℕ) → list_all p front ≡ false → take_while p (front ++ more) ≡ take_while p front
take_while-ended p [] more h = cc
take_while-ended p (x ∷ xs) more h = take_while-cons p x (xs ++ more)
    ∙ elim (p x) as (λ b. ((b && list_all p xs) ≡ false) → cond b (x ∷ take_while p (xs ++ more)) [] ≡ cond b (x ∷ take_while p xs) [])
    [ true ↦ λ h. ap (λ l. x ∷ l) (take_while-ended p xs more h) | false ↦ λ h. refl ] h ∙ sym (take_while-cons p x xs)

pub body_text-digits : (kind : TagKind) (body more : List ℕ) → kind ≢ AnsiString
    → body_text kind (body ++ more) ≡ body_text kind body ++ flat_map (hexadecimal 2) more
unfolding body_text
body_text-digits kind body more h = search (rules, arith, flat_map-append)

pub body_text-passed : (body more : List ℕ) → has_no_nul body ≡ true
    → body_text AnsiString (body ++ more) ≡ body_text AnsiString body ++ flat_map (shown_byte 0x20) (take_while (λ byte. not (byte == 0)) more)
unfolding body_text
body_text-passed body more h =
    let whole : take_while (λ byte. not (byte == 0)) body ≡ body =
    sym (ap (take_while (λ byte. not (byte == 0))) (append-nil body)) ∙ take_while-passed (λ byte. not (byte == 0)) body [] h ∙ append-nil body in
    ap (flat_map (shown_byte 0x20)) (take_while-passed (λ byte. not (byte == 0)) body more h)
    ∙ flat_map-append (shown_byte 0x20) body (take_while (λ byte. not (byte == 0)) more)
    ∙ ap (λ l. flat_map (shown_byte 0x20) l ++ flat_map (shown_byte 0x20) (take_while (λ byte. not (byte == 0)) more)) (sym whole)

pub body_text-ended : (body more : List ℕ) → has_no_nul body ≡ false → body_text AnsiString (body ++ more) ≡ body_text AnsiString body
unfolding body_text
body_text-ended body more h = ap (flat_map (shown_byte 0x20)) (take_while-ended (λ byte. not (byte == 0)) body more h)
