use Rattle.std.proofs.Common.{arith, ◌≡◌, ◌<◌, length, slice_index, ◌≤◌, ℕ, List, take, get_or, ap, sym, true, false, inl, inr, Bool, nat_eq, not}
use Rattle.std.proofs.lemmas.{List.Sums.{prefix_len-le-length, prefix_len_passes, prefix_len_stops}, Bool.{cases_order, Decides.nat_tests}}
use Rattle.{std.specs.List.prefix_len, ptu_definitions.specs.TagList.name_of, ptu_header.proofs.head.TagHead.name.Goals.then-bytes-test+else-self-len-ne0}
use Rattle.ptu_header.proofs.head.TagHead.name.Goals.{else-bytes-test}
use Rattle.ptu_header.proofs.head.TagHead.name.Goals as goal

-- a name ends before the first NUL
abbrev passes : ℕ → Bool
passes byte = not (nat_eq byte 0)

passes-no : (byte : ℕ) → passes byte ≡ false → byte ≡ 0
passes-no byte h = grind (arith, nat_tests)

passes-yes : (byte : ℕ) → passes byte ≡ true → byte ≡ 0 → ⊥
passes-yes byte h e = grind (arith, nat_tests)

name_of-take : (ident : List ℕ) (len : ℕ) → len ≤ length ident
    → ((k : ℕ) → k < len → slice_index ident k ≡ 0 → ⊥) → (len < length ident → slice_index ident len ≡ 0) → take len ident ≡ name_of ident
name_of-take ident len fits none end =
    let m = prefix_len passes ident in
    let all = prefix_len-le-length passes ident in
    elim (cases_order m len) [
      | inl same ↦ ap (λ n. take n ident) (sym same)
      | inr (inl less) ↦ absurd (none m less (passes-no (get_or ident m 0) (prefix_len_stops passes ident 0 (omega arith))))
      | inr (inr more) ↦ absurd (passes-yes (get_or ident len 0) (prefix_len_passes passes ident len 0 more) (end (omega arith)))
    ]

pub returns : goal.returns
returns c =
    let ident = c.args.self.now.ident in
    let end : c.bytes.len < length ident → slice_index ident c.bytes.len ≡ 0 = λ less.
    elim c.bytes-test.branch [
      | then-bytes-test+else-self-len-ne0 w ↦ w.if-self-len-ne0.false
      | else-bytes-test w ↦ absurd (omega (arith, w.bytes-test.false, less))
    ] in
    name_of-take ident c.bytes.len (omega (arith, c.bytes.invariant.fits)) c.bytes.invariant.none end
