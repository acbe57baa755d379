-- What `header` ends with is what its table calls for.
use Rattle.std.proofs.Common.{◌≡◌, ℕ, List, [], ◌++◌, None, Some, Ok, Err, refl, sym, ap, ◌∙◌, subst, inl, inr, ◌⊎◌, flat_map, arith, rules}
use Rattle.{std.specs.declared.option.Option.Option, tally_base.specs.{declared.fault.Fault.Fault, Faults.fault_in}, ptu_definitions.specs.TagList.Item}
use Rattle.ptu_definitions.specs.{Endings.HasHeader, Headers.{header_answer, head_of, seen, seen_preamble, HasNoFront, HasLongestFront}}
use Rattle.ptu_definitions.proofs.{Sound.one_answer, SeenLemmas.{seen-header, seen_preamble-header}, SeenLaws.{seen-longest, seen-none}, Longest.some-longest}
use Rattle.{list_out.specs.HeaderText.{preamble_part, item_text, shown_text, header_text}, command_work.specs.Outcomes.{Outcome, IsIn, status}}
use Rattle.{command_work.proofs.RestEnds.same-end, file_work.specs.FileOutcomes.header_outcome, ptu_cli.specs.{Tables.Applies, Cases.{Prints, PrintCase}}}
use Rattle.ptu_cli.{specs.Cases.print_lines, proofs.{Tables.Meets, Shapes.{Answer, header-status}}}

shown-at : (bytes : List ℕ) (start : Option (List ℕ)) (items : List Item) → seen_preamble bytes ≡ start
    → seen bytes ≡ items → shown_text bytes ≡ preamble_part start ++ flat_map item_text items
unfolding shown_text
shown-at bytes start items p q = rw (p, q) refl

head-text : (bytes : List ℕ) → header_text bytes ≡ shown_text (head_of bytes)
unfolding header_text
head-text bytes = refl

shown-header : (bytes : List ℕ) (items : List Item) (h : HasHeader bytes items)
    → shown_text bytes ≡ preamble_part (Some h.start) ++ flat_map item_text items
shown-header bytes items h = shown-at bytes (Some h.start) items
    (ap seen_preamble h.bytes_are ∙ seen_preamble-header h.start h.inner h.last h.header h.rest h.is_header)
    (ap seen h.bytes_are ∙ seen-header h.start h.inner h.last h.header h.rest h.is_header ∙ sym h.items_are)

prints-holds : (bytes : List ℕ) → Prints bytes (shown_text bytes)
prints-holds bytes = by (some-longest bytes)
  where
    by : HasNoFront bytes ⊎ (HasLongestFront bytes ⊎ ((items : List Item) × HasHeader bytes items)) → Prints bytes (shown_text bytes)
    by (inl none) = let shown = seen-none bytes none in inl (none, shown-at bytes None [] shown.0 shown.1)
    by (inr (inl h)) =
        let shown = seen-longest bytes h.0 h.1 h.2 h.3 h.4 in
        inr (inl (record { start = h.0; items = h.1; front = h.2; rest = h.3; longest = h.4; text_is = shown-at bytes (Some h.0) _ shown.0 shown.1 }))
    by (inr (inr h)) = inr (inr (record { items = h.0; found = h.1; text_is = shown-header bytes h.0 h.1 }))

prints-only : (bytes text : List ℕ) → Prints bytes text → shown_text bytes ≡ text
prints-only bytes text (inl h) = let shown = seen-none bytes h.0 in shown-at bytes None [] shown.0 shown.1 ∙ sym h.1
prints-only bytes text (inr (inl h)) = search (rules, arith, seen-longest, shown-at)
prints-only bytes text (inr (inr h)) = shown-header bytes h.items h.found ∙ sym h.text_is

pub print-meets : {K : Type 0} → Meets {K = K} (λ known. Unit {0}) print_lines (λ known bytes. header_outcome bytes)
print-meets = record {
  holds = λ known bytes given. holds known bytes (header_answer bytes) refl;
  only = λ known bytes end given h. elim h [
    | inl e ↦ only bytes (Err e.0) end e.1
    | inr e ↦ elim e [ inl e ↦ only bytes (Ok e.0) end e.1 | inr never ↦ absurd never ]
  ];
  sound = (λ n s. s, λ end known bytes e. subst (λ (o : Option Fault). IsIn 10 16 (status o)) (sym e.1.fault_is) (header-status bytes e.0 e.1.is_answer), (λ n s. s, λ end known bytes e. subst (λ (o : Option Fault). IsIn 0 0 (status o)) (sym e.1.fault_is) (omega arith, omega arith), tt));
}
  where
    printed : (bytes : List ℕ) (answer : Answer) → header_answer bytes ≡ answer → PrintCase bytes answer (header_outcome bytes)
    printed bytes answer e = record {
      is_answer = (one_answer bytes answer).1 e;
      fault_is = ap fault_in e;
      prints = subst (Prints (head_of bytes)) (sym (head-text bytes)) (prints-holds (head_of bytes));
    }

    holds : {K : Type 0} (known : K) (bytes : List ℕ) (answer : Answer) → header_answer bytes ≡ answer → Applies print_lines known bytes (header_outcome bytes)
    holds known bytes (Err fault) e = inl (fault, printed bytes (Err fault) e)
    holds known bytes (Ok found) e = inr (inl (found, printed bytes (Ok found) e))

    only : (bytes : List ℕ) (answer : Answer) (end : Outcome) → PrintCase bytes answer end → header_outcome bytes ≡ end
    only bytes answer end h =
        same-end (header_outcome bytes) end.text end.fault (head-text bytes ∙ prints-only (head_of bytes) end.text h.prints)
        (ap fault_in ((one_answer bytes answer).0 h.is_answer) ∙ sym h.fault_is)
