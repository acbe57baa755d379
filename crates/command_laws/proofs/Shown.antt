-- The ends that bytes of FILE show by themselves.
use Rattle.std.proofs.Common.{◌≡◌, ◌≢◌, ◌^◌, ℕ, List, [], length, None, Some, Ok, Err, refl, sym, ap, ◌∙◌, inl, inr, arith, rules, append-nil, ◌⊎◌}
use Rattle.{std.{proofs.lemmas.List.length-take, specs.declared.option.Option.Option}, tally_base.specs.declared.fault.Fault.Fault}
use Rattle.tally_base.specs.{declared.{fault.Fault.TheVariants.TruncatedHeader, header.Header.Header}, Faults.fault_in}
use Rattle.ptu_definitions.{specs.Headers.{header_answer, Shows}, proofs.{SeenLaws.cut-size, Stays.{refused-stays, headed-stays}}}
use Rattle.{list_out.specs.HeaderText.header_text, command_work.specs.RecordsWork.{RecordsWork, RefusalStays, HeadedGoes, headed_end, headed_work}}
use Rattle.{command_work.proofs.RestEnds.end_with, file_work.{specs.FileOutcomes.printing, proofs.Ends.{outcome-done, outcome-refused}}}
use Rattle.{ptu_cli.proofs.Shapes.Answer, command_laws.specs.Ends.GoesOnOrShows}

-- A fault is that of a header that is cut, or it isn't.
cut-or : (fault : Fault) → ((count : ℕ) × (fault ≡ TruncatedHeader count)) ⊎ ((count : ℕ) → fault ≢ TruncatedHeader count)
cut-or (TruncatedHeader count) = inl (count, refl)
cut-or _ = inr (λ count e. cc)

-- ## What stands after a header

module _ (tells : Header → RecordsWork) (stays : (header : Header) → RefusalStays (tells header)) (bytes : List ℕ) where
  -- it is refused, or it isn't
  headed : (header : Header) (behind : List ℕ) → header_answer bytes ≡ Ok (header, behind) → (o : Option Fault) → (tells header).refuses behind ≡ o
      → ((tells header).refuses behind ≡ None) ⊎ Shows (λ b. headed_end tells (header_answer b)) bytes ((tells header).ends behind)
  headed header behind e None none = inl none
  headed header behind e (Some fault) refused = inr (λ more. ap (headed_end tells) (headed-stays bytes more behind header e)
      ∙ stays header behind more fault refused ∙ sym (stays header behind [] fault refused) ∙ ap (tells header).ends (append-nil behind))

  failed : (fault : Fault) → header_answer bytes ≡ Err fault → ((count : ℕ) × (fault ≡ TruncatedHeader count)) ⊎ ((count : ℕ) → fault ≢ TruncatedHeader count)
      → HeadedGoes tells (Err fault) ⊎ Shows (λ b. headed_end tells (header_answer b)) bytes (headed_end tells (Err fault))
  failed fault e h = search (rules, arith, refused-stays)

  pub headed-shows : GoesOnOrShows (headed_work tells (λ file. Unit {0})) bytes
  headed-shows = by (header_answer bytes) refl
    where
      by : (r : Answer) → header_answer bytes ≡ r → HeadedGoes tells r ⊎ Shows (λ b. headed_end tells (header_answer b)) bytes (headed_end tells r)
      by (Ok it) e = headed it.0 it.1 e ((tells it.0).refuses it.1) refl
      by (Err fault) e = failed fault e (cut-or fault)

-- ## header

pub print-shows : (bytes : List ℕ) → GoesOnOrShows printing bytes
print-shows bytes = by (header_answer bytes) refl
  where
    own : (r : Answer) → header_answer bytes ≡ r → end_with (header_text bytes) (fault_in (header_answer bytes)) ≡ end_with (header_text bytes) (fault_in r)
    own r e = ap (λ (r : Answer). end_with (header_text bytes) (fault_in r)) e

    failed : (fault : Fault) → header_answer bytes ≡ Err fault
        → ((count : ℕ) × (fault ≡ TruncatedHeader count)) ⊎ ((count : ℕ) → fault ≢ TruncatedHeader count) → GoesOnOrShows printing bytes
    failed fault e (inl cut) =
        let is = e ∙ ap (λ (f : Fault). Err f) cut.1 in
        let size = cut-size bytes cut.0 is in
        let all : cut.0 ≡ length bytes = omega (arith, size.0, size.1, length-take (2 ^ 24) bytes) in
        inl (is ∙ ap (λ n. Err (TruncatedHeader n)) all)
    failed fault e (inr other) = inr (λ more. outcome-refused bytes more fault (λ m. refused-stays bytes m fault e other) ∙ sym (own (Err fault) e))

    by : (r : Answer) → header_answer bytes ≡ r → GoesOnOrShows printing bytes
    by (Ok it) e = inr (λ more. outcome-done bytes more it.1 it.0 (λ m. headed-stays bytes m it.1 it.0 e) ∙ sym (own (Ok it) e))
    by (Err fault) e = failed fault e (cut-or fault)
