-- A text that stands after another one.
use Rattle.std.proofs.Common.{◌≡◌, ◌∙◌, ℕ, Bool, List, [], ◌++◌, None, Ok, Err, sym, ap, append_assoc, append-nil, inl, inr, Result, arith, rules}
use Rattle.{std.specs.declared.option.Option.Option, tally_base.specs.declared.{event.Event.Event, fault.Fault.Fault, header.Header.Header}}
use Rattle.{tally_base.specs.RecordTypes.mode_of, bench_io.specs.{Sinks.SinkState, Texts.{WroteText, CutText, WritesText}}}
use Rattle.{ptu_definitions.specs.Streams.StreamSettings, plan_text.specs.{Plan.PlanView, Fits.fits}, gate_plan.specs.Shifting.{Sorting, sorting}}
use Rattle.{gate_plan.specs.Histories.reading_by, minimal_file.specs.ShortFiles.short_header, record_write.specs.declared.picker.Picker.Picker}
use Rattle.{record_write.specs.Picker.HasPicked, photon_pick.{specs.Chosen.is_chosen, proofs.Stays.{text-none, has-none, unrefused}}}
use Rattle.{command_work.proofs.RestEnds.refused-none, pick_work.specs.PickOutcomes.{picks, picks_by}}

module _ (head shown grown : List ℕ) (refused : Option Fault) (old new : SinkState) where
  adds : (more : List ℕ) → grown ≡ shown ++ more → head ++ grown ≡ (head ++ shown) ++ more
  adds more is = ap (λ l. head ++ l) is ∙ sym (append_assoc head shown more)

  wrote : WroteText shown grown old new → WroteText (head ++ shown) (head ++ grown) old new
  wrote h = record { more = h.more; adds = adds h.more h.adds; wrote = h.wrote }

  cut : CutText shown grown old new → CutText (head ++ shown) (head ++ grown) old new
  cut h = record { more = h.more; adds = adds h.more h.adds; cut = h.cut }

  pub writes-headed : (r : Result (Unit {0}) Fault) → WritesText shown grown refused old new r
      → WritesText (head ++ shown) (head ++ grown) refused old new r
  writes-headed (Ok done) h = (h.0, wrote h.1)
  writes-headed (Err fault) (inl h) = inl (h.0, wrote h.1)
  writes-headed (Err fault) (inr h) = inr (h.0, cut h.1)

-- no photon is picked of no bytes, and the header of the file stands alone
module _ (chooses : Event → Bool) (how : StreamSettings) where
  pub picks-start : (picks chooses how).text [] ≡ short_header how.mode
  picks-start = ap (λ l. short_header how.mode ++ l) (text-none chooses how) ∙ append-nil (short_header how.mode)

  pub picks-none : (picker : Picker) → HasPicked picker [] → (picks chooses how).refuses [] ≡ None
  picks-none picker none = unrefused chooses how [] picker (has-none chooses how picker none) (refused-none how)

-- a reader of a plan that suits is told of as the plan is
pub picks-same : (group : ℕ) (plan : PlanView) (header : Header) (by : Sorting) (how : StreamSettings) → fits (mode_of header.record_type) plan ≡ Ok tt
    → by ≡ sorting plan → how ≡ reading_by plan header → picks (is_chosen by group) how ≡ picks_by group plan header
picks-same group plan header by how suits same_sorting same_how = search (rules, arith)
