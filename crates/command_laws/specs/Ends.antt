-- How commands end over their files, in words that the laws share.
use Rattle.std.specs.{Prelude.{ℕ, ◌≡◌, ◌≤◌, ◌⊎◌, ◌↔◌, List, [], None, Some, Ok, false, length, map}, declared.option.Option.Option}
use Rattle.{tally_base.specs.{declared.{event.Event.Event, fault.Fault.Fault, header.{Header.Header, Mode.Mode}}, RecordTypes.mode_of, Faults.status_of}, bench_io.specs.Inputs.File}
use Rattle.{ptu_definitions.specs.{Words.{words_of, rest_of, record_limit}, Headers.{HasAnswer, Shows}}, plan_text.specs.Plan.PlanView, gate_plan.specs.Histories.reading_by}
use Rattle.{photon_pick.specs.{Ends.photons_of, Late.writable}, pick_work.specs.PickOutcomes.chosen_by, list_out.specs.Lines.events_text, record_write.specs.Picked.{picked_words, picked_events}}
use Rattle.ptu_cli.specs.{Commands.{Request, Events}, Behaviours.behaviour, Tables.{Phase, AtLate, InPhase, Cause, HasStatus}, Cases.{NoneRefused, HasGroup}, CommandCases.{IsValidPlan, Suits, cases}}
use Rattle.command_work.specs.{Endings.outcome, Outcomes.{Outcome, written, IsIn}, Behaviours.{Work, Behaviour, Alone, OnFile, ByPlan}}

-- how a command ends over its files, where nothing outside fails
abbrev pub ends_with : Request → File → File → Outcome
ends_with request = outcome (behaviour (Some request))

-- the command ends with this fault, where nothing outside fails
abbrev pub EndsWithFault : Option Request → File → File → Fault → Type 0
EndsWithFault request plan_file data_file fault = (outcome (behaviour request) plan_file data_file).fault ≡ Some fault

-- A command ends with a fault of this phase exactly where a line of its table with this phase calls for it.
abbrev pub EndsWhere : Phase → Type 0
EndsWhere phase = (request : Option Request) (plan_file data_file : File) (fault : Fault) → InPhase phase (status_of fault)
    → EndsWithFault request plan_file data_file fault ↔ Cause phase (cases request) plan_file data_file fault

-- The statuses of what fails outside, by the shape of the command: writes and memory, of one that reads no file and ends well; calls on FILE and writes; and by a plan these and memory.
abbrev pub FailsWith : Behaviour → ℕ → Type 0
FailsWith (Alone end) n = (end.fault ≡ None) × IsIn 4 5 n
FailsWith (OnFile file writing work) n = IsIn 2 4 n
FailsWith (ByPlan plan file writing memory lacks work) n = IsIn 2 5 n

-- the statuses that a run of a command may end with, whatever fails
abbrev pub MayEndWith : Option Request → ℕ → Type 0
MayEndWith request n = FailsWith (behaviour request) n ⊎ HasStatus (cases request) n

-- The file is there, and has this header, with these bytes after it.
pub record Headed (data_file : File) (header : Header) (behind : List ℕ) : Type 0 where
  pub bytes : List ℕ
  pub present : data_file ≡ Some bytes
  pub is_header : HasAnswer bytes (Ok (header, behind))

-- The plan has the group and suits FILE, whose records are whole and of which none is refused.
abbrev pub IsPickable : ℕ → File → File → Type 0
IsPickable group plan_file data_file =
    (view : PlanView) × (header : Header) × (behind : List ℕ) × IsValidPlan plan_file view × Headed data_file header behind × HasGroup group view × Suits view header
    × NoneRefused (reading_by view header) (words_of behind) × (rest_of behind ≡ [])

-- `events` lists the file as these photons, at their places in it, and none of them as late.
abbrev pub Lists : List ℕ → List ℕ → Mode → List Event → Type 0
Lists name file mode photons = ends_with (Events name) None (Some file) ≡ written (events_text (map (λ e. (e, false)) (picked_events mode photons)))

-- the photons that are written of the bytes after a header: those before the first that is too late
abbrev pub photons_written : ℕ → PlanView → Header → List ℕ → List Event
photons_written group plan header bytes = writable (mode_of header.record_type) (photons_of (chosen_by plan group) (reading_by plan header) bytes)

-- Where the plan has the group and suits a file with a header, and the words of its written photons are few enough for `events`, this lists just them in the text.
abbrev pub ListsWritten : ℕ → File → File → List ℕ → List ℕ → Type 0
ListsWritten group plan_file data_file name text = (view : PlanView) (header : Header) (behind : List ℕ)
    → IsValidPlan plan_file view → HasGroup group view → Headed data_file header behind → Suits view header
    → length (picked_words (mode_of header.record_type) (photons_written group view header behind)) ≤ record_limit
    → Lists name text (mode_of header.record_type) (photons_written group view header behind)

-- The command ends well, or with the fault that names a photon that is too late to be written.
abbrev pub EndsWellOrLate : Request → File → File → Type 0
EndsWellOrLate request plan_file data_file =
    ((ends_with request plan_file data_file).fault ≡ None)
    ⊎ ((fault : Fault) × EndsWithFault (Some request) plan_file data_file fault × Cause AtLate (cases (Some request)) plan_file data_file fault)

-- The bytes call for no end by themselves, or for one that stays whatever comes after them.
abbrev pub GoesOnOrShows : Work → List ℕ → Type 0
GoesOnOrShows work bytes = work.goes_on bytes ⊎ Shows work.outcome bytes (work.outcome bytes)

-- Bytes of FILE call for no end of the command by themselves, or for one that stays.
abbrev pub EndsStay : Behaviour → Type 0
EndsStay (Alone end) = Unit {0}
EndsStay (OnFile file writing work) = (bytes : List ℕ) → GoesOnOrShows work bytes
EndsStay (ByPlan plan file writing memory lacks work) = (view : PlanView) (bytes : List ℕ) → GoesOnOrShows (work view) bytes
