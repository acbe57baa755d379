-- What `pick` ends with over the bytes of a file.
use Rattle.std.specs.{Prelude.{ℕ, ◌≡◌, ◌&&◌, nat_le, Bool, List, [], ◌++◌, length, None, Some, Ok, if◌then◌else◌}, declared.option.Option.Option}
use Rattle.{tally_base.specs.{declared.{event.Event.Event, fault.Fault.{Fault, TheVariants.NoGroup}, header.Header.Header}, RecordTypes.mode_of}, ptu_definitions.specs.Words.words_of}
use Rattle.{ptu_definitions.specs.Streams.StreamSettings, plan_text.specs.{Plan.PlanView, Fits.fits}, gate_plan.specs.{Shifting.sorting, Histories.reading_by}}
use Rattle.{minimal_file.specs.ShortFiles.short_header, photon_pick.specs.{Chosen.is_chosen, Texts.{text_in, refusal_in, HasPickedIn}, Ends.{photons_kept, end_text, end_fault}, Late.too_late}}
use Rattle.{photon_pick.specs.Pieces.IsNoFurther, command_work.specs.{Behaviours.{Work, AreRead, IsHeaded}, RecordsWork.{RecordsWork, if_suited, headed_work, headed_so_far}}}
use Rattle.{record_stream.specs.{declared.stream.RecordStream.RecordStream, Standing.{how_of, refused_with, HasStreamed}}, record_write.specs.declared.picker.Picker.Picker}

-- the fault of a plan without a group of this number
abbrev pub no_group : ℕ → PlanView → Option Fault
no_group group plan = if nat_le 1 group && nat_le group (length plan.groups) then None else Some (NoGroup group)

-- the photons of the plan's group of this number
abbrev pub chosen_by : PlanView → ℕ → Event → Bool
chosen_by plan group = is_chosen (sorting plan) group

-- a file of the photons that are chosen, written as they are read: their words after the header, and why they are refused
abbrev pub picks : (Event → Bool) → StreamSettings → RecordsWork
picks chooses how = record {
  text = λ bytes. short_header how.mode ++ text_in chooses how (words_of bytes);
  ends = λ bytes. record { text = short_header how.mode ++ end_text chooses how bytes; fault = end_fault chooses how bytes };
  refuses = λ bytes. refusal_in chooses how (words_of bytes);
}

-- those of a plan's group, where the plan's parts suit the file
abbrev pub picks_of : ℕ → PlanView → Header → RecordsWork
picks_of group plan header = picks (chosen_by plan group) (reading_by plan header)

abbrev pub picks_by : ℕ → PlanView → Header → RecordsWork
picks_by group plan = if_suited plan (picks_of group plan)

-- What has been written of the bytes of a file, where the next read fails: nothing before the header is whole and suits the plan.
abbrev pub pick_so_far : ℕ → PlanView → List ℕ → List ℕ
pick_so_far group plan = headed_so_far (picks_by group plan)

-- none of the photons that are chosen of the whole kept list is too late to be written
abbrev pub AllInTime : ℕ → PlanView → Header → List ℕ → Type 0
AllInTime group plan header bytes = too_late (mode_of header.record_type) (photons_kept (chosen_by plan group) (reading_by plan header) (words_of bytes)) ≡ []

-- The photons of a group, in a file of their own: a good file for it has none that is too late.
abbrev pub picking : ℕ → PlanView → Work
picking group plan = headed_work (picks_by group plan) (IsHeaded (λ header behind. (fits (mode_of header.record_type) plan ≡ Ok (tt {0})) × AreRead (reading_by plan header) behind × AllInTime group plan header behind))

-- The stream was given these bytes and refused none, and the picker has picked the photons that they give.
pub record HasWritten (chooses : Event → Bool) (stream : RecordStream) (picker : Picker) (bytes : List ℕ) : Type 0 where
  pub going : refused_with stream ≡ None
  pub behind : IsNoFurther stream picker
  pub streamed : HasStreamed stream bytes
  pub picked : HasPickedIn chooses (how_of stream) picker (words_of bytes)
