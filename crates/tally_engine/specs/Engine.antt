-- What an engine stands for.
use Rattle.std.specs.{Prelude.{◌≡◌, ◌<◌, ◌≤◌, ℕ, All, ◌+◌, ◌*◌, ◌++◌, IfErr, OnOk, List, length, sum_by, None, Result, Ok, Err, ◌⊎◌}, declared.option.Option.Option}
use Rattle.tally_base.specs.{declared.{fault.Fault.{Fault, TheVariants.OutOfMemory}, header.{Header.Header, Mode.Mode}}, Settings.{PartSettings, entries}, Faults.fault_in, Limits.record_limit}
use Rattle.{ptu_definitions.specs.{Headers.Shows, Streams.{StreamSettings, record_refusal, streamed}, Words.words_of}, record_stream.specs.Standing.{how_of, refused_with, carried_by, kept_back_by}}
use Rattle.{record_stream.specs.Standing.{bytes_in, HasStreamed}, plan_text.specs.{Plan.{PlanView, parts_of}, Fits.fits}, gate_plan.specs.{Shifting.{Sorting, sorting}, Groups.sorting_of}}
use Rattle.{gate_plan.specs.Histories.{history, settled_history, reading_by}, tally_engine.specs.{Parts.{settings_in, AllHold, AllClosed, IsWithinWork, entries_in}, declared.results.Results.Results}}
use Rattle.tally_engine.specs.declared.engine.Engine.{Engine}

-- ## What it was opened with

abbrev pub header_of : Engine → Header
header_of engine = engine.header

-- how it sorts the photons
abbrev pub engine_sorting : Engine → Sorting
engine_sorting engine = sorting_of engine.gates

-- how it reads the records
abbrev pub reading_of : Engine → StreamSettings
reading_of engine = how_of engine.stream

-- the settings of its tables
abbrev pub parts_in : Engine → List PartSettings
parts_in engine = settings_in engine.parts.items

-- The engine is one of this plan and this header.
pub record IsFor (engine : Engine) (plan : PlanView) (header : Header) : Type 0 where
  pub header_is : header_of engine ≡ header
  pub sorting_is : engine_sorting engine ≡ sorting plan
  pub parts_are : parts_in engine ≡ parts_of plan
  pub reads : reading_of engine ≡ reading_by plan header

-- Both were opened with the same.
pub record SameEngine (old new : Engine) : Type 0 where
  pub same_header : header_of new ≡ header_of old
  pub same_sorting : engine_sorting new ≡ engine_sorting old
  pub same_parts : parts_in new ≡ parts_in old
  pub same_reading : reading_of new ≡ reading_of old

-- ## What it was given

-- what it refused
abbrev pub refused_by : Engine → Option Fault
refused_by engine = refused_with engine.stream

-- how many bytes it took, as long as it refused none
abbrev pub bytes_fed : Engine → ℕ
bytes_fed engine = bytes_in engine.stream

-- The engine was given these bytes: where it refused none, each table holds the list that tables count over (`history`), but for the last events that it keeps back.
abbrev pub HasFed : Engine → List ℕ → Type 0
HasFed engine bytes = HasStreamed engine.stream bytes × (refused_by engine ≡ None → AllHold engine.parts.items (settled_history (engine_sorting engine) (reading_of engine) (words_of bytes)))

-- ## How much it keeps

-- how many entries it keeps: those of its tables, the carried bytes, and the events kept back
abbrev pub held : Engine → ℕ
held engine = entries_in engine.parts.items + length (carried_by engine.stream) + length (kept_back_by engine.stream)

-- how many it keeps at most
abbrev pub bound : Engine → ℕ
bound engine = 48 + (reading_of engine).policy.settle + sum_by entries (parts_in engine)

-- An engine that had refused nothing was given a piece: this is what it answers, and where it stands then.
pub record TakesPiece {X : Type 0} (old new : Engine) (piece : List ℕ) (answer : Result X Fault) : Type 0 where
  pub taken : (bytes : List ℕ) → HasFed old bytes → HasFed new (bytes ++ piece)
  pub told : (bytes : List ℕ) → HasFed old bytes → fault_in answer ≡ record_refusal (reading_of old) (words_of (bytes ++ piece))
  pub refused : refused_by new ≡ fault_in answer
  pub shown : (bytes : List ℕ) → HasFed old bytes → IfErr answer (λ fault. Shows (streamed (reading_of old)) (bytes ++ piece) (Err fault))
  pub counted : OnOk answer (bytes_fed new ≡ bytes_fed old + length piece)
  pub limit : bytes_fed new ≤ 4 * record_limit + 3
  pub same : SameEngine old new
  pub within : held new ≤ bound new

-- ## What comes of it

abbrev pub settings_of : Results → List PartSettings
settings_of results = settings_in results.parts.items

-- The results of an engine that was given these bytes.
pub record IsCounted (engine : Engine) (bytes : List ℕ) (results : Results) : Type 0 where
  pub header_is : results.header ≡ header_of engine
  pub summary_is : streamed (reading_of engine) bytes ≡ Ok results.summary
  pub parts_are : settings_of results ≡ parts_in engine
  pub closed : AllClosed results.parts.items
  pub counts : AllHold results.parts.items (history (engine_sorting engine) (reading_of engine) (words_of bytes))
  pub worked : All (IsWithinWork (history (engine_sorting engine) (reading_of engine) (words_of bytes))) results.parts.items

abbrev pub Finishes : Engine → List ℕ → Result Results Fault → Type 0
Finishes engine bytes (Ok results) = IsCounted engine bytes results
Finishes engine bytes (Err fault) = streamed (reading_of engine) bytes ≡ Err fault

-- An engine is opened where the parts suit the mode, or else their fault is answered. Only memory may run out, and only where there is a table.
abbrev pub OpensAs : {A : Type 0} → Mode → PlanView → Result A Fault → Type 0
OpensAs mode plan (Ok engine) = fits mode plan ≡ Ok tt
OpensAs mode plan (Err fault) = (fits mode plan ≡ Err fault) ⊎ ((fits mode plan ≡ Ok tt) × (fault ≡ OutOfMemory) × (0 < length (parts_of plan)))
