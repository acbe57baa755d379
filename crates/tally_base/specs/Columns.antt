-- The events of a block.
use Rattle.std.specs.Prelude.{◌≡◌, ℕ, zero, suc, List, [], ◌∷◌, ◌++◌, slice_index}
use Rattle.tally_base.specs.{declared.{event.Event.Event, block.Block.Block}, Tally.History, Codes.{kind_of, code_in, dtime_in}}

-- the event in row i of the columns
abbrev pub row : List ℕ → List ℕ → List ℕ → ℕ → Event
row places times marks i = record { place = slice_index places i; kind = kind_of (code_in (slice_index marks i)) (dtime_in (slice_index marks i)); time = slice_index times i }

-- the first so many rows
abbrev pub rows : {A : Type 0} → (ℕ → A) → ℕ → List A
rows f zero = []
rows f (suc n) = rows f n ++ f n ∷ []

abbrev pub event_at : {N : ℕ} → Block N → ℕ → Event
event_at b i = row b.places b.times b.marks i

abbrev pub groups_at : {N : ℕ} → Block N → ℕ → ℕ
groups_at b i = slice_index b.groups i

-- what an event is, as one number
abbrev pub mark_at : {N : ℕ} → Block N → ℕ → ℕ
mark_at b i = slice_index b.marks i

abbrev pub code_at : {N : ℕ} → Block N → ℕ → ℕ
code_at b i = code_in (slice_index b.marks i)

abbrev pub dtime_at : {N : ℕ} → Block N → ℕ → ℕ
dtime_at b i = dtime_in (slice_index b.marks i)

abbrev pub time_at : {N : ℕ} → Block N → ℕ → ℕ
time_at b i = slice_index b.times i

abbrev pub item : {N : ℕ} → Block N → ℕ → Event × ℕ
item b i = (event_at b i, groups_at b i)

abbrev pub count : {N : ℕ} → Block N → ℕ
count b = b.len

-- how many of its events have their groups
abbrev pub sorted : {N : ℕ} → Block N → ℕ
sorted b = b.sorted

-- It keeps its events, of which so many have their groups now.
pub record HasSorted {N : ℕ} (old new : Block N) (ready : ℕ) : Type 0 where
  pub same : (i : ℕ) → event_at new i ≡ event_at old i
  pub count : count new ≡ count old
  pub sorted : sorted new ≡ ready

-- each of its events has its groups
abbrev pub IsSorted : {N : ℕ} → Block N → Type 0
IsSorted b = b.sorted ≡ b.len

-- the event of a place, a code, a dtime and a time
abbrev pub event_by : ℕ → ℕ → ℕ → ℕ → Event
event_by place code dtime time = record { place = place; kind = kind_of code dtime; time = time }

-- the first so many rows, also those after its end
abbrev pub written : {N : ℕ} → Block N → ℕ → List Event
written b n = rows (event_at b) n

-- its events
abbrev pub gathered : {N : ℕ} → Block N → List Event
gathered b = rows (event_at b) b.len

-- its events, each with its groups
abbrev pub events_in : {N : ℕ} → Block N → History
events_in b = rows (item b) b.len
