-- What a trace without end stands for.
use Rattle.std.specs.Prelude.{◌≡◌, ℕ, ◌+◌, ◌<◌, ◌≤◌, Bool, List, [], ◌∷◌, ◌++◌, true, false, length, Result, is_ok, IfErr, IsTrue, if◌then◌else◌}
use Rattle.tally_base.specs.{declared.{fault.Fault.{Fault, TheVariants.WriteFault}, event.Event.Event, settings.TraceSet.TraceSet, block.Block.Block}, Events.is_photon, Limits.record_limit}
use Rattle.{tally_base.specs.{Settings.trace_view, Tally.{History, greatest_time, InOrder}, Columns.{gathered, IsSorted}}, bench_io.specs.Sinks.{SinkState, CountsFault}}
use Rattle.{count_trace.specs.TraceCounts.count_before, long_trace.specs.{declared.trace.LongTrace.LongTrace, Bins.CountsBins, States.state_of, Texts.open_text}}

-- what it was made with
abbrev pub set_of : LongTrace → TraceSet
set_of t = t.counting.set

-- how many events it was given, and the greatest time of the photons among them
abbrev pub taken_of : LongTrace → ℕ
taken_of t = t.taken

abbrev pub floor_of : LongTrace → ℕ
floor_of t = t.floor

-- `start` was called
abbrev pub was_begun : LongTrace → Bool
was_begun t = t.begun

-- it answered Ok, and no call was refused since
abbrev pub is_going : LongTrace → Bool
is_going t = t.going

-- How many entries it keeps: its array, which is the frequencies, and the number beside them, the number of the newest bin, where it begins and its count, how many photons came before the origin, and how many events came, with their greatest time.
abbrev pub held : LongTrace → ℕ
held t = length t.closed.frequencies + 7

-- Its counts are those of the events.
pub record Holds (t : LongTrace) (h : History) : Type 0 where
  pub bins : CountsBins (trace_view (set_of t)) (state_of t.counting t.closed) h
  pub before : t.counting.before ≡ count_before (trace_view (set_of t)) h
  pub taken : t.taken ≡ length h
  pub floor : t.floor ≡ greatest_time false h

-- What `start` left, by the answer.
pub record Starts (old new : LongTrace) (result : Result (Unit {0}) Fault) : Type 0 where
  pub begun : was_begun new ≡ true
  pub going : is_going new ≡ is_ok result
  pub same_set : set_of new ≡ set_of old
  pub same_counts : (taken_of new ≡ taken_of old) × (floor_of new ≡ floor_of old)
  pub stands : (h : History) → Holds old h → Holds new h

-- It goes on, fewer than 2^40 events came, and a photon doesn't come at a smaller time than one before it.
pub record CanTake (t : LongTrace) (e : Event) : Type 0 where
  pub going : is_going t ≡ true
  pub room : taken_of t < record_limit
  pub in_order : IsTrue (is_photon e) → floor_of t ≤ e.time

-- It goes on, a block has no more events than may come, in the groups that it has, and no photon comes at a smaller time than one before it.
pub record CanTakeBlock {N : ℕ} (t : LongTrace) (block : Block N) : Type 0 where
  pub going : is_going t ≡ true
  pub sorted : IsSorted block
  pub room : taken_of t + length (gathered block) ≤ record_limit
  pub in_order : InOrder false (floor_of t) (gathered block)

-- A call fails only where a write does, and says so.
pub record RefusesWrite {X : Type 0} (old new : SinkState) (result : Result X Fault) : Type 0 where
  pub fault : IfErr result (λ fault. fault ≡ WriteFault)
  pub cause : CountsFault old new result

-- It took an event, and goes on where its line was written.
pub record GoesOn (old new : LongTrace) (e : Event) (groups : ℕ) (result : Result (Unit {0}) Fault) : Type 0 where
  pub same_set : set_of new ≡ set_of old
  pub same_begun : was_begun new ≡ was_begun old
  pub going : is_going new ≡ is_ok result
  pub follows : (h : History) → Holds old h → Holds new (h ++ (e, groups) ∷ [])
  pub one_more : taken_of new ≡ taken_of old + 1
  pub moved : floor_of new ≡ (if is_photon e then e.time else floor_of old)

-- It was given more events, of which the lines of the bins that they closed are these bytes.
pub record GivenMore (old new : LongTrace) (more : History) (lines : List ℕ) : Type 0 where
  pub same_set : set_of new ≡ set_of old
  pub same_going : is_going new ≡ is_going old
  pub same_begun : was_begun new ≡ was_begun old
  pub follows : (h : History) → Holds old h → Holds new (h ++ more)
  pub closed : (h : History) → Holds old h → open_text (trace_view (set_of old)) (h ++ more) ≡ open_text (trace_view (set_of old)) h ++ lines

-- what it has printed of these events before the end
abbrev pub printed_by : LongTrace → History → List ℕ
printed_by t h = open_text (trace_view (set_of t)) h
