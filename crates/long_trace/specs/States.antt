-- The numbers that a trace without end keeps, as definitions see them.
use Rattle.std.specs.Prelude.{ℕ, ◌≡◌, ◌+◌, ◌*◌, ◌^◌, ◌<◌, ◌≤◌, max, nat_lt, if◌then◌else◌, true, List, [], ◌++◌, length, sum, slice_index}
use Rattle.{tally_base.specs.{Settings.trace_view, Tally.History}, count_trace.specs.TraceCounts.count_before, long_trace.specs.declared.{counting.Counting.Counting, closed.Closed.Closed}}
use Rattle.long_trace.specs.{Bins.{BinState, CountsOn, CountsAt}, Texts.{bin_line, frequency_limit, frequency, summary_text}}

abbrev pub state_of : Counting → Closed → BinState
state_of n closed = record { bin = n.newest.bin.index; count = n.newest.count; frequencies = closed.frequencies; many = closed.many }

-- what is printed after the lines of the bins before the newest
abbrev pub end_text : Counting → List ℕ → List ℕ
end_text n all = bin_line n.newest.bin.index n.newest.count ++ summary_text all n.before

-- A closed bin that isn't empty took a photon: of so many photons as came, none is lost where bins are counted too.
abbrev pub Fills : BinState → BinState → ℕ → Type 0
Fills old new more = new.count + new.bin + slice_index old.frequencies 0 ≤ old.count + old.bin + more + slice_index new.frequencies 0

-- how often each count came that has a number of its own
abbrev pub AreFrequencies : Closed → List ℕ → Type 0
AreFrequencies closed all = (c : ℕ) → c < frequency_limit → slice_index closed.frequencies c ≡ frequency all c

-- The newest bin begins where its number says, and every bin before it is closed.
pub record IsInStep (n : Counting) (closed : Closed) : Type 0 where
  pub edge : n.newest.bin.low ≡ n.set.origin + n.newest.bin.index * n.set.width
  pub all : sum closed.frequencies + closed.many ≡ n.newest.bin.index

-- The same, and the newest begins no later than this time.
pub record IsUpTo (n : Counting) (closed : Closed) (floor : ℕ) : Type 0 where
  pub step : IsInStep n closed
  pub low : n.newest.bin.low ≤ max floor n.set.origin

-- A photon at this time can be counted, where `more` is 1, or none: the newest bin begins no later, and one count more has room.
pub record CanCount (n : Counting) (closed : Closed) (time more : ℕ) : Type 0 where
  pub step : IsInStep n closed
  pub one : more ≤ 1
  pub order : 0 < more → n.newest.bin.low ≤ max time n.set.origin
  pub few : n.before + n.newest.count + more < 2 ^ 64

-- It was counted: before the origin, or in the newest bin, which then begins no later, and else that stays.
pub record Counted (n n' : Counting) (closed closed' : Closed) (time more : ℕ) : Type 0 where
  pub step : IsInStep n' closed'
  pub same_set : n'.set ≡ n.set
  pub low : 0 < more → n'.newest.bin.low ≤ max time n.set.origin
  pub same : more ≡ 0 → n'.newest ≡ n.newest
  pub few : n'.before + n'.newest.count ≤ n.before + n.newest.count + more
  pub filled : Fills (state_of n closed) (state_of n' closed') more
  pub before : n'.before ≡ n.before + (if nat_lt time n.set.origin then more else 0)

-- The next bin that isn't empty was opened, for a photon at this time.
pub record Opens (n next : Counting) (closed closed' : Closed) (time : ℕ) : Type 0 where
  pub same : (next.set ≡ n.set) × (next.before ≡ n.before)
  pub low : next.newest.bin.low ≤ time
  pub one : next.newest.count ≡ 1
  pub filled : Fills (state_of n closed) (state_of next closed') 1

-- With the line of the bin that it closed after any lines, it counts a photon of the group at this time.
abbrev pub OpensAt : Counting → Counting → Closed → Closed → ℕ → Type 0
OpensAt n next closed closed' time =
    (lines : List ℕ) → CountsAt (trace_view n.set) (state_of n closed) (state_of next closed') time (λ met. met ≡ true) lines (lines ++ bin_line n.newest.bin.index n.newest.count)

-- The events of a block were counted.
pub record CountsAll (n n' : Counting) (closed closed' : Closed) (more : History) (lines : List ℕ) : Type 0 where
  pub same_set : n'.set ≡ n.set
  pub few : n'.before + n'.newest.count ≤ n.before + n.newest.count + length more
  pub filled : Fills (state_of n closed) (state_of n' closed') (length more)
  pub before : n'.before ≡ n.before + count_before (trace_view n.set) more
  pub counts : CountsOn (trace_view n.set) (state_of n closed) (state_of n' closed') more [] lines
