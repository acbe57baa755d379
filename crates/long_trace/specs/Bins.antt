-- What the numbers that a trace without end keeps say of the events that it was given.
use Rattle.std.specs.Prelude.{◌≡◌, ℕ, ◌+◌, ◌<◌, ◌==◌, ◌&&◌, Bool, List, [], ◌∷◌, ◌++◌, slice_index, if◌then◌else◌}
use Rattle.{tally_base.specs.{declared.event.Event.Event, Events.{is_photon, is_in}, Settings.TraceView, Tally.History}, count_trace.specs.TraceCounts.in_trace_bin}
use Rattle.long_trace.specs.Texts.{frequency_limit, span, closed_lines, counts, frequency, above}

-- The newest bin and its count, how often each count came in the bins before it, and how many of them have no frequency.
pub record BinState : Type 0 where
  pub bin : ℕ
  pub count : ℕ
  pub frequencies : List ℕ
  pub many : ℕ

-- The newest bin is the last that isn't empty, or the first where all are.
pub record CountsBins (set : TraceView) (state : BinState) (h : History) : Type 0 where
  pub counted : state.count ≡ in_trace_bin set state.bin h
  pub none_behind : (b : ℕ) → state.bin < b → in_trace_bin set b h ≡ 0
  pub none_yet : state.count ≡ 0 → state.bin ≡ 0
  pub last : span set h ≡ (if state.count == 0 then 0 else state.bin + 1)
  pub each : (c : ℕ) → c < frequency_limit → slice_index state.frequencies c ≡ frequency (counts set state.bin h) c
  pub others : state.many ≡ above (counts set state.bin h)

-- More events were counted after any that are, and the lines of the bins that they closed are put after others.
pub record CountsOn (set : TraceView) (old new : BinState) (more : History) (lines lines' : List ℕ) : Type 0 where
  pub text : List ℕ
  pub put : lines' ≡ lines ++ text
  pub counted : (h : History) → CountsBins set old h → CountsBins set new (h ++ more)
  pub closed : (h : History) → CountsBins set old h → closed_lines set (h ++ more) ≡ closed_lines set h ++ text

-- The same of an event at a time, where the test of whether it is a photon of the group says this.
abbrev pub CountsAt : TraceView → BinState → BinState → ℕ → (Bool → Type 0) → List ℕ → List ℕ → Type 0
CountsAt set old new time holds lines lines' =
    (e : Event) (groups : ℕ) → e.time ≡ time → holds (is_photon e && is_in groups set.group) → CountsOn set old new ((e, groups) ∷ []) lines lines'
