-- One event more for the intervals.
use Rattle.std.proofs.Common.{◌≡◌, ℕ, ◌+◌, ◌-◌, ◌/◌, ◌<◌, ◌≤◌, Bool, true, false, ◌&&◌, List, [], ◌∷◌, ◌++◌, sym, refl, arith, None, Some, nat_le, ◌==◌}
use Rattle.{std.proofs.Common.{slice_index, if◌then◌else◌, rules}, tally_base.specs.{declared.event.Event.Event, Events.{is_photon, is_in}}}
use Rattle.{tally_base.specs.{Settings.StartStopView, Tally.History}, coincidence.specs.{declared.start.Start.Start, StartStop.Counted, Starts.ended}}
use Rattle.coincidence.{specs.{Starts.{start_in, since_in}, Intervals.count_intervals}, proofs.Intervals.{count-photon, start-photon, count-marker}}
use Rattle.coincidence.proofs.Intervals.{start-marker, ends}

-- What a photon ends, by a bin and a number.

pub ends_as : (test : ℕ → Bool) (time : ℕ) (stops : Bool) (start : Start)
    → ends test time stops (start_in start) ≡ (if test (time - since_in start) then ended stops (start_in start) else 0)
ends_as test time stops start = search (rules, arith)

-- One event more for the intervals.

pub photon_step : (set : StartStopView) (cells cells' : List ℕ) (over over' bin more : ℕ) (start start' : Start) (h : History) (x : Event × ℕ) (starts stops : Bool) → is_photon x.0 ≡ true → is_in x.1 set.start ≡ starts → is_in x.1 set.stop ≡ stops
    → bin ≡ (x.0.time - since_in start) / set.width → more ≡ ended stops (start_in start)
    → ((b : ℕ) → b < set.bins → slice_index cells' b ≡ slice_index cells b + (if bin == b then more else 0))
    → over' ≡ over + (if nat_le set.bins bin then more else 0)
    → start_in start' ≡ (if starts then Some x.0.time else if stops then None else start_in start)
    → Counted set set.bins cells over start h → Counted set set.bins cells' over' start' (h ++ x ∷ [])
photon_step set cells cells' over over' bin more start start' h x starts stops photon starts-is stops-is is_bin is_more put rest behind is =
    let step : (test : ℕ → Bool) → count_intervals set test (h ++ x ∷ []) ≡ count_intervals set test h + (if test (x.0.time - since_in start) then ended stops (start_in start) else 0) = λ test. rw (← ends_as test x.0.time stops start) (count-photon set test h x stops (start_in start) photon stops-is (sym is.open')) in
    record {
      each = λ b lt.
          let added : (if bin == b then more else 0) ≡ (if (x.0.time - since_in start) / set.width == b then ended stops (start_in start) else 0) =
          rw (is_bin, is_more) refl in
          omega (arith, put b lt, is.each b lt, step (λ time. time / set.width == b), added);
      rest =
          let added : (if nat_le set.bins bin then more else 0) ≡
          (if nat_le set.bins ((x.0.time - since_in start) / set.width) then ended stops (start_in start) else 0) = rw (is_bin, is_more) refl in
          omega (arith, rest, is.rest, step (λ time. nat_le set.bins (time / set.width)), added);
      open' = search (rules, arith, start-photon);
    }

pub marker_step : (set : StartStopView) (cells : List ℕ) (over : ℕ) (start : Start) (h : History) (x : Event × ℕ)
    → is_photon x.0 ≡ false → Counted set set.bins cells over start h → Counted set set.bins cells over start (h ++ x ∷ [])
marker_step set cells over start h x marker is = search (rules, arith, count-marker, start-marker)

-- a photon that is found in a group is in it
pub in_group : (group photon found : Bool) → photon ≡ true → found ≡ (group && photon) → group ≡ found
in_group group photon found is was = search (rules, arith)

pub later : (moves : Bool) → moves ≡ true → (since before time floor : ℕ) (starts : Bool)
    → since ≡ (if starts then time else before) → before ≤ time → since ≤ (if moves then time else floor)
later moves is since before time floor starts was below = search (rules, arith)

pub kept_floor : (moves : Bool) → moves ≡ false → (time floor since : ℕ) → since ≤ floor → since ≤ (if moves then time else floor)
kept_floor moves is time floor since below = search (rules, arith)
