-- Events that are only counted.
use Rattle.std.proofs.Common.{rules, ◌≡◌, ◌+◌, ◌≤◌, ℕ, [], ◌∷◌, ◌++◌, List, Bool, IsTrue, ◌&&◌, not, length, length-append, arith}
use Rattle.tally_base.specs.{declared.{event.Event.Event, header.Mode.Mode}, Events.is_ordered, Tally.{floor_after, InOrder}}
use Rattle.{ptu_definitions.specs.Kept.Marked, abs_time.{specs.Floors.{moved_floor, orders_markers}, proofs.Floors.moved_floor-push}}
use Rattle.record_stream.{specs.{Blocks.on_time, Counted.HasCounted}, proofs.{Gathering.floor_of-block, Steps.length-on_time}}

module _ (mode mode' : Mode) (taken taken' floor floor' : ℕ) (l : Marked) (so_far : HasCounted mode mode' taken taken' floor floor' l) where
  pub counted-one : (e : Event) (late : Bool) (now : ℕ) → now ≡ moved_floor mode' floor' e late → (IsTrue (is_ordered mode' e && not late) → floor' ≤ e.time)
      → HasCounted mode mode' taken (taken' + 1) floor now (l ++ (e, late) ∷ [])
  counted-one e late now is order = search (rules, arith, length-append, moved_floor-push)

  pub counted-block : (es : List Event) (next now : ℕ) → next ≡ taken' + length es → now ≡ floor_after (orders_markers mode') floor' es
      → InOrder (orders_markers mode') floor' es → HasCounted mode mode' taken next floor now (l ++ on_time es)
  counted-block es next now more is order = search (rules, arith, length-append, length-on_time, floor_of-block)
