use Rattle.std.proofs.{Common.{◌≡◌, ℕ, ◌+◌, ◌<◌, List, ◌∷◌, map, drop, length, get_or, Some, refl, append_assoc, arith}, lemmas.List.map-append}
use Rattle.{toml.specs.{declared.value.Value.Value, View.view}, tally_base.specs.Settings.{ShiftView, shift_view}, plan_text.specs.Shifts.{shift, shifts_from}}
use Rattle.plan_text.proofs.Numbers.{first_of}
use Rattle.plan_text.proofs.shifts.shifts_in.Goals as goal

-- the tables from one on, which gives a shift
shift_read : (period low i : ℕ) (vs : List Value) (v : Value) (set : ShiftView) → i < length vs → v ≡ get_or vs i v → Some set ≡ shift period low (view v)
    → shifts_from period low (map view (drop i vs)) ≡ Some set ∷ shifts_from period (set.input + 1) (map view (drop (i + 1) vs))
shift_read period low i vs v set within at is = rw (first_of vs i v within at, ← is) refl

pub items-preserved : goal.items-preserved
items-preserved c =
    let inv = c.items.invariant in
    let read =
    shift_read c.args.period c.items.low c.items.item-index _ c.item-item.result (shift_view c.in-Some.set) c.items-test.true c.item-item.is c.in-Some.ensures in
    record {
      index = omega (arith, inv.index);
      room = omega (arith, c.push.ensures.len, inv.room);
      few = inv.few;
      rest = rw read at inv.rest;
      so_far = rw (c.push.ensures.items, map-append) (rw append_assoc (rw read at inv.so_far));
    }
