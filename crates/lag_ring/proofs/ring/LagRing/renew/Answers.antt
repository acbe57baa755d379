use Rattle.std.proofs.{Common.{arith, rules, ◌≡◌, ◌-◌, ◌≤◌, ◌++◌, length, get_or, slice_get, List, Some, refl}, lemmas.Option.slice_get-get_or}
use Rattle.{std.{proofs.lemmas.List.length-drop, specs.List.AllByRecursion}, lag_ring.specs.{declared.ring.Entry.Entry, Ring.kept_or}}
use Rattle.lag_ring.proofs.{Lists.all_filter, Rising.{upto_join, rising_drop}, Between.cut_front}
use Rattle.lag_ring.proofs.ring.LagRing.renew.Goals as goal

pub drop_before-requires : goal.drop_before-requires
drop_before-requires c = rw (c.extend_from_slice.ensures, c.lay_out.ensures) (record { rising = rising_drop _ _ (rw (← c.self.view_is) at c.requires.rising) })

pub invariant_of-self : goal.invariant_of-self
invariant_of-self c =
    let r = c.self.inside in
    let fs = c.args.entries.now in
    let xs : List Entry = kept_or r.alone r.last r.kept.items ++ fs in
    let none : Entry = record { index = 0; a = 0; b = 0 } in
    let end : slice_get fs (length fs - 1) ≡ Some (get_or fs (length fs - 1) none) = slice_get-get_or fs (length fs - 1) none (omega (arith, c.requires.some)) in
    let upto : AllByRecursion (λ (e : Entry). e.index ≤ (get_or fs (length fs - 1) none).index) xs = upto_join _ fs (get_or fs (length fs - 1) none) (rw (← c.self.view_is) at c.requires.rising) end in
    let cut = cut_front c.args.before r.kept.capacity xs (rw (← c.self.view_is) at c.requires.rising) (rw (← c.self.view_is) at c.requires.near) in
    let all : AllByRecursion (λ (e : Entry). e.index ≤ (get_or fs (length fs - 1) none).index) c.drop_before.new.kept.items =
    rw (c.drop_before.ensures.kept, c.extend_from_slice.ensures, c.lay_out.ensures, cut) (all_filter _ _ xs upto) in
    search (rules, arith, length-drop)

pub returns : goal.returns
returns c =
    let r = c.self.inside in
    let xs : List Entry = kept_or r.alone r.last r.kept.items ++ c.args.entries.now in
    let cut = cut_front c.args.before r.kept.capacity xs (rw (← c.self.view_is) at c.requires.rising) (rw (← c.self.view_is) at c.requires.near) in
    record { kept = rw (← c.self.view_is, c.drop_before.ensures.kept, c.drop_before.ensures.same, c.extend_from_slice.ensures, c.lay_out.ensures, cut) refl }
