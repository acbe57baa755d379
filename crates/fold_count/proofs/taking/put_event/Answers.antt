use Rattle.{lag_ring.{specs.declared.ring.Entry.Entry, proofs.{Rising.all_push, Lists.all_front}}, std.proofs.lemmas.{Nat.or_lt, List.Sums.sum_by_push}}
use Rattle.std.proofs.{lemmas.List.Elements.filter-append, Common.{◌+◌, ◌<◌, ◌^◌, List, length, bit_or, ◌≡◌, ◌∙◌, ◌++◌, ◌∷◌, [], ℕ, ltb, true, false, sym}}
use Rattle.{std.proofs.Common.{refl, arith, rules}, tally_base.specs.{declared.event.Event.Event, Events.{is_photon, is_in}, Settings.fold_view}}
use Rattle.fold_count.{specs.{FoldCounts.{is_of_any, number_of}, Folded.photons}, proofs.{Nested.last_of, Numbers.any_in, Pushed.{parted_photon, photons_same}}}
use Rattle.fold_count.proofs.taking.put_event.Goals as goal

pub returns-then-met-ne0-clause-took : goal.returns-then-met-ne0-clause-took
returns-then-met-ne0-clause-took c =
    let set = fold_view c.args.set.now in
    let here : Entry = c.open_at-here.result in
    let new : Entry = record { index = here.index; a = here.a + 1; b = bit_or here.b c.set_in-met.result } in
    let kept : List Entry = c.open_at-here.new.ring.entries in
    let was = c.open_at-here.ensures.settled in
    let P : Entry → Type 0 = λ e. e.b < 2 ^ length set.groups in
    record {
      sound = record { sized = was.sound.sized; reach = was.sound.reach; within = was.sound.within; above = was.sound.above; in_time = was.sound.in_time; nested = was.sound.nested; sets = all_push P kept new (all_front P kept (here ∷ []) was.sound.sets) (or_lt (length set.groups) here.b c.set_in-met.result (last_of P kept here was.sound.sets) (rw c.deref.ensures.0 at c.set_in-met.ensures.inside)) };
      few = omega (arith, was.same, sum_by_push (λ (e : Entry). e.a) kept here, sum_by_push (λ (e : Entry). e.a) kept new);
    }

pub returns-then-met-ne0-clause-follows : goal.returns-then-met-ne0-clause-follows
returns-then-met-ne0-clause-follows c = λ h is.
    let set = fold_view c.args.set.now in
    let x : Event × ℕ = (c.args.e.now, c.args.groups) in
    let photon : is_photon c.args.e.now ≡ true = sym c.is_photon.ensures ∙ c.if-is_photon.true in
    let met : c.set_in-met.result ≡ number_of (λ group. is_in c.args.groups group) set.groups = rw c.deref.ensures.0 at c.set_in-met.ensures.set in
    let some : ltb 0 (number_of (λ group. is_in c.args.groups group) set.groups) ≡ true = search (rules, arith) in
    let any : is_of_any set.groups x ≡ true = rw (photon, any_in (λ group. is_in c.args.groups group) set.groups, some) refl in
    let pushed : photons set (h ++ x ∷ []) ≡ photons set h ++ x ∷ [] = filter-append (is_of_any set.groups) h (x ∷ []) ∙ (rw any refl) in
    rw pushed
    (parted_photon set c.open_at-here.new.cells c.open_at-here.new.ring.entries c.open_at-here.result (photons set h) x photon (sym c.open_at-here.ensures.time)
    c.open_at-here.ensures.settled.sound.above (c.open_at-here.ensures.follows h is) c.set_in-met.result (sym met))

pub returns-else-met-ne0-clause-follows : goal.returns-else-met-ne0-clause-follows
returns-else-met-ne0-clause-follows c = λ h is.
    let set = fold_view c.args.set.now in
    let met : c.set_in-met.result ≡ number_of (λ group. is_in c.args.groups group) set.groups = rw c.deref.ensures.0 at c.set_in-met.ensures.set in
    let none : ltb 0 (number_of (λ group. is_in c.args.groups group) set.groups) ≡ false = search (rules, arith) in
    rw (photons_same set h (c.args.e.now, c.args.groups) (rw (any_in (λ group. is_in c.args.groups group) set.groups, none) (search (rules, arith)))) is

pub returns-else-is_photon-clause-follows : goal.returns-else-is_photon-clause-follows
returns-else-is_photon-clause-follows c = λ h is.
    let none : is_photon c.args.e.now ≡ false = sym c.is_photon.ensures ∙ c.if-is_photon.false in
    rw (photons_same (fold_view c.args.set.now) h (c.args.e.now, c.args.groups) (rw none refl)) is
