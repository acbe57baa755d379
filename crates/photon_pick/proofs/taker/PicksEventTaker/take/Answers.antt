use Rattle.std.proofs.Common.{◌≡◌, ◌∙◌, Bool, true, false, sym, ap, refl, rules, arith, ◌≤◌, ℕ, [], ◌∷◌, ◌++◌, max, ◌&&◌, not, IsTrue, if◌then◌else◌}
use Rattle.{std.specs.List.filter, tally_base.specs.{declared.event.Event.Event, Events.is_ordered}, ptu_definitions.specs.Kept.{Marked, floor_of}}
use Rattle.{ptu_definitions.specs.Settled.not_marked, abs_time.{specs.Floors.moved_floor, proofs.Floors.moved_floor-push}, photon_pick.specs.Giving.pen_on}
use Rattle.photon_pick.{specs.Giving.{Stand, TookPhotons, Gave-none}, proofs.{Gives.{Gave-one, Stopped-one}, Takes.{TookPhotons-more, Refused-more}}}
use Rattle.photon_pick.proofs.taker.PicksEventTaker.take.Goals as goal

-- which events are wanted
wanted : (chooses : Event → Bool) (e : Event) (late b : Bool) → b ≡ (not late && chooses e) → filter chooses (not_marked ((e, late) ∷ [])) ≡ (if b then e ∷ [] else [])
wanted chooses e late b is = search (rules, arith)

moves : (s t : Stand) (l : Marked) (h : TookPhotons s t l) (e : Event) (late : Bool) (floor : ℕ) → floor ≡ moved_floor t.mode t.floor e late
    → (IsTrue (is_ordered t.mode e && not late) → t.floor ≤ e.time) → floor ≡ max s.floor (floor_of t.mode (l ++ (e, late) ∷ []))
moves s t l h e late floor is order = is ∙ moved_floor-push t.mode s.floor t.floor l e late (rw h.same_mode h.moved) order

pub returns-then-not-wanted-clause-follows : goal.returns-then-not-wanted-clause-follows
returns-then-not-wanted-clause-follows g c = λ start l h.
    let t = c.args.self.now in
    let none : c.is_wanted-wanted.result ≡ false = search rules in
    let old = pen_on g.O.Sink t.picker.now t.out.now t.block in
    TookPhotons-more _ _ l h ((c.args.event.now, c.args.late) ∷ []) [] (wanted _ c.args.event.now c.args.late false (sym none ∙ c.is_wanted-wanted.ensures)) old _ _ (Gave-none old)
    refl (moves _ _ l h c.args.event.now c.args.late _ c.moved_floor-self.ensures c.requires.in_order)

pub returns-in-Ok-clause-follows : goal.returns-in-Ok-clause-follows
returns-in-Ok-clause-follows g c = λ start l h.
    let t = c.args.self.now in
    let e = c.args.event.now in
    let told = c.in-Ok.ensures in
    let some : c.is_wanted-wanted.result ≡ true = search rules in
    let old = pen_on g.O.Sink t.picker.now t.out.now t.block in
    let new = pen_on g.O.Sink c.put.new.self c.put.new.out c.put.new.block in
    TookPhotons-more _ _ l h ((e, c.args.late) ∷ []) (e ∷ []) (wanted _ e c.args.late true (sym some ∙ c.is_wanted-wanted.ensures)) new _ _ (Gave-one old new e _ told.late told.picks told.puts)
    refl (moves _ _ l h e c.args.late _ c.moved_floor-self.ensures c.requires.in_order)

pub returns-in-Err-clause-broken : goal.returns-in-Err-clause-broken
returns-in-Err-clause-broken g c = λ start l h none.
    let t = c.args.self.now in
    let e = c.args.event.now in
    let told = c.in-Err.ensures in
    let some : c.is_wanted-wanted.result ≡ true = search rules in
    let old = pen_on g.O.Sink t.picker.now t.out.now t.block in
    let new = pen_on g.O.Sink c.put.new.self c.put.new.out c.put.new.block in
    Refused-more _ _ l h ((e, c.args.late) ∷ []) (e ∷ []) (wanted _ e c.args.late true (sym some ∙ c.is_wanted-wanted.ensures)) c.in-Err.fault _
    (Stopped-one old new e c.in-Err.fault told.late (λ is. let kept = told.untouched is in (ap g.O.Sink.state kept.0, kept.1)) told.puts told.cause) refl
