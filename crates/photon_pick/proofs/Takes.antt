-- More events for a picker.
use Rattle.std.proofs.Common.{◌≡◌, ◌∙◌, ℕ, ◌+◌, ◌≤◌, Bool, true, false, List, [], ◌∷◌, ◌++◌, Some, cond, ap, sym, subst, refl, arith, length, max}
use Rattle.{std.{proofs.Common.{length-append, IsTrue, if◌then◌else◌, rules}, specs.List.filter}, tally_base.specs.declared.event.Event.Event}
use Rattle.{tally_base.specs.{declared.fault.Fault.Fault, Events.is_photon, Tally.{moves_floor, floor_after, InOrder}}, ptu_definitions.specs.Kept.Marked}
use Rattle.{ptu_definitions.specs.{Kept.floor_of, Settled.not_marked}, photon_pick.specs.Giving.{Pen, Gave, Stopped, Stand, TookPhotons, Refused, chosen_of}}
use Rattle.photon_pick.{specs.Chosen.is_chosen, proofs.{Parts.{chosen-more, chosen-photon}, Gives.{Gave-trans, Stopped-behind}}}
use Rattle.gate_plan.specs.Shifting.{Sorting}

-- ## The order of those that are chosen

rises : (b : Bool) (low floor time : ℕ) → (IsTrue b → floor ≤ time) → low ≤ floor → low ≤ (if b then time else floor)
rises b low floor time order below = search (rules, arith)

photon-moves : (strict : Bool) (e : Event) → is_photon e ≡ true → moves_floor strict e ≡ true
photon-moves strict e is = search (rules, arith)

module _ (by : Sorting) (group : ℕ) (strict : Bool) where
  abbrev p : Event → Bool
  p = is_chosen by group

  -- The photons that are chosen of events in order come in order, and none after the greatest time.
  pub order-chosen : (low floor : ℕ) (es : List Event) → low ≤ floor → InOrder strict floor es
      → InOrder true low (filter p es) × (floor_after true low (filter p es) ≤ floor_after strict floor es)
  order-chosen low floor [] below order = (tt, below)
  order-chosen low floor (e ∷ es) below order = pick (p e) refl (λ first at_least. order-chosen first next es at_least order.2)
    where
      next : ℕ
      next = if moves_floor strict e then e.time else floor

      pick : (b : Bool) → p e ≡ b
          → ((first : ℕ) → first ≤ next → InOrder true first (filter p es) × (floor_after true first (filter p es) ≤ floor_after strict next es))
          → InOrder true low (cond b (e ∷ filter p es) (filter p es)) ×
          (floor_after true low (cond b (e ∷ filter p es) (filter p es)) ≤ floor_after strict next es)
      pick true is rest =
          let moves = photon-moves strict e (chosen-photon by group e is) in
          let first : floor ≤ e.time = order.1 moves in
          let same : next ≡ e.time = ap (λ b. if b then e.time else floor) moves in
          let more = rest e.time (omega (arith, same)) in
          ((order.0, (λ x. omega (arith, below, first)), more.0), more.1)
      pick false is rest = rest low (rises (moves_floor strict e) low floor e.time order.1 below)

  -- So the last of them is no further on than the floor after those events.
  pub last-chosen : (low floor : ℕ) (es : List Event) → low ≤ floor → InOrder strict floor es → (last : ℕ) (photons : List Event)
      → photons ≡ filter p es → (now : ℕ) → last ≤ floor_after true low photons → now ≡ floor_after strict floor es → last ≤ now
  last-chosen low floor es below order last photons are now last_is now_is =
      let one : last ≤ floor_after true low (filter p es) = subst (λ l. last ≤ floor_after true low l) are last_is in
      omega (arith, one, (order-chosen low floor es below order).1, now_is)

-- ## More events

module _ (s t : Stand) (l : Marked) (h : TookPhotons s t l) (m : Marked) (ps : List Event) (are : filter t.chooses (not_marked m) ≡ ps) where
  chosen-now : chosen_of s (l ++ m) ≡ chosen_of s l ++ ps
  chosen-now = chosen-more s.chooses l m ∙ ap (λ x. chosen_of s l ++ x) (ap (λ p. filter p (not_marked m)) (sym h.same_choice) ∙ are)

  -- The photons that are chosen of them were given.
  pub TookPhotons-more : (q : Pen) (taken floor : ℕ) → Gave t.pen q ps → taken ≡ t.taken + length m → floor ≡ max s.floor (floor_of t.mode (l ++ m))
      → TookPhotons s (record t { pen = q; taken = taken; floor = floor }) (l ++ m)
  TookPhotons-more q taken floor gave counted moved = record {
    same_choice = h.same_choice;
    same_mode = h.same_mode;
    counted = omega (arith, counted, h.counted, length-append l m);
    moved = moved ∙ rw h.same_mode refl;
    same_fault = h.same_fault;
    gave = rw chosen-now (Gave-trans s.pen t.pen q (chosen_of s l) h.gave ps gave);
  }

  -- One of them was refused.
  pub Refused-more : (fault : Fault) (now : Stand) → Stopped t.pen now.pen ps fault → now.fault ≡ Some fault → Refused s now (l ++ m)
  Refused-more fault now stop told = record { fault = fault; told = told; stopped = rw chosen-now (Stopped-behind s.pen t.pen now.pen (chosen_of s l) h.gave ps fault stop) }
