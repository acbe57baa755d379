-- The events that are kept back, given one after another at the end.
use Rattle.std.proofs.Common.{rules, ◌≡◌, ◌+◌, ◌≤◌, ℕ, List, [], ◌∷◌, ◌++◌, Bool, false, cond, Ok, Err, OnErr, IfErr, length, map, refl, sym, ap, subst, ◌∙◌}
use Rattle.std.proofs.{Common.{append_assoc, append-nil, arith, length-append, ◌==◌}, lemmas.{Bool.eqb-true, List.{map-append, length-map, nil_from_length}}}
use Rattle.{std.{proofs.lemmas.List.Elements.All-tail, specs.{List.All, declared.result.Result.Result}}, tally_base.specs.declared.event.Event.Event}
use Rattle.{tally_base.specs.{declared.fault.Fault.{Fault, TheVariants.WriteFault}, FaultCounts.{FailsOnce, Rose}}, ptu_definitions.specs.Kept.Marked}
use Rattle.ptu_definitions.specs.{Settled.{delivered_last, in_time, last_of, marked_as, ordered}, Streams.{StreamSettings, last_in}, Times.events}
use Rattle.{ptu_definitions.proofs.{DeliveredLaws.delivered_last-0, SettlingLemmas.waits-is}, settle.specs.Standing.{kept_back, reach_of, was_popped}}
use Rattle.{settle.specs.declared.settle.Settle.Settle, record_stream.specs.{Ending.{GaveFirst, BrokeFirst}, Feeding.Follows, Keeping.{CanWait, Settles}}}
use Rattle.record_stream.specs.{Walking.{how_of, given_by, records_of, Notes, KeepsPlace}, declared.{taker.EventTaker.Ghosts, walk.Walk.Walk}}
use Rattle.record_stream.proofs.{Steps.on_time-push, Lasts.some-settle, Summaries.with_marks-append}

-- all that is left begins with the event that is taken out
pub parts_one : (all front left rest : List Event) (e : Event) → all ≡ front ++ left → left ≡ e ∷ rest → all ≡ (front ++ e ∷ []) ++ rest
parts_one all front left rest e is first = is ∙ ap (λ l. front ++ l) first ∙ sym (append_assoc front (e ∷ []) rest)

module _ {T : Type 0} (g : Ghosts T) (walk : Walk) (start : T) (all : List Event) where
  pub gave_none : (last : ℕ) → given_by walk + length all ≤ records_of walk → Follows g (how_of walk).mode (given_by walk) last start
      → All (CanWait (how_of walk).mode) all → g.same start start → GaveFirst g walk start all walk start all last
  gave_none last room follows fit same = search (rules, arith, append-nil)

  pub broke_one : {X : Type 0} (r : Result X Fault) (now : Walk) (taker new : T) (left rest : List Event) (last : ℕ) (e : Event)
      → GaveFirst g walk start all now taker left last → left ≡ e ∷ rest
      → OnErr r ((s : T) (l : Marked) → g.got s taker l → g.broke s new (l ++ (e, false) ∷ []))
      → IfErr r (λ fault. fault ≡ WriteFault) → FailsOnce (g.faults taker) (g.faults new) r
      → IfErr r (λ fault. (fault ≡ WriteFault) × BrokeFirst g start new (marked_as false all))
  broke_one (Ok x) now taker new left rest last e h is breaks fault cause = tt
  broke_one (Err y) now taker new left rest last e h is breaks fault cause = (
    fault,
    record {
      front = marked_as false (h.front ++ e ∷ []);
      back = marked_as false rest;
      some = omega (arith, length-map {B = Event × Bool} (h.front ++ e ∷ []) (λ (x : Event). (x, false)), length-append h.front (e ∷ []));
      adds = ap (marked_as false) (parts_one all h.front left rest e h.adds is) ∙ map-append (λ (x : Event). (x, false)) (h.front ++ e ∷ []) rest;
      broken = λ s l got. subst (λ m. g.broke s new m) (on_time-push h.front (e ∷ []) l) (breaks s (l ++ marked_as false h.front) (h.follows s l got));
      rose = subst (λ n. Rose n (g.faults new)) h.kept cause.once;
    },
  )

  pub gave_one : {X : Type 0} (x : X) (now next : Walk) (taker new : T) (left rest : List Event) (last low : ℕ) (e : Event)
      → GaveFirst g walk start all now taker left last → left ≡ e ∷ rest
      → ((s : T) (l : Marked) → g.got s taker l → g.got s new (l ++ (e, false) ∷ []))
      → Notes now next e false → KeepsPlace now next → Follows g (how_of now).mode (given_by next) low new
      → g.faults new ≡ g.faults taker → g.same start new → GaveFirst g walk start all next new rest low
  gave_one x now next taker new left rest last low e h is gives notes place follows kept same =
      let mode : (how_of next).mode ≡ (how_of now).mode = ap (λ (how : StreamSettings). how.mode) place.same_how in
      record {
        front = h.front ++ e ∷ [];
        adds = parts_one all h.front left rest e h.adds is;
        follows = λ s l got. subst (λ m. g.got s new m) (on_time-push h.front (e ∷ []) l) (gives s (l ++ marked_as false h.front) (h.follows s l got));
        summary = search (rules, arith, map-append, with_marks-append);
        same_how = place.same_how ∙ h.same_how;
        room = omega (arith, h.room, ap length is, notes.given, place.same_records);
        few = follows.few;
        mode_is = follows.mode_is ∙ sym mode;
        fit = rw mode (All-tail (CanWait (how_of now).mode) e rest (rw is at h.fit));
        low = follows.before;
        kept = kept ∙ h.kept;
        same = same;
      }

-- What is kept back is what is delivered at the end.
rest_pick : (how : StreamSettings) (settle : Settle) (words : List ℕ) (b : Bool) → (how.policy.settle == 0) ≡ b
    → reach_of settle ≡ how.policy.settle → was_popped settle ≡ false → Settles how settle words
    → marked_as false (kept_back settle) ≡ cond b []
    (marked_as false (last_of how.policy.settle (in_time how.policy.settle (ordered how.mode (events (map how.meaning words))))))
rest_pick how settle words b is reach still come = search (rules, arith, eqb-true, nil_from_length, some-settle, waits-is)

pub rest-is : (how : StreamSettings) (settle : Settle) (words : List ℕ) → reach_of settle ≡ how.policy.settle
    → was_popped settle ≡ false → Settles how settle words → marked_as false (kept_back settle) ≡ last_in how words
unfolding delivered_last
rest-is how settle words reach still come = rest_pick how settle words (how.policy.settle == 0) refl reach still come

-- and nothing where no event is put in its place
pub none-is : (how : StreamSettings) (words : List ℕ) → how.policy.settle ≡ 0 → last_in how words ≡ []
none-is how words zero = ap (λ k. delivered_last k how.mode (events (map how.meaning words))) zero ∙ delivered_last-0 how.mode (events (map how.meaning words))
