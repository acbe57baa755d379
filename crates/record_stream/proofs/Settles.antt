-- One event more where events are put in their places.
use Rattle.std.proofs.Common.{rules, IfSome, ◌≡◌, ◌+◌, ◌≤◌, ℕ, List, [], ◌∷◌, ◌++◌, Bool, true, false, cond, None, Some, Ok, Err, OnOk, OnErr, IfErr, length}
use Rattle.std.proofs.Common.{length-append, map, sym, ap, ◌∙◌, append-nil, add-zero, arith, ◌&&◌, not, is_some, IsTrue, if◌then◌else◌, ◌≢◌, refl, ◌==◌}
use Rattle.std.{proofs.lemmas.{List.{map-append, Elements.{filter-append, All-tail, All-from_recursion, recursion_from_All}}, Bool.ne_eqb}, specs.List.All}
use Rattle.{std.specs.{Option.option_to_list, declared.{option.Option.Option, result.Result.Result}}, tally_base.specs.declared.event.Event.Event}
use Rattle.tally_base.specs.{declared.{fault.Fault.{Fault, TheVariants.WriteFault}, header.Mode.Mode}, Events.is_ordered, FaultCounts.FailsOnce}
use Rattle.ptu_definitions.specs.{Kept.{Marked, floor_of, is_late}, Settled.{ordered, put_in, not_marked}, Streams.{StreamSettings, events_in}}
use Rattle.ptu_definitions.{specs.Times.{event_after, events}, proofs.{DeliveredLaws.{is_late_by-0, not_marked-append}, SettledLemmas.length-put_in}}
use Rattle.ptu_definitions.proofs.{SettlingLemmas.each-put_in, StreamLemmas.{events-push, events_in-push, fresh}}
use Rattle.abs_time.{specs.{Placing.{mode_of as clock_mode, placed_by}, Floors.moved_floor}, proofs.Floors.moved_floor-push}
use Rattle.record_stream.specs.{Keeping.{CanWait, Comes, IsKeeping, Settles, tells, refused_for}, Settling.{Becomes, ComesUp, Judges, GoesBetween, floor_in}}
use Rattle.record_stream.specs.{Settling.{Tells, Told}, Walking.{how_of, given_by, greatest_of, records_of, clock_in, Gave, KeepsPlace}}
use Rattle.{record_stream.specs.{declared.{taker.EventTaker.Ghosts, walk.Walk.Walk}, Feeding.Follows}, settle.specs.Passing.{HasPushed, KeepsOrEmits, MovesTo}}
use Rattle.settle.specs.{Passing.StandsBehind, Settling.told, declared.settle.{Settled.Settled, Settle.Settle}, Standing.{HasSettled, kept_back, next_place}}
use Rattle.settle.specs.Standing.{last_time, reach_of, was_popped}

-- whether an event is in order, by the mode of the clock of a walk
pub by_clock : (walk : Walk) (e : Event) (r : Bool) (mode : Mode) (b : Bool) → r ≡ is_ordered mode e
    → mode ≡ clock_mode walk.clock → r ≡ b → is_ordered (how_of walk).mode e ≡ b
by_clock walk e r mode b is of_clock told = sym (is ∙ ap (λ m. is_ordered m e) (of_clock ∙ walk.same_mode)) ∙ told

pub ordered-on : (mode : Mode) (e : Event) → is_ordered mode e ≡ true → ordered mode (e ∷ []) ≡ e ∷ []
ordered-on mode e on = ap (λ b. cond b (e ∷ []) []) on

-- The greatest time of what was given.
pub floor-most : (mode : Mode) (floor last : ℕ) (e : Event) → floor ≤ last → e.time ≤ last → moved_floor mode floor e false ≤ last
floor-most mode floor last e low time = search (rules, arith)

not_marked-told : (e : Event) (late : Bool) (o : Option Event) → (late ≡ true → o ≡ None) → not_marked (told e late o) ≡ option_to_list o
not_marked-told e late o none = search (rules, arith)

greatest-push : (mode : Mode) (l : Marked) (e : Event) (late : Bool) (last now : ℕ) → now ≡ moved_floor mode last e late
    → (IsTrue (is_ordered mode e && not late) → last ≤ e.time) → last ≡ floor_of mode l → now ≡ floor_of mode (l ++ (e, late) ∷ [])
greatest-push mode l e late last now moved in_order is = moved ∙ moved_floor-push mode 0 last l e late (omega (arith, is)) in_order ∙ omega arith

-- A late event lets none go.
none_late : (o : Option Event) (late more : Bool) → is_some o ≡ (not late && more) → late ≡ true → o ≡ None
none_late o late more is sure = search (rules, arith)

-- What waits then.
pub kept_on : (old new : Walk) (from now : Settle) → IsKeeping old from → how_of new ≡ how_of old
    → reach_of now ≡ reach_of from → was_popped now ≡ false → All (CanWait (how_of old).mode) (kept_back now)
    → next_place now ≤ placed_by (clock_in new) + 1 → given_by new + length (kept_back now) ≤ records_of new → IsKeeping new now
kept_on old new from now keeps same_how same_reach unpopped fit behind room = search (rules, arith)

put_in-all : (P : Event → Type 0) (o : Option Event) (w new : List Event) (e : Event)
    → option_to_list o ++ new ≡ put_in e w → P e → All P w → All P (option_to_list o ++ new)
put_in-all P o w new e is p all = rw is (All-from_recursion P (put_in e w) (each-put_in P e w p (recursion_from_All P w all)))

pub those_waiting : (P : Event → Type 0) (o : Option Event) (w new : List Event) (e : Event) → option_to_list o ++ new ≡ put_in e w → P e → All P w → All P new
those_waiting P None w new e is p all = put_in-all P None w new e is p all
those_waiting P (Some x) w new e is p all = All-tail P x new (put_in-all P (Some x) w new e is p all)

pub that_goes : (P : Event → Type 0) (o : Option Event) (x : Event) (w new : List Event) (e : Event)
    → o ≡ Some x → option_to_list o ++ new ≡ put_in e w → P e → All P w → P x
that_goes P o x w new e some is p all = let each = rw some at (put_in-all P o w new e is p all) in each 0 x (omega arith)

pub count_waiting : (o : Option Event) (w new : List Event) (e : Event)
    → option_to_list o ++ new ≡ put_in e w → length (option_to_list o) + length new ≡ length w + 1
count_waiting o w new e is = omega (arith, length-append (option_to_list o) new, ap length is, length-put_in e w)

-- A stream by whether events are put in their places.

pub plain-is : (k a b : ℕ) → k ≡ 0 → (if k == 0 then a else b) ≡ a
plain-is k a b zero = rw zero refl

pub some-is : (k a b : ℕ) → k ≢ 0 → (if k == 0 then a else b) ≡ b
some-is k a b some = rw (ne_eqb k 0 some) refl

-- In file order.
pub judges_plain : (how : StreamSettings) (settle : Settle) (before : List Event) (l : Marked) (e : Event) (late : Bool) (o : Option Event) → how.policy.settle ≡ 0
    → is_late how.mode before e ≡ late → o ≡ (if late then None else Some e) → Judges how settle before l e (record { emitted = o; late = late })
judges_plain how settle before l e late o h1 is emits = search (rules, arith, is_late_by-0)

pub becomes_plain : (walk : Walk) (settle : Settle) (e : Event) (late : Bool) (o : Option Event) → (how_of walk).policy.settle ≡ 0 → IsKeeping walk settle
    → ComesUp walk settle e late → o ≡ (if late then None else Some e) → Becomes walk settle settle e late (record { emitted = o; late = late })
becomes_plain walk settle e late o zero keeps comes emits =
    let floor : floor_in walk settle ≡ greatest_of walk = plain-is _ _ _ zero in
    record {
      judges = λ before l so come. judges_plain (how_of walk) settle before l e late o zero so emits;
      goes = goes_plain late o emits floor comes.top;
      rises = omega arith;
      fit = keeps.fit;
      count = count_plain late o emits;
      reach = refl;
      unpopped = refl;
      next = omega (arith, comes.next);
    }
  where
    goes_plain : (b : Bool) (o : Option Event) → o ≡ (if b then None else Some e) → floor_in walk settle ≡ greatest_of walk
        → (b ≡ false → is_ordered (how_of walk).mode e ≡ true → greatest_of walk ≡ e.time)
        → IfSome o (λ x. GoesBetween (how_of walk).mode (floor_in walk settle) (floor_in walk settle) x)
    goes_plain true o is floor top = rw is tt
    goes_plain false o is floor top = rw is (record { small = comes.small; in_order = λ on. let t = top refl on in (omega (arith, floor, t), omega (arith, floor, t)) })

    count_plain : (b : Bool) (o : Option Event) → o ≡ (if b then None else Some e) → length (told e b o) + length (kept_back settle) ≤ length (kept_back settle) + 1
    count_plain true o is = omega arith
    count_plain false o is = rw is (omega arith)

-- An event in order that is pushed.
module _ (walk : Walk) (from now : Settle) (e : Event) (late : Bool) (answer : Settled) (some : (how_of walk).policy.settle ≢ 0) (keeps : IsKeeping walk from)
    (comes : ComesUp walk from e late) (on : is_ordered (how_of walk).mode e ≡ true) (or_emits : KeepsOrEmits from now e answer)
    (moves : MovesTo from now answer.emitted) (stands : StandsBehind from now e.place)
    (pushed : (es given : List Event) → HasSettled from es given → HasPushed from now es given e answer) where
  waits : CanWait (how_of walk).mode e
  waits = record { small = comes.small; ordered = on }

  floor : (s : Settle) → floor_in walk s ≡ last_time s
  floor s = some-is (how_of walk).policy.settle (greatest_of walk) (last_time s) some

  becomes : ((l : Marked) → last_time from ≡ floor_of (how_of walk).mode l → last_time now ≡ floor_of (how_of walk).mode (l ++ told e answer.late answer.emitted))
      → IfSome answer.emitted (λ x. GoesBetween (how_of walk).mode (floor_in walk from) (floor_in walk now) x) → last_time from ≤ last_time now
      → All (CanWait (how_of walk).mode) (kept_back now) → length (told e answer.late answer.emitted) + length (kept_back now) ≤ length (kept_back from) + 1
      → Becomes walk from now e late answer
  becomes greatest goes rises fit count = record {
    judges = λ before l so come.
        let how = how_of walk in
        let c = come some in
        let p = pushed (ordered how.mode before) (not_marked l) c.settled in
        let none = ne_eqb how.policy.settle 0 some in
        let gone = not_marked-told e answer.late answer.emitted (λ sure. none_late answer.emitted answer.late _ or_emits.emits sure) in
        record {
          late = p.overtaken ∙ rw (keeps.reach, on) refl;
          tells = rw (none, on) (rw keeps.reach at p.tells);
          come = λ _. record {
            settled = rw (filter-append (λ (x : Event). is_ordered how.mode x) before (e ∷ []), ordered-on how.mode e on, not_marked-append, gone) p.settled;
            greatest = greatest l c.greatest;
          };
        };
    goes = goes;
    rises = omega (arith, floor from, floor now, rises);
    fit = fit;
    count = count;
    reach = stands.same_reach;
    unpopped = stands.same_popped;
    next = omega (arith, stands.place);
  }

  -- where it isn't late
  waiting : answer.late ≡ false → All (CanWait (how_of walk).mode) (kept_back now) × (length (option_to_list answer.emitted) + length (kept_back now) ≡ length (kept_back from) + 1)
  waiting is =
      let kept = or_emits.kept is in
      (those_waiting (CanWait (how_of walk).mode) answer.emitted (kept_back from) (kept_back now) e kept waits keeps.fit, count_waiting answer.emitted (kept_back from) (kept_back now) e kept)

  pub becomes_pushed : (o : Option Event) (b : Bool) → answer.emitted ≡ o → answer.late ≡ b → Becomes walk from now e late answer
  becomes_pushed None true emits is = becomes
      (λ l low. rw (emits, is) (greatest-push (how_of walk).mode l e true (last_time from) (last_time now) (moves.same_time emits ∙ search (rules, arith)) (λ h. search (rules, arith)) low))
      (rw emits tt) (omega (arith, moves.same_time emits)) (rw (or_emits.left_out is) keeps.fit) (rw is (omega (arith, ap length (or_emits.left_out is))))
  becomes_pushed None false emits is = search (rules, arith, becomes, append-nil, waiting)
  becomes_pushed (Some x) true emits is = let h : true ≡ false = rw (emits, is) at or_emits.emits in cc
  becomes_pushed (Some x) false emits is =
      let goes = that_goes (CanWait (how_of walk).mode) answer.emitted x (kept_back from) (kept_back now) e emits (or_emits.kept is) waits keeps.fit in
      let time : last_time now ≡ x.time = rw emits at moves.time in
      let low : last_time from ≤ x.time = rw emits at moves.rises in
      becomes (λ l is_low. rw (emits, is) (greatest-push (how_of walk).mode l x false (last_time from) (last_time now) (time ∙ rw goes.ordered refl) (λ _. low) is_low))
      (rw emits (record { small = goes.small; in_order = λ _. (omega (arith, floor from, low), omega (arith, floor now, time)) }))
      (omega (arith, time, low)) (waiting is).0 (rw (is, emits) (omega (arith, rw emits at (waiting is).1)))

-- The greatest time given is the same where nothing was placed.
pub floor-same : (old new : Walk) (s : Settle) → how_of new ≡ how_of old → clock_in new ≡ clock_in old → floor_in new s ≡ floor_in old s
floor-same old new s how clock = search (rules, arith)

module _ {T : Type 0} (g : Ghosts T) where
  -- an event that adds nothing
  pub told_none : (how : StreamSettings) (walk : Walk) (settle : Settle) (t : T) (before : List Event) (l : Marked) (e : Event) (top : ℕ)
      → refused_for how before e top ≡ None → tells how.policy.settle how.mode before e ≡ []
      → Comes how settle (before ++ e ∷ []) (l ++ []) → Told g how walk walk settle t t before l e top
  told_none how walk settle t before l e top none is come = search (rules, arith, append-nil, add-zero)

  -- an event that adds one, which was given or broke the taker
  pub tells_one : {X : Type 0} (r : Result X Fault) (old new : Walk) (settle : Settle) (t now : T)
      (before : List Event) (l : Marked) (e x : Event) (late : Bool) (top : ℕ) → refused_for (how_of old) before e top ≡ None
      → tells (how_of old).policy.settle (how_of old).mode before e ≡ (x, late) ∷ [] → Comes (how_of old) settle (before ++ e ∷ []) (l ++ (x, late) ∷ [])
      → OnOk r (Gave g old new t now x late) → OnErr r ((start : T) (l : Marked) → g.got start t l → g.broke start now (l ++ (x, late) ∷ []))
      → IfErr r (λ fault. fault ≡ WriteFault) → FailsOnce (g.faults t) (g.faults now) r
      → Tells g old new settle t now before l e top r
  tells_one r old new settle t now before l e x late top none is come gave broken fault cause = search (rules, arith)

  -- a late one leaves the greatest time
  pub late_follows : {X : Type 0} (r : Result X Fault) (old new : Walk) (from now : Settle) (t u : T) (e : Event)
      → OnOk r (Gave g old new t u e true) → KeepsPlace old new → Follows g (how_of old).mode (given_by old) (floor_in old from) t
      → floor_in old from ≤ floor_in old now → OnOk r (Follows g (how_of old).mode (given_by new) (floor_in new now) u)
  late_follows (Ok x) old new from now t u e gave place follows rises =
      let same = floor-same old new now place.same_how place.same_clock in
      let moved : moved_floor (how_of old).mode (g.floor t) e true ≡ g.floor t = search (rules, arith) in
      gave.follows (floor_in new now) (omega (arith, moved, same, follows.before, rises))
  late_follows (Err y) old new from now t u e gave place follows rises = tt

-- After one word more.
pub come_word : (how : StreamSettings) (settle : Settle) (ws : List ℕ) (w : ℕ) (es : List Event) (l : Marked)
    → event_after (map how.meaning ws) (how.meaning w) ≡ es → fresh how ws (how.meaning w) ≡ l
    → Comes how settle (events (map how.meaning ws) ++ es) (events_in how ws ++ l) → Settles how settle (ws ++ w ∷ [])
come_word how settle ws w es l is adds come = search (rules, arith, events_in-push, map-append, events-push)

pub none-is : (b : Bool) (x y : ℕ) → x ≡ 0 → y ≡ 0 → (if b then x else y) ≡ 0
none-is b x y one other = search (rules, arith)

pub follows_to : {T : Type 0} (g : Ghosts T) (how : StreamSettings) (count top top' : ℕ) (t : T)
    → Follows g how.mode count top t → top' ≡ top → Follows g how.mode count top' t
follows_to g how count top top' t h same = record { mode_is = h.mode_is; few = h.few; before = omega (arith, h.before, same) }
