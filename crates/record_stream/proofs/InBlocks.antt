-- A taker with the events that it is given next.
use Rattle.std.proofs.Common.{rules, if◌then◌else◌, IfErr, inl, inr, ◌⊎◌, ◌≢◌, subst, Ok, Err, OnOk, OnErr, ◌≡◌, ◌+◌, ◌<◌, ◌≤◌, ℕ, List, [], ◌∷◌, ◌++◌, length}
use Rattle.std.proofs.Common.{refl, sym, ap, ◌∙◌, append-nil, append_assoc, length-append, arith, max, Bool, true, false, IsTrue, ◌&&◌, not}
use Rattle.{std.{proofs.lemmas.List.{map-append, Elements.All-append}, specs.declared.result.Result.Result}, tally_base.specs.declared.event.Event.Event}
use Rattle.tally_base.specs.{declared.{fault.Fault.{Fault, TheVariants.WriteFault}, header.Mode.Mode, block.Block.Block}, FaultCounts.Rose, Events.is_ordered}
use Rattle.tally_base.{specs.{Columns.{gathered, sorted}, Limits.{time_limit, record_limit}, Tally.{floor_after, InOrder}}, proofs.Floors.floor-append}
use Rattle.{tally_base.proofs.Floors.order-append, ptu_definitions.specs.{Kept.{Marked, floor_of}, Layouts.KindFits, Streams.{StreamSettings, given}}}
use Rattle.{ptu_definitions.proofs.{Firsts.record_refusal-inside, DeliveredLaws.not_marked-append}, abs_time.specs.Floors.{orders_markers, moved_floor}}
use Rattle.{abs_time.proofs.Floors.moved_floor-push, record_stream.specs.{Feeding.{GaveOn, BrokeOn, Fed}, Blocks.{on_time, AllFit, AreAlike, LetsLatePass}}}
use Rattle.record_stream.specs.{Blocks.BrokeAmong, InBlocks.{MayStandFor, stands-same, GoesOn, Breaks, Waits, taken_with, floor_with}}
use Rattle.record_stream.{specs.declared.taker.EventTaker.Ghosts, proofs.{Gathering.floor_of-block, Steps.length-on_time}}

floor_of-append : (mode : Mode) (l m : Marked) → floor_of mode (l ++ m) ≡ max (floor_of mode l) (floor_of mode m)
floor_of-append mode [] m = omega arith
floor_of-append mode (x ∷ l) m = rw (floor_of-append mode l m) (omega arith)

-- the greatest time with events in order after one
pub floor_of-line : (mode : Mode) (floor : ℕ) (es : List Event) → InOrder (orders_markers mode) floor es
    → floor_after (orders_markers mode) floor es ≡ max floor (floor_of mode (on_time es))
floor_of-line mode floor es order = floor_of-block mode [] es floor floor (omega arith) order

late_floor : (mode : Mode) (floor : ℕ) (e : Event) → moved_floor mode floor e true ≡ floor
late_floor mode floor e = search (rules, arith)

-- one event in order
pub one-order : (mode : Mode) (floor : ℕ) (e : Event) → e.time ≤ time_limit → (IsTrue (is_ordered mode e && not false) → floor ≤ e.time)
    → InOrder (orders_markers mode) floor (e ∷ [])
one-order mode floor e time order = search (rules, arith)

alike-trans : {k l m : Marked} → AreAlike k l → AreAlike l m → AreAlike k m
alike-trans p q = record { count = p.count ∙ q.count; on_time = p.on_time ∙ q.on_time; floor = λ mode. p.floor mode ∙ q.floor mode }

alike-append : {k l m n : Marked} → AreAlike k l → AreAlike m n → AreAlike (k ++ m) (l ++ n)
alike-append {k = k} {l = l} {m = m} {n = n} p q = search (rules, arith, length-append, not_marked-append, floor_of-append)

-- a late event before those on time
alike-late : (es : List Event) (e : Event) → AreAlike ((e, true) ∷ on_time es) (on_time es ++ (e, true) ∷ [])
alike-late es e = search (rules, arith, length-append, not_marked-append, append-nil, floor_of-append)

module _ {T : Type 0} (g : Ghosts T) where
  stands-trans : {k l m : Marked} → MayStandFor g k l → MayStandFor g l m → MayStandFor g k m
  stands-trans {k = k} {l = l} {m = m} p q = search (rules, arith, alike-trans)

  stands-append : {k l m n : Marked} → MayStandFor g k l → MayStandFor g m n → MayStandFor g (k ++ m) (l ++ n)
  stands-append {k = k} {l = l} {m = m} {n = n} p q = record { alike = alike-append p.alike q.alike; but = both p.but q.but }
    where
      both : (k ≡ l) ⊎ LetsLatePass g.got g.broke → (m ≡ n) ⊎ LetsLatePass g.got g.broke → (k ++ m ≡ l ++ n) ⊎ LetsLatePass g.got g.broke
      both (inl one) (inl two) = inl (rw (one, two) refl)
      both (inl one) (inr pass) = inr pass
      both (inr pass) two = inr pass

  stands-by : {l m : Marked} → l ≡ m → MayStandFor g l m
  stands-by {l = l} is = subst (λ x. MayStandFor g l x) is (stands-same g l)

  -- what it got
  got-standing : (start t : T) (l m : Marked) → AreAlike l m → (l ≡ m) ⊎ LetsLatePass g.got g.broke → g.got start t l → g.got start t m
  got-standing start t l m alike (inl is) got = subst (λ x. g.got start t x) is got
  got-standing start t l m alike (inr pass) got = pass.passes start t l m alike got

  -- where a taker can break, the lists are one
  strictly : {l m : Marked} → (LetsLatePass g.got g.broke → ⊥) → (l ≡ m) ⊎ LetsLatePass g.got g.broke → l ≡ m
  strictly strict h2 = search (rules, arith)

  pub goes_on-trans : {old mid new : T} {es between now : List Event} {l m : Marked}
      → GoesOn g old mid es between l → GoesOn g mid new between now m → GoesOn g old new es now (l ++ m)
  goes_on-trans {es = es} {l = l} {m = m} p q = record {
    front = p.front ++ q.front;
    parts = stands-trans (stands-by (append_assoc p.front q.front _)) (stands-trans (stands-append (stands-same g p.front) q.parts)
        (stands-trans (stands-by (sym (append_assoc p.front _ m))) (stands-trans (stands-append p.parts (stands-same g m)) (stands-by (append_assoc (on_time es) l m)))));
    follows = λ start x got. rw (← append_assoc) (q.follows start _ (p.follows start x got));
    counted = omega (arith, p.counted, q.counted, length-append l m);
    moved = q.moved ∙ rw (p.moved, p.same_mode, floor_of-append) (omega arith);
    same_mode = q.same_mode ∙ p.same_mode;
  }

  pub goes_on-last : {old mid new : T} {es between now : List Event} {l : Marked}
      → GoesOn g old mid es between l → GoesOn g mid new between now [] → GoesOn g old new es now l
  goes_on-last {old = old} {new = new} {es = es} {now = now} {l = l} p q = subst (λ m. GoesOn g old new es now m) (append-nil l) (goes_on-trans p q)

  -- it broke at what came after
  pub breaks-behind : {old mid new : T} {es between : List Event} {l m : Marked}
      → GoesOn g old mid es between l → Breaks g mid new between m → Breaks g old new es (l ++ m)
  breaks-behind {es = es} {l = l} {m = m} p q = record {
    front = p.front ++ q.front;
    back = q.back;
    some = omega (arith, length-append p.front q.front, q.some);
    strict = q.strict;
    parts = sym (append_assoc (on_time es) l m) ∙ ap (λ x. x ++ m) (sym (strictly q.strict p.parts.but)) ∙ append_assoc p.front _ m ∙ ap (λ x. p.front ++ x) q.parts ∙ sym (append_assoc p.front q.front q.back);
    broken = λ start x got. rw (← append_assoc) (q.broken start _ (p.follows start x got));
  }

  pub breaks-last : {old mid new : T} {es between : List Event} {l : Marked}
      → GoesOn g old mid es between l → Breaks g mid new between [] → Breaks g old new es l
  breaks-last {old = old} {new = new} {es = es} {l = l} p q = subst (λ m. Breaks g old new es m) (append-nil l) (breaks-behind p q)

  -- or before that
  pub breaks-before : {old new : T} {es : List Event} {l : Marked} (m : Marked) → Breaks g old new es l → Breaks g old new es (l ++ m)
  breaks-before {es = es} {l = l} m b = record {
    front = b.front;
    back = b.back ++ m;
    some = b.some;
    strict = b.strict;
    parts = sym (append_assoc (on_time es) l m) ∙ ap (λ x. x ++ m) b.parts ∙ append_assoc b.front b.back m;
    broken = b.broken;
  }

  -- those that wait were given in a block
  pub goes_on-given : {old new : T} {es : List Event} → ((start : T) (m : Marked) → g.got start old m → g.got start new (m ++ on_time es))
      → g.taken new ≡ g.taken old + length es → g.mode new ≡ g.mode old → g.floor new ≡ floor_after (orders_markers (g.mode old)) (g.floor old) es
      → GoesOn g old new es [] []
  goes_on-given {es = es} follows more mode moved = record {
    front = on_time es;
    parts = stands-same g _;
    follows = follows;
    counted = omega (arith, more);
    moved = moved ∙ omega arith;
    same_mode = mode;
  }

  pub breaks-among : {old new : T} {es : List Event} → g.got old old []
      → BrokeAmong g.got g.broke old new es → Breaks g old new es []
  breaks-among {old = old} {new = new} {es = es} none b = record {
    strict = λ pass. pass.unbroken old new (on_time b.front) (b.broken old [] none);
    front = on_time b.front;
    back = on_time b.back;
    some = omega (arith, length-on_time b.front, b.some);
    parts = append-nil (on_time es) ∙ ap on_time b.are ∙ map-append (λ (e : Event). (e, false)) b.front b.back;
    broken = b.broken;
  }

  -- more events wait
  pub goes_on-push : (t : T) (es now more : List Event) → now ≡ es ++ more → InOrder (orders_markers (g.mode t)) (floor_with g t es) more
      → GoesOn g t t es now (on_time more)
  goes_on-push t es now more is order = rw is (record {
    front = [];
    parts = stands-by (map-append (λ (e : Event). (e, false)) es more);
    follows = λ start m got. rw append-nil got;
    counted = omega (arith, length-append es more, length-on_time more);
    moved = floor-append (orders_markers (g.mode t)) (g.floor t) es more ∙ floor_of-line (g.mode t) (floor_with g t es) more order;
    same_mode = refl;
  })

  -- one late event was given, before those that wait
  goes_on-late : {old new : T} {es : List Event} (e : Event) → (es ≡ []) ⊎ LetsLatePass g.got g.broke → ((start : T) (m : Marked) → g.got start old m → g.got start new (m ++ (e, true) ∷ []))
      → g.taken new ≡ g.taken old + 1 → g.mode new ≡ g.mode old → g.floor new ≡ moved_floor (g.mode old) (g.floor old) e true
      → GoesOn g old new es es ((e, true) ∷ [])
  goes_on-late {old = old} {new = new} {es = es} e passed follows more mode moved = record {
    front = (e, true) ∷ [];
    parts = record { alike = alike-late es e; but = alone passed };
    follows = follows;
    counted = omega (arith, more);
    moved = rw (moved, mode, late_floor (g.mode old) (g.floor old) e, none (is_ordered (g.mode old) e) e.time) (omega arith);
    same_mode = mode;
  }
    where
      none : (b : Bool) (n : ℕ) → (if b && not true then n else 0) ≡ 0
      none b n = search (rules, arith)

      alone : (es ≡ []) ⊎ LetsLatePass g.got g.broke → ((e, true) ∷ on_time es ≡ on_time es ++ (e, true) ∷ []) ⊎ LetsLatePass g.got g.broke
      alone (inl is) = inl (rw is refl)
      alone (inr pass) = inr pass

  pub late-given : {X E : Type 0} (r : Result X E) (new : T) {old mid : T} {es now : List Event} (e : Event) → (now ≡ []) ⊎ LetsLatePass g.got g.broke
      → GoesOn g old mid es now [] → OnOk r ((start : T) (m : Marked) → g.got start mid m → g.got start new (m ++ (e, true) ∷ []))
      → OnOk r (g.taken new ≡ g.taken mid + 1) → OnOk r (g.mode new ≡ g.mode mid) → OnOk r (g.floor new ≡ moved_floor (g.mode mid) (g.floor mid) e true)
      → OnOk r (GoesOn g old new es now ((e, true) ∷ []))
  late-given (Ok x) new e passed gave follows more mode moved = goes_on-trans gave (goes_on-late e passed follows more mode moved)
  late-given (Err x) new e passed gave follows more mode moved = tt

  -- it broke, so none waits
  late-broke : {mid new : T} {now : List Event} (e : Event) → g.got mid mid [] → (now ≡ []) ⊎ LetsLatePass g.got g.broke
      → ((start : T) (m : Marked) → g.got start mid m → g.broke start new (m ++ (e, true) ∷ [])) → now ≡ []
  late-broke e none (inl is) broken = is
  late-broke {mid = mid} {new = new} e none (inr pass) broken = absurd (pass.unbroken mid new ((e, true) ∷ []) (broken mid [] none))

  pub late-broken : {X E : Type 0} (r : Result X E) (new : T) {old mid : T} {es now : List Event} (e : Event) → g.got mid mid [] → (now ≡ []) ⊎ LetsLatePass g.got g.broke
      → GoesOn g old mid es now [] → OnErr r ((start : T) (m : Marked) → g.got start mid m → g.broke start new (m ++ (e, true) ∷ []))
      → OnErr r (Breaks g old new es ((e, true) ∷ []))
  late-broken (Ok x) new e none passed gave broken = tt
  late-broken (Err x) new {mid = mid} {now = now} e none passed gave broken = breaks-behind gave (record {
    strict = λ pass. pass.unbroken mid new ((e, true) ∷ []) (broken mid [] none);
    front = (e, true) ∷ [];
    back = [];
    some = omega arith;
    parts = rw (late-broke e none passed broken) refl;
    broken = broken;
  })

  pub waits-none : {N : ℕ} (taker : T) (block : Block N) → gathered block ≡ [] → sorted block ≡ 0 → Waits g taker block
  waits-none taker block none unsorted = search (rules, arith)

  -- those that wait still do
  pub late-waits : {N : ℕ} {X E : Type 0} (r : Result X E) (new : T) {mid : T} (block : Block N) (e : Event) → g.got mid mid [] → (gathered block ≡ []) ⊎ LetsLatePass g.got g.broke
      → Waits g mid block → OnErr r ((start : T) (m : Marked) → g.got start mid m → g.broke start new (m ++ (e, true) ∷ []))
      → g.taken mid + length (gathered block) < record_limit
      → OnOk r (g.taken new ≡ g.taken mid + 1) → OnOk r (g.mode new ≡ g.mode mid) → OnOk r (g.floor new ≡ moved_floor (g.mode mid) (g.floor mid) e true)
      → Waits g new block
  late-waits (Ok x) new {mid = mid} block e none passed w broken room more mode moved = search (rules, arith, late_floor)
  late-waits (Err x) new block e none passed w broken room more mode moved = waits-none new block (late-broke e none passed broken) w.unsorted

  -- where they lead
  pub moved-one : {old new : T} {es now : List Event} (e : Event) (late : Bool) → GoesOn g old new es now ((e, late) ∷ [])
      → (IsTrue (is_ordered (g.mode old) e && not late) → floor_with g old es ≤ e.time)
      → floor_with g new now ≡ moved_floor (g.mode old) (floor_with g old es) e late
  moved-one {old = old} {es = es} e late on order = search (rules, arith, moved_floor-push)

  -- as far as before
  pub floor-still : {old new : T} {es now : List Event} → GoesOn g old new es now [] → floor_with g new now ≡ floor_with g old es
  floor-still on = on.moved ∙ omega arith

  pub still-order : {old new : T} {es now : List Event} (more : List Event) → GoesOn g old new es now []
      → InOrder (orders_markers (g.mode old)) (floor_with g old es) more → InOrder (orders_markers (g.mode new)) (floor_with g new now) more
  still-order {old = old} {new = new} {es = es} more on order = search (rules, arith, floor-still)

  -- Events that come next wait too.
  pub record Fits (taker : T) (es more : List Event) : Type 0 where
    pub order : InOrder (orders_markers (g.mode taker)) (floor_with g taker es) more
    pub fit : AllFit (g.mode taker) more
    pub few : taken_with g taker es + length more ≤ record_limit

  pub fits-still : {old new : T} {es now : List Event} (more : List Event) → GoesOn g old new es now [] → Fits old es more → Fits new now more
  fits-still more on f = search (rules, arith, still-order)

  pub waits-push : {N : ℕ} (taker : T) (block now : Block N) (more : List Event) → Waits g taker block → gathered now ≡ gathered block ++ more → sorted now ≡ sorted block
      → Fits taker (gathered block) more → Waits g taker now
  waits-push taker block now more w are same f = record {
    in_order = rw are (order-append (orders_markers (g.mode taker)) (g.floor taker) (gathered block) more w.in_order f.order);
    fit = rw are (All-append (λ (e : Event). KindFits (g.mode taker) e.kind) (gathered block) more w.fit f.fit);
    few = λ some. omega (arith, f.few, ap length are, length-append (gathered block) more);
    unsorted = same ∙ w.unsorted;
  }

  pub fits-one : (taker : T) (es : List Event) (e : Event) → e.time ≤ time_limit → (IsTrue (is_ordered (g.mode taker) e && not false) → floor_with g taker es ≤ e.time)
      → KindFits (g.mode taker) e.kind → taken_with g taker es < record_limit → Fits taker es (e ∷ [])
  fits-one taker es e time order kind few = search (rules, arith, one-order)

  -- What was given of words whose events went through a block.

  pub gave-whole : {how : StreamSettings} {old new : T} {es now : List Event} {more : Marked} {ws us : List ℕ} → es ≡ [] → now ≡ []
      → given how us ≡ given how ws ++ more → GoesOn g old new es now more → g.faults new ≡ g.faults old → GaveOn g how old new ws us
  gave-whole {new = new} {more = more} none empty adds on kept =
      let are : MayStandFor g on.front more = stands-trans (stands-by (sym (append-nil on.front) ∙ ap (λ x. on.front ++ on_time x) (sym empty))) (stands-trans on.parts (stands-by (ap (λ x. on_time x ++ more) none))) in
      record { more = more; adds = adds; follows = λ start m got. (let put = stands-append (stands-same g m) are in got-standing start new (m ++ on.front) (m ++ more) put.alike put.but (on.follows start m got)); kept = kept }

  pub broke-whole : {how : StreamSettings} {old new : T} {es : List Event} {more : Marked} (back : Marked) {ws us : List ℕ} → es ≡ []
      → given how us ≡ given how ws ++ (more ++ back) → Breaks g old new es more → Rose (g.faults old) (g.faults new) → BrokeOn g how old new ws us
  broke-whole {how = how} {more = more} back {ws = ws} none adds b rose = search (rules, arith, append_assoc)

  -- at the end
  pub broke-end : {how : StreamSettings} {old new : T} {es : List Event} {more : Marked} {ws us : List ℕ} → es ≡ []
      → given how us ≡ given how ws ++ more → Breaks g old new es more → Rose (g.faults old) (g.faults new) → BrokeOn g how old new ws us
  broke-end {how = how} {more = more} {ws = ws} none adds b rose = broke-whole [] none (adds ∙ ap (λ m. given how ws ++ m) (sym (append-nil more))) b rose

  -- what it was given, whatever is answered
  pub fed-given : {X : Type 0} {how : StreamSettings} {old new : T} {ws us : List ℕ} (r : Result X Fault) → IfErr r (λ fault. fault ≢ WriteFault)
      → Fed g how old new ws us r → GaveOn g how old new ws us
  fed-given r whole p = search (rules, arith)

  module _ {T' : Type 0} (g' : Ghosts T') {how : StreamSettings} {old new : T} {old' new' : T'} {ws us : List ℕ} where
    -- where the taker broke
    pub fed-broke : (X : Type 0) {es : List Event} → es ≡ [] → ((l : Marked) → ((start : T') (m : Marked) → g'.got start old' m → g'.broke start new' (m ++ l)) → Breaks g old new es l)
        → g'.faults old' ≡ g.faults old → g'.faults new' ≡ g.faults new → Fed g' {X = X} how old' new' ws us (Err WriteFault) → Fed g {X = X} how old new ws us (Err WriteFault)
    fed-broke X none through before after (inl r) = let e : true ≡ false = record_refusal-inside how us WriteFault r.0 in cc
    fed-broke X none through before after (inr r) = search (rules, arith, broke-whole)

    -- and where it didn't
    pub fed-gave : {X : Type 0} (r : Result X Fault) → IfErr r (λ fault. fault ≢ WriteFault) → (GaveOn g' how old' new' ws us → GaveOn g how old new ws us)
        → Fed g' how old' new' ws us r → Fed g how old new ws us r
    fed-gave r whole through p = search (rules, arith)
