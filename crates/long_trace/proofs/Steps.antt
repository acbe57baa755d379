-- One event more.
use Rattle.std.proofs.Common.{◌≡◌, ◌∙◌, ℕ, ◌+◌, ◌-◌, ◌/◌, ◌<◌, Bool, true, false, ◌&&◌, cond, List, [], ◌∷◌, ◌++◌, max, sym, ap, arith, append-nil, nat_le}
use Rattle.std.proofs.Common.{◌==◌, slice_index, count_by, if◌then◌else◌, rules, ◌≤◌, length, append_assoc, length-append, IsTrue, nat_lt}
use Rattle.{std.proofs.lemmas.{Bool.Decides.nat_tests, List.Sums.{sum_by_push, fold_push}}, tally_base.specs.{declared.event.Event.Event, Events.is_photon}}
use Rattle.tally_base.{specs.{Events.is_in, Settings.{TraceView, trace_view}, Tally.{History, greatest_time}}, proofs.Floors.greatest-push}
use Rattle.{count_trace.{specs.TraceCounts.{count_times, in_trace_bin, count_before}, proofs.Blocks.count-append}, long_trace.specs.Texts.frequency_limit}
use Rattle.long_trace.specs.{Texts.{is_binned, bin_at, span, bin_line, bin_lines, closed_lines, counts, frequency, above, open_text}, Bins.BinState}
use Rattle.long_trace.specs.{Bins.{CountsBins, CountsOn}, declared.trace.LongTrace.LongTrace, LongTrace.{GivenMore, set_of, is_going, was_begun}}
use Rattle.long_trace.{specs.States.state_of, proofs.Firsts.{first-same, lines-same, count-skip, lines-skip}}

-- it is a photon of the group
abbrev pub of_group : TraceView → Event × ℕ → Bool
of_group set x = is_photon x.0 && is_in x.1 set.group

pub times-push : (set : TraceView) (test : ℕ → Bool) (h : History) (x : Event × ℕ)
    → count_times set test (h ++ x ∷ []) ≡ count_times set test h + cond (is_photon x.0 && (is_in x.1 set.group && test x.0.time)) 1 0
times-push set test h x = sum_by_push (λ (x : Event × ℕ). cond (is_photon x.0 && (is_in x.1 set.group && test x.0.time)) 1 0) h x

by_test : (p g t : Bool) → (p && (g && t)) ≡ ((p && g) && t)
by_test p g t = search (rules, arith)

-- by its group
pub times-group : (set : TraceView) (test : ℕ → Bool) (h : History) (x : Event × ℕ) (b : Bool) → of_group set x ≡ b
    → count_times set test (h ++ x ∷ []) ≡ count_times set test h + cond (b && test x.0.time) 1 0
times-group set test h x b is = search (rules, arith, times-push, by_test)

parted : (p g l t : Bool) → (p && (g && (l && t))) ≡ ((p && (g && l)) && t)
parted p g l t = search (rules, arith)

pub bin-push : (set : TraceView) (b : ℕ) (h : History) (x : Event × ℕ) (is : Bool) → is_binned set x ≡ is
    → in_trace_bin set b (h ++ x ∷ []) ≡ in_trace_bin set b h + cond (is && (bin_at set x.0.time == b)) 1 0
bin-push set b h x is e =
    times-push set (λ time. nat_le set.origin time && ((time - set.origin) / set.width == b)) h x ∙ ap (λ t. in_trace_bin set b h + cond t 1 0)
    (parted (is_photon x.0) (is_in x.1 set.group) (nat_le set.origin x.0.time) (bin_at set x.0.time == b) ∙ ap (λ t. t && (bin_at set x.0.time == b)) e)

pub bin-none : (set : TraceView) (b : ℕ) (h : History) (x : Event × ℕ) → is_binned set x ≡ false → in_trace_bin set b (h ++ x ∷ []) ≡ in_trace_bin set b h
bin-none set b h x e = omega (arith, bin-push set b h x false e)

eq_is : (n m : ℕ) → n ≡ m → (n == m) ≡ true
eq_is n m e = grind (arith, nat_tests, e)

eq_not : (n m : ℕ) → (n ≡ m → ⊥) → (n == m) ≡ false
eq_not n m ne = grind (arith, nat_tests, ne)

pub bin-here : (set : TraceView) (b : ℕ) (h : History) (x : Event × ℕ) → is_binned set x ≡ true
    → bin_at set x.0.time ≡ b → in_trace_bin set b (h ++ x ∷ []) ≡ in_trace_bin set b h + 1
bin-here set b h x e at = bin-push set b h x true e ∙ ap (λ t. in_trace_bin set b h + cond t 1 0) (eq_is (bin_at set x.0.time) b at)

pub bin-other : (set : TraceView) (b : ℕ) (h : History) (x : Event × ℕ) → is_binned set x ≡ true
    → (bin_at set x.0.time ≡ b → ⊥) → in_trace_bin set b (h ++ x ∷ []) ≡ in_trace_bin set b h
bin-other set b h x e other = let more =
    bin-push set b h x true e ∙ ap (λ t. in_trace_bin set b h + cond t 1 0) (eq_not (bin_at set x.0.time) b other) in omega (arith, more)

pub span-push : (set : TraceView) (h : History) (x : Event × ℕ) (is : Bool) → is_binned set x ≡ is
    → span set (h ++ x ∷ []) ≡ cond is (max (span set h) (bin_at set x.0.time + 1)) (span set h)
span-push set h x is e = search (rules, arith, fold_push)

-- the bins before the newest are those before the last that isn't empty
last_less : (count bin : ℕ) → (count ≡ 0 → bin ≡ 0) → (if count == 0 then 0 else bin + 1) - 1 ≡ bin
last_less count bin none = grind (arith, nat_tests, none)

pub closed-is : (set : TraceView) (state : BinState) (h : History) → CountsBins set state h → closed_lines set h ≡ bin_lines set state.bin h
closed-is set state h is = ap (λ n. bin_lines set n h) (ap (λ n. n - 1) is.last ∙ last_less state.count state.bin is.none_yet)

-- lines and counts of bins in which no photon came
pub lines-still : (set : TraceView) (n : ℕ) (h h' : History)
    → ((b : ℕ) → b < n → in_trace_bin set b h' ≡ in_trace_bin set b h) → bin_lines set n h' ≡ bin_lines set n h
lines-still set n h h' same =
    lines-same (λ b. bin_line b (in_trace_bin set b h')) (λ b. bin_line b (in_trace_bin set b h)) n (λ b lt. ap (bin_line b) (same b lt))

counts-still : (set : TraceView) (n : ℕ) (h h' : History) → ((b : ℕ) → b < n → in_trace_bin set b h' ≡ in_trace_bin set b h) → counts set n h' ≡ counts set n h
counts-still set n h h' same = first-same (λ b. in_trace_bin set b h') (λ b. in_trace_bin set b h) n same

-- an event that is in no bin
pub none-follows : (set : TraceView) (state : BinState) (h : History) (x : Event × ℕ)
    → is_binned set x ≡ false → CountsBins set state h → CountsBins set state (h ++ x ∷ [])
none-follows set state h x e is =
    let same = counts-still set state.bin h (h ++ x ∷ []) (λ b lt. bin-none set b h x e) in
    record {
      counted = is.counted ∙ sym (bin-none set state.bin h x e);
      none_behind = λ b lt. bin-none set b h x e ∙ is.none_behind b lt;
      none_yet = is.none_yet;
      last = span-push set h x false e ∙ is.last;
      each = λ c lt. is.each c lt ∙ ap (λ l. frequency l c) (sym same);
      others = is.others ∙ ap above (sym same);
    }

later_last : (count bin : ℕ) → max (if count == 0 then 0 else bin + 1) (bin + 1) ≡ (if count + 1 == 0 then 0 else bin + 1)
later_last count bin = grind (arith, nat_tests)

-- a photon in the newest bin
pub same-follows : (set : TraceView) (state : BinState) (h : History) (x : Event × ℕ) → is_binned set x ≡ true → bin_at set x.0.time ≡ state.bin
    → CountsBins set state h → CountsBins set (record state { count = state.count + 1 }) (h ++ x ∷ [])
same-follows set state h x e at is =
    let still : (b : ℕ) → (b ≡ state.bin → ⊥) → in_trace_bin set b (h ++ x ∷ []) ≡ in_trace_bin set b h =
    λ b ne. bin-other set b h x e (λ (q : bin_at set x.0.time ≡ b). ne (sym q ∙ at)) in
    let same = counts-still set state.bin h (h ++ x ∷ []) (λ b lt. still b (λ (q : b ≡ state.bin). omega (arith, lt, q))) in
    let here = bin-here set state.bin h x e at in
    record {
      counted = omega (arith, is.counted, here);
      none_behind = λ b lt. still b (λ (q : b ≡ state.bin). omega (arith, lt, q)) ∙ is.none_behind b lt;
      none_yet = λ (none : state.count + 1 ≡ 0). absurd (omega (arith, none));
      last = span-push set h x true e ∙ rw (is.last, at) (later_last state.count state.bin);
      each = λ c lt. is.each c lt ∙ ap (λ l. frequency l c) (sym same);
      others = is.others ∙ ap above (sym same);
    }

new_last : (count bin next : ℕ) → bin < next → max (if count == 0 then 0 else bin + 1) (next + 1) ≡ (if 1 == 0 then 0 else next + 1)
new_last count bin next lt = grind (arith, nat_tests, lt)

module _ (set : TraceView) (state : BinState) (h : History) (x : Event × ℕ) (next : ℕ) (e : is_binned set x ≡ true)
    (at : bin_at set x.0.time ≡ next) (later : state.bin < next) (is : CountsBins set state h) where
  still-below : (b : ℕ) → b < next → in_trace_bin set b (h ++ x ∷ []) ≡ in_trace_bin set b h
  still-below b lt = bin-other set b h x e (λ (q : bin_at set x.0.time ≡ b). omega (arith, lt, q, at))

  skipped : next ≡ (next - state.bin - 1) + state.bin + 1
  skipped = omega (arith, later)

  -- how many of the bins before it pass a test
  pub counted-before : (p : ℕ → Bool)
      → count_by p (counts set next (h ++ x ∷ [])) ≡ count_by p (counts set state.bin h) + cond (p state.count) 1 0 + cond (p 0) (next - state.bin - 1) 0
  counted-before p =
      ap (count_by p) (counts-still set next h (h ++ x ∷ []) still-below)
      ∙ count-skip p (λ b. in_trace_bin set b h) state.bin (next - state.bin - 1) next is.none_behind skipped
      ∙ ap (λ n. count_by p (counts set state.bin h) + cond (p n) 1 0 + cond (p 0) (next - state.bin - 1) 0) (sym is.counted)

  -- a photon in a later bin
  pub next-follows : (frequencies : List ℕ) (many : ℕ) → ((c : ℕ) → c < frequency_limit
      → slice_index frequencies c ≡ slice_index state.frequencies c + (if state.count == c then 1 else 0) + (if 0 == c then next - state.bin - 1 else 0))
      → many ≡ state.many + (if nat_le frequency_limit state.count then 1 else 0)
      → CountsBins set (record { bin = next; count = 1; frequencies = frequencies; many = many }) (h ++ x ∷ [])
  next-follows frequencies many raised raised_many = record {
    counted = let here = bin-here set next h x e at in let none = is.none_behind next later in omega (arith, here, none);
    none_behind = λ b lt. bin-other set b h x e (λ (q : bin_at set x.0.time ≡ b). omega (arith, lt, q, at)) ∙ is.none_behind b (omega (arith, later, lt));
    none_yet = λ (none : 1 ≡ 0). absurd (omega (arith, none));
    last = span-push set h x true e ∙ rw (is.last, at) (new_last state.count state.bin next later);
    each = λ c lt. omega (arith, raised c lt, is.each c lt, counted-before (λ n. n == c));
    others = omega (arith, raised_many, is.others, counted-before (λ n. nat_le frequency_limit n));
  }

  no_line : (b : ℕ) → state.bin < b → bin_line b (in_trace_bin set b h) ≡ []
  no_line b lt = ap (bin_line b) (is.none_behind b lt)

  pub next-closes : (new : BinState) → new.bin ≡ next → CountsBins set new (h ++ x ∷ [])
      → closed_lines set (h ++ x ∷ []) ≡ closed_lines set h ++ bin_line state.bin state.count
  next-closes new is_next now =
      closed-is set new (h ++ x ∷ []) now ∙ ap (λ n. bin_lines set n (h ++ x ∷ [])) is_next ∙ lines-still set next h (h ++ x ∷ []) still-below
      ∙ lines-skip (λ b. bin_line b (in_trace_bin set b h)) state.bin (next - state.bin - 1) next no_line skipped
      ∙ ap (λ n. bin_lines set state.bin h ++ bin_line state.bin n) (sym is.counted)
      ∙ ap (λ l. l ++ bin_line state.bin state.count) (sym (closed-is set state h is))

-- A trace that is given events, and then more.

pub GivenMore-nil : (t : LongTrace) → GivenMore t t [] []
GivenMore-nil t = search (rules, arith, append-nil)

pub GivenMore-trans : (a b c : LongTrace) (m n : History) (lines lines' : List ℕ)
    → GivenMore a b m lines → GivenMore b c n lines' → GivenMore a c (m ++ n) (lines ++ lines')
GivenMore-trans a b c m n lines lines' p q = record {
  same_set = q.same_set ∙ p.same_set;
  same_going = q.same_going ∙ p.same_going;
  same_begun = q.same_begun ∙ p.same_begun;
  follows = λ h is. rw (← append_assoc h m n) (q.follows (h ++ m) (p.follows h is));
  closed = λ h is.
      ap (open_text (trace_view (set_of a))) (sym (append_assoc h m n)) ∙ rw p.same_set at (q.closed (h ++ m) (p.follows h is))
      ∙ ap (λ l. l ++ lines') (p.closed h is) ∙ append_assoc (open_text (trace_view (set_of a)) h) lines lines';
}

-- Its numbers were counted on, and those beside them.
pub GivenMore-counts : (old new : LongTrace) (more : History) (lines lines' : List ℕ) → set_of new ≡ set_of old → is_going new ≡ is_going old → was_begun new ≡ was_begun old → CountsOn (trace_view (set_of old)) (state_of old.counting old.closed) (state_of new.counting new.closed) more lines lines' → lines ≡ []
    → new.counting.before ≡ old.counting.before + count_before (trace_view (set_of old)) more → new.taken ≡ old.taken + length more → ((h : History) → old.floor ≡ greatest_time false h → new.floor ≡ greatest_time false (h ++ more)) → GivenMore old new more lines'
GivenMore-counts old new more lines lines' same going begun on none before taken floor =
    let set = trace_view (set_of old) in
    let text : lines' ≡ on.text = on.put ∙ ap (λ l. l ++ on.text) none in
    record {
      same_set = same;
      same_going = going;
      same_begun = begun;
      follows = λ h is. record {
        bins = rw same (on.counted h is.bins);
        before = rw same (omega (arith, before, is.before, count-append set (λ time. nat_lt time set.origin) h more));
        taken = omega (arith, taken, is.taken, length-append h more);
        floor = floor h is.floor;
      };
      closed = λ h is. search (rules, arith, append_assoc);
    }

later : (b : Bool) (floor time : ℕ) → (IsTrue b → floor ≤ time) → (if b then time else floor) ≡ (if b then max floor time else floor)
later b floor time order = search (rules, arith)

-- the greatest time of one event more
pub floor-one : (h : History) (e : Event) (groups floor now : ℕ) → (IsTrue (is_photon e) → floor ≤ e.time) → now ≡ (if is_photon e then e.time else floor)
    → floor ≡ greatest_time false h → now ≡ greatest_time false (h ++ (e, groups) ∷ [])
floor-one h e groups floor now order moved is = search (rules, arith, later, greatest-push)
