-- What one event more does to the numbers that are kept, and to the lines.
use Rattle.std.proofs.Common.{◌≡◌, ◌∙◌, ℕ, ◌+◌, ◌-◌, ◌/◌, ◌*◌, ◌<◌, ◌≤◌, Bool, true, false, ◌&&◌, List, [], ◌∷◌, ◌++◌, max, refl, sym, ap, arith, append-nil}
use Rattle.std.proofs.{Common.{append_assoc, IsTrue, nat_lt, nat_le, ◌==◌, slice_index, if◌then◌else◌, rules}, lemmas.Nat.{div-mul-add, le-div}}
use Rattle.tally_base.specs.{declared.event.Event.Event, Events.{is_photon, is_in}, Settings.TraceView, Tally.History}
use Rattle.{count_trace.specs.TraceCounts.{in_trace_bin, count_before}, long_trace.specs.Texts.{frequency_limit, is_binned, bin_at, bin_line, bin_lines}}
use Rattle.long_trace.{specs.{Texts.closed_lines, Bins.{BinState, CountsBins, CountsOn}}, proofs.Steps.{of_group, times-group, none-follows, same-follows}}
use Rattle.long_trace.proofs.Steps.{bin-none, bin-other, closed-is, lines-still, next-follows, next-closes}

binned : (p g l : Bool) → (p && (g && l)) ≡ ((p && g) && l)
binned p g l = search (rules, arith)

pub binned-not : (set : TraceView) (x : Event × ℕ) → of_group set x ≡ false → is_binned set x ≡ false
binned-not set x none = binned (is_photon x.0) (is_in x.1 set.group) (nat_le set.origin x.0.time) ∙ ap (λ b. b && nat_le set.origin x.0.time) none

pub binned-early : (set : TraceView) (x : Event × ℕ) → x.0.time < set.origin → is_binned set x ≡ false
binned-early set x early = search (rules, arith, binned, of_group)

pub binned-is : (set : TraceView) (x : Event × ℕ) → of_group set x ≡ true → set.origin ≤ x.0.time → is_binned set x ≡ true
binned-is set x is le = search (rules, arith, binned)

-- an event that closes no bin
CountsOn-still : (set : TraceView) (state new : BinState) (x : Event × ℕ) (lines : List ℕ) → new.bin ≡ state.bin
    → ((h : History) → CountsBins set state h → CountsBins set new (h ++ x ∷ []))
    → ((h : History) (b : ℕ) → b < state.bin → in_trace_bin set b (h ++ x ∷ []) ≡ in_trace_bin set b h) → CountsOn set state new (x ∷ []) lines lines
CountsOn-still set state new x lines same follows still = record {
  text = [];
  put = sym (append-nil lines);
  counted = follows;
  closed = λ h is. closed-is set new (h ++ x ∷ []) (follows h is) ∙ ap (λ n. bin_lines set n (h ++ x ∷ [])) same
      ∙ lines-still set state.bin h (h ++ x ∷ []) (still h) ∙ sym (closed-is set state h is) ∙ sym (append-nil (closed_lines set h));
}

pub CountsOn-none : (set : TraceView) (state : BinState) (x : Event × ℕ) (lines : List ℕ)
    → is_binned set x ≡ false → CountsOn set state state (x ∷ []) lines lines
CountsOn-none set state x lines e = CountsOn-still set state state x lines refl (λ h is. none-follows set state h x e is) (λ h b lt. bin-none set b h x e)

CountsOn-same : (set : TraceView) (state : BinState) (x : Event × ℕ) (lines : List ℕ) → is_binned set x ≡ true
    → bin_at set x.0.time ≡ state.bin → CountsOn set state (record state { count = state.count + 1 }) (x ∷ []) lines lines
CountsOn-same set state x lines e at = CountsOn-still set state _ x lines refl (λ h is. same-follows set state h x e at is)
    (λ h b lt. bin-other set b h x e (λ (q : bin_at set x.0.time ≡ b). omega (arith, lt, q, at)))

-- a photon of the newest bin, or none of the group
pub CountsOn-in : (set : TraceView) (state : BinState) (x : Event × ℕ) (lines : List ℕ) (more : ℕ) → more ≡ (if of_group set x then 1 else 0)
    → set.origin ≤ x.0.time → bin_at set x.0.time ≡ state.bin → CountsOn set state (record state { count = state.count + more }) (x ∷ []) lines lines
CountsOn-in set state x lines more is le at = by_group (of_group set x) refl
  where
    by_group : (b : Bool) → of_group set x ≡ b → CountsOn set state (record state { count = state.count + more }) (x ∷ []) lines lines
    by_group true group =
        let one : more ≡ 1 = is ∙ ap (λ (b : Bool). if b then 1 else 0) group in
        rw one (CountsOn-same set state x lines (binned-is set x group le) at)
    by_group false group =
        let none : more ≡ 0 = is ∙ ap (λ (b : Bool). if b then 1 else 0) group in
        let e : state.count + 0 ≡ state.count = omega arith in
        rw (none, e) (CountsOn-none set state x lines (binned-not set x group))

pub CountsOn-next : (set : TraceView) (state : BinState) (x : Event × ℕ) (lines lines' : List ℕ) (next : ℕ) (frequencies : List ℕ) (many : ℕ)
    → is_binned set x ≡ true → bin_at set x.0.time ≡ next → state.bin < next → ((c : ℕ) → c < frequency_limit
    → slice_index frequencies c ≡ slice_index state.frequencies c + (if state.count == c then 1 else 0) + (if 0 == c then next - state.bin - 1 else 0))
    → many ≡ state.many + (if nat_le frequency_limit state.count then 1 else 0) → lines' ≡ lines ++ bin_line state.bin state.count
    → CountsOn set state (record { bin = next; count = 1; frequencies = frequencies; many = many }) (x ∷ []) lines lines'
CountsOn-next set state x lines lines' next frequencies many e at later raised raised_many put = record {
  text = bin_line state.bin state.count;
  put = put;
  counted = λ h is. next-follows set state h x next e at later is frequencies many raised raised_many;
  closed = λ h is. next-closes set state h x next e at later is (record { bin = next; count = 1; frequencies = frequencies; many = many }) refl
      (next-follows set state h x next e at later is frequencies many raised raised_many);
}

pub CountsOn-trans : (set : TraceView) (a b c : BinState) (m n : History) (lines lines' lines'' : List ℕ)
    → CountsOn set a b m lines lines' → CountsOn set b c n lines' lines'' → CountsOn set a c (m ++ n) lines lines''
CountsOn-trans set a b c m n lines lines' lines'' p q = record {
  text = p.text ++ q.text;
  put = q.put ∙ ap (λ l. l ++ q.text) p.put ∙ append_assoc lines p.text q.text;
  counted = λ h is. rw (← append_assoc h m n) (q.counted (h ++ m) (p.counted h is));
  closed = λ h is.
      ap (closed_lines set) (sym (append_assoc h m n)) ∙ q.closed (h ++ m) (p.counted h is) ∙ ap (λ l. l ++ q.text) (p.closed h is)
      ∙ append_assoc (closed_lines set h) p.text q.text;
}

-- a photon of the group before the origin is counted there
pub before-push : (set : TraceView) (h : History) (x : Event × ℕ) (more : ℕ) → more ≡ (if of_group set x then 1 else 0)
    → count_before set (h ++ x ∷ []) ≡ count_before set h + (if nat_lt x.0.time set.origin then more else 0)
before-push set h x more is = times-group set (λ time. nat_lt time set.origin) h x (of_group set x) refl ∙ ap (λ n. count_before set h + n) (by_cases (of_group set x) (nat_lt x.0.time set.origin) ∙ ap (λ n. if nat_lt x.0.time set.origin then n else 0) (sym is))
  where
    by_cases : (b t : Bool) → ◌≡◌ {A = ℕ} (if b && t then 1 else 0) (if t then (if b then 1 else 0) else 0)
    by_cases true true = refl
    by_cases true false = refl
    by_cases false true = refl
    by_cases false false = refl

-- ## Numbers of bins

-- a time past the end of a bin is in a later one
pub later_bin : (origin index width low time : ℕ) → 0 < width → low ≡ origin + index * width → low + width ≤ time → index < (time - origin) / width
later_bin origin index width low time some edge later = search (rules, arith, le-div)

-- a time in a bin has its number
pub same_bin : (origin index width low time : ℕ) → low ≡ origin + index * width → low ≤ time → time - low < width → (time - origin) / width ≡ index
same_bin origin index width low time edge begun inside = search (rules, arith, div-mul-add)

-- none of the group
pub none-group : (b : Bool) (more : ℕ) → more ≡ (if b then 1 else 0) → more ≡ 0 → b ≡ false
none-group b more is none = search (rules, arith)

pub some-photon : (g p : Bool) (more : ℕ) → more ≡ (if g && p then 1 else 0) → 0 < more → p ≡ true
some-photon g p more is some = search (rules, arith)

pub other-way : (g p p' : Bool) → p' ≡ p → ◌≡◌ {A = ℕ} (if g && p then 1 else 0) (if p' && g then 1 else 0)
other-way true true p' same = rw same refl
other-way true false p' same = rw same refl
other-way false true p' same = rw same refl
other-way false false p' same = rw same refl

-- where the newest bin begins, after one event more
pub low-next : (g p : Bool) (more low low' floor time origin : ℕ) → more ≡ (if g && p then 1 else 0)
    → (IsTrue p → floor ≤ time) → low ≤ max floor origin → (0 < more → low' ≤ max time origin) → (more ≡ 0 → low' ≡ low)
    → low' ≤ max (if p then time else floor) origin
low-next g p more low low' floor time origin is order below new same = search (rules, arith)
