-- The lines of bins that are closed stay, where the times of photons don't fall.
use Rattle.std.proofs.Common.{◌≡◌, ◌∙◌, ℕ, ◌+◌, ◌-◌, ◌<◌, ◌≤◌, Bool, true, false, ◌&&◌, List, [], ◌∷◌, ◌++◌, max, refl, sym, ap, arith, append-nil}
use Rattle.std.proofs.{Common.{append_assoc, IsTrue, nat_le, if◌then◌else◌, rules}, lemmas.{Nat.le-div, Grind.common_steps}, Math.Nat.div-mul-le_self}
use Rattle.tally_base.specs.{declared.event.Event.Event, Events.{is_photon, is_in}, Settings.TraceView, Tally.History}
use Rattle.{count_trace.specs.TraceCounts.{in_trace_bin, count_before}, long_trace.specs.Texts.{is_binned, bin_at, span, bin_line, bin_lines, closed_lines}}
use Rattle.long_trace.{specs.Texts.{counts, summary_text, first_line, open_text, whole_text}, proofs.{Firsts.lines-front, Steps.{bin-none, bin-other}}}
use Rattle.long_trace.proofs.Steps.{lines-still, span-push}

-- the time of the last photon, or this one
abbrev pub last_time : ℕ → History → ℕ
last_time floor [] = floor
last_time floor (x ∷ xs) = last_time (if is_photon x.0 then x.0.time else floor) xs

-- No photon comes at a smaller time than one before it, and none before this time.
abbrev pub RisesFrom : ℕ → History → Type 0
RisesFrom floor [] = Unit {0}
RisesFrom floor (x ∷ xs) = (IsTrue (is_photon x.0) → floor ≤ x.0.time) × RisesFrom (if is_photon x.0 then x.0.time else floor) xs

pub rises-parts : (floor : ℕ) (a b : History) → RisesFrom floor (a ++ b) → RisesFrom floor a × RisesFrom (last_time floor a) b
rises-parts floor [] b up = (tt, up)
rises-parts floor (x ∷ a) b up = let rest = rises-parts (if is_photon x.0 then x.0.time else floor) a b up.1 in ((up.0, rest.0), rest.1)

-- A later time is in no earlier bin.
pub bin-later : (set : TraceView) (a b : ℕ) → 0 < set.width → a ≤ b → bin_at set a ≤ bin_at set b
bin-later set a b some le = search (rules, arith, div-mul-le_self, le-div)

-- The last bin is no later than that of a time, and the lines that were closed stay in front.
pub record Goes (set : TraceView) (h h' : History) (time : ℕ) : Type 0 where
  pub within : span set h' ≤ bin_at set time + 1
  pub tail : List ℕ
  pub keeps : closed_lines set h' ≡ closed_lines set h ++ tail

photon-of : (p g l : Bool) → (p && (g && l)) ≡ true → p ≡ true
photon-of p g l e = search (rules, arith)

top : (a b : ℕ) → a ≤ b → max a b ≡ b
top a b le = omega (arith, le)

one-binned : (set : TraceView) (h : History) (x : Event × ℕ) → is_binned set x ≡ true → span set h ≤ bin_at set x.0.time + 1 → Goes set h (h ++ x ∷ []) x.0.time
one-binned set h x e below =
    let bin = bin_at set x.0.time in
    let now : span set (h ++ x ∷ []) ≡ bin + 1 = span-push set h x true e ∙ top (span set h) (bin + 1) below in
    let less : span set (h ++ x ∷ []) - 1 ≡ bin = omega (arith, now) in
    let k = bin - (span set h - 1) in
    let front = lines-front (λ b. bin_line b (in_trace_bin set b (h ++ x ∷ []))) (span set h - 1) k bin (omega (arith, below)) in
    record {
      within = omega (arith, now);
      tail = front.0;
      keeps =
          ap (λ n. bin_lines set n (h ++ x ∷ [])) less ∙ front.1 ∙ ap (λ l. l ++ front.0)
          (lines-still set (span set h - 1) h (h ++ x ∷ []) (λ b lt. bin-other set b h x e (λ (q : bin_at set x.0.time ≡ b). omega (arith, lt, below, q))));
    }

one-unbinned : (set : TraceView) (h : History) (x : Event × ℕ) (time : ℕ)
    → is_binned set x ≡ false → span set h ≤ bin_at set time + 1 → Goes set h (h ++ x ∷ []) time
one-unbinned set h x time e below =
    let now : span set (h ++ x ∷ []) ≡ span set h = span-push set h x false e in
    record {
      within = omega (arith, now, below);
      tail = [];
      keeps = grind (arith, common_steps, lines-still, bin-none, append-nil);
    }

floor-up : (set : TraceView) (p : Bool) (floor time : ℕ) → 0 < set.width → (IsTrue p → floor ≤ time) → bin_at set floor ≤ bin_at set (if p then time else floor)
floor-up set p floor time some up = search (rules, arith, bin-later)

one-goes : (set : TraceView) (h : History) (x : Event × ℕ) (floor : ℕ) → 0 < set.width → (IsTrue (is_photon x.0) → floor ≤ x.0.time)
    → span set h ≤ bin_at set floor + 1 → Goes set h (h ++ x ∷ []) (if is_photon x.0 then x.0.time else floor)
one-goes set h x floor some up below = by (is_binned set x) refl
  where
    by : (b : Bool) → is_binned set x ≡ b → Goes set h (h ++ x ∷ []) (if is_photon x.0 then x.0.time else floor)
    by true e =
        let photon : is_photon x.0 ≡ true = photon-of (is_photon x.0) (is_in x.1 set.group) (nat_le set.origin x.0.time) e in
        let later = bin-later set floor x.0.time some (up photon) in
        rw photon (one-binned set h x e (omega (arith, below, later)))
    by false e =
        let later = floor-up set (is_photon x.0) floor x.0.time some up in
        one-unbinned set h x (if is_photon x.0 then x.0.time else floor) e (omega (arith, below, later))

pub goes-on : (set : TraceView) (h more : History) (floor : ℕ) → 0 < set.width → RisesFrom floor more
    → span set h ≤ bin_at set floor + 1 → Goes set h (h ++ more) (last_time floor more)
goes-on set h [] floor some up below = rw (append-nil h) (record { within = below; tail = []; keeps = sym (append-nil (closed_lines set h)) })
goes-on set h (x ∷ more) floor some up below =
    let one = one-goes set h x floor some up.0 below in
    let rest = goes-on set (h ++ x ∷ []) more (if is_photon x.0 then x.0.time else floor) some up.1 one.within in
    rw (← append_assoc h (x ∷ []) more)
    (record {
      within = rest.within;
      tail = one.tail ++ rest.tail;
      keeps = rest.keeps ∙ ap (λ l. l ++ rest.tail) one.keeps ∙ append_assoc (closed_lines set h) one.tail rest.tail;
    })

-- The text before the end is in front of that of more events.
pub open-front : (set : TraceView) (h more : History) → 0 < set.width → RisesFrom 0 (h ++ more)
    → (tail : List ℕ) × (open_text set (h ++ more) ≡ open_text set h ++ tail)
open-front set h more some up =
    let parts = rises-parts 0 h more up in
    let first = goes-on set [] h 0 some parts.0 (omega arith) in
    let all = goes-on set h more (last_time 0 h) some parts.1 first.within in
    (all.tail, ap (λ l. first_line set ++ l) all.keeps ∙ sym (append_assoc (first_line set) (closed_lines set h) all.tail))

-- It is in front of the whole text.
pub whole-front : (set : TraceView) (h : History) → (tail : List ℕ) × (whole_text set h ≡ open_text set h ++ tail)
whole-front set h =
    let end = summary_text (counts set (span set h) h) (count_before set h) in
    let front = lines-front (λ b. bin_line b (in_trace_bin set b h)) (span set h - 1) (span set h - (span set h - 1)) (span set h) (omega arith) in (
      front.0 ++ end,
      ap (λ l. first_line set ++ l ++ end) front.1 ∙ ap (λ l. l ++ end) (sym (append_assoc (first_line set) (closed_lines set h) front.0))
          ∙ append_assoc (first_line set ++ closed_lines set h) front.0 end,
    )
