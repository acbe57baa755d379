-- The photons that a trace is given come in the order of their times.
use Rattle.std.proofs.Common.{◌≡◌, ◌∙◌, ◌≤◌, ℕ, Bool, true, false, cond, List, [], ◌∷◌, ◌++◌, max, map, refl, sym, ap, arith, IsTrue, ◌&&◌, ◌==◌, not, nat_lt, filter, if◌then◌else◌}
use Rattle.std.proofs.lemmas.Bool.Decides.{nat_tests}
use Rattle.tally_base.specs.{declared.{event.{Event.Event, EventKind.{EventKind, TheVariants.{Photon, Marker}}}, header.Mode.{Mode, TheVariants.{T2, T3}}}, Events.{is_photon, is_photon_kind}}
use Rattle.{tally_base.specs.Events.is_ordered, ptu_definitions.specs.{Prefixes.each_after, Kept.{mark, marked, kept, is_late, greatest, ordered_time}, Settled.{in_time, not_overtaken, kept_by}}}
use Rattle.{ptu_definitions.{specs.Settled.{not_marked, ordered, Rises}, proofs.{SettledLaws.Rises-put_all, StreamLemmas.{later, greatest-push}}}, gate_plan.specs.Shifting.{Sorting, shifted_kind}}
use Rattle.{gate_plan.specs.Histories.with_groups, long_trace.proofs.Rising.RisesFrom}

-- the same of events without their groups
abbrev Up : ℕ → List Event → Type 0
Up floor [] = Unit {0}
Up floor (e ∷ es) = (IsTrue (is_photon e) → floor ≤ e.time) × Up (if is_photon e then e.time else floor) es

photon_kind : (by : Sorting) (kind : EventKind) → is_photon_kind (shifted_kind by kind) ≡ is_photon_kind kind
photon_kind by (Photon input dtime) = refl
photon_kind by (Marker bits) = refl

with-groups : (by : Sorting) (floor : ℕ) (es : List Event) → Up floor es → RisesFrom floor (with_groups by es)
with-groups by floor [] up = tt
with-groups by floor (e ∷ es) up = rw (photon_kind by e.kind) (up.0, with-groups by (if is_photon e then e.time else floor) es up.1)

-- photons are in order in each mode
photon-ordered : (mode : Mode) (e : Event) → is_photon e ≡ true → is_ordered mode e ≡ true
photon-ordered T2 e is = is
photon-ordered T3 e is = refl

-- one that isn't late comes at no smaller time
on-time : (b lt : Bool) → b ≡ true → (b && lt) ≡ false → lt ≡ false
on-time true lt is late = late
on-time false lt is late = cc

not-lt : (a b : ℕ) → nat_lt a b ≡ false → b ≤ a
not-lt a b e = grind (arith, nat_tests, e)

up-kept : (mode : Mode) (before es : List Event) (floor : ℕ) → floor ≤ greatest mode before → Up floor (not_marked (each_after (mark mode) before es))
up-kept mode before [] floor low = tt
up-kept mode before (e ∷ es) floor low = by (λ k le. up-kept mode (before ++ e ∷ []) es k le) (is_late mode before e) (is_photon e) refl refl
  where
    more : greatest mode (before ++ e ∷ []) ≡ max (greatest mode before) (ordered_time mode e)
    more = greatest-push mode before e

    by : ((k : ℕ) → k ≤ greatest mode (before ++ e ∷ []) → Up k (not_marked (each_after (mark mode) (before ++ e ∷ []) es))) → (late photon : Bool) → is_late mode before e ≡ late → is_photon e ≡ photon → Up floor (map (λ (x : Event × Bool). x.0) (cond (not late) ((e, late) ∷ filter (λ (x : Event × Bool). not x.1) (each_after (mark mode) (before ++ e ∷ []) es)) (filter (λ (x : Event × Bool). not x.1) (each_after (mark mode) (before ++ e ∷ []) es))))
    by again true photon is p = again floor (omega (arith, low, more))
    by again false true is p =
        let in_order = photon-ordered mode e p in
        let time : greatest mode before ≤ e.time = not-lt e.time (greatest mode before) (sym (later mode before e.time) ∙ on-time (is_ordered mode e) _ in_order is) in
        let own : ordered_time mode e ≡ e.time = ap (λ (b : Bool). if b then e.time else 0) in_order in
        rw p ((λ _. omega (arith, low, time)), again e.time (omega (arith, more, own)))
    by again false false is p = rw p ((λ (q : false ≡ true). cc), again floor (omega (arith, low, more)))

up-rises : (low floor : ℕ) (es : List Event) → low ≤ floor → Rises floor es → Up low es
up-rises low floor [] le up = tt
up-rises low floor (e ∷ es) le up = ((λ _. omega (arith, le, up.0)), by (λ k below. up-rises k e.time es below up.1) (is_photon e))
  where
    by : ((k : ℕ) → k ≤ e.time → Up k es) → (b : Bool) → Up (if b then e.time else low) es
    by again true = again e.time (omega arith)
    by again false = again low (omega (arith, le, up.0))

up-in_time : (k : ℕ) (es : List Event) → Up 0 (in_time k es)
unfolding in_time
up-in_time k es = up-rises 0 0 _ (omega arith) (Rises-put_all [] (not_overtaken k es) tt)

pick : (k : ℕ) (mode : Mode) (es : List Event) (b : Bool) → Up 0 (if b then kept mode es else in_time k (ordered mode es))
unfolding kept marked
pick k mode es true = up-kept mode [] es 0 (omega arith)
pick k mode es false = up-in_time k (ordered mode es)

pub kept-rises : (by : Sorting) (k : ℕ) (mode : Mode) (es : List Event) → RisesFrom 0 (with_groups by (kept_by k mode es))
kept-rises by k mode es = with-groups by 0 (kept_by k mode es) (pick k mode es (k == 0))
