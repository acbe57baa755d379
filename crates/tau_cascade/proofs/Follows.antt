-- Bins that come to a level, and what they are merged into.
use Rattle.std.proofs.Common.{◌≡◌, ◌≢◌, ℕ, suc, ◌+◌, ◌-◌, ◌/◌, ◌^◌, ◌<◌, ◌≤◌, Bool, true, false, cond, eqb, List, [], ◌∷◌, ◌++◌, length, map, take, drop}
use Rattle.std.proofs.{Common.{get_or, refl, sym, ap, append_assoc, append-nil, arith, slice_set, rules, length-append, add-one}, Math.Nat.div-div-eq-div-mul}
use Rattle.std.proofs.{Math.Nat.div-one, lemmas.{Bool.Decides.nat_tests, Grind.common_steps, List.{take_more_set, drop_more, drop-set-add, drop-set-lt}}}
use Rattle.std.{proofs.lemmas.List.Sums.{sum_by-cons, sum_by-append}, specs.List.{sum_by, count_by, AllByRecursion}}
use Rattle.{tally_base.specs.{Settings.CorrelationView, Tally.History}, lag_ring.{specs.declared.ring.Entry.Entry, proofs.Lists.{all_back, all_join, of_some}}}
use Rattle.{lag_ring.proofs.Rising.all_weaker, tau_cascade.specs.{Correlation.{Given, bin}, Levels.{IsBin, Chain}, Bins.{raised, both_of, merged, merged_all}}}
use Rattle.tau_cascade.specs.{Bins.{stretch, Come, Follow, CanTake, Took, CanCome}, Opens.{coming_bins, closed_bins}, declared.level.Level.Level}
use Rattle.tau_cascade.{specs.declared.level.Coming.Coming, proofs.Passes.raised-again}
use mir.Val.{bool_byte}

-- a bin of the next level is two of this one
pub bin-suc : (level : ℕ) (x : Given) → bin (suc level) x ≡ bin level x / 2
bin-suc level x = grind (arith, common_steps, div-div-eq-div-mul x.0.time (2 ^ level) 2)

pub raised-none : (es : List Entry) → map (raised 0) es ≡ es
raised-none [] = refl
raised-none (e ∷ es) = rw (div-one e.index, raised-none es) refl

module _ (set : CorrelationView) (level : ℕ) where
  -- two runs of photons in one bin
  is_bin-append : (e f : Entry) (xs ys : History) → IsBin set level e xs → IsBin set level f ys → e.index ≡ f.index → IsBin set level (both_of e f) (xs ++ ys)
  is_bin-append e f xs ys left right same = record {
    some = omega (arith, length-append xs ys, left.some);
    here = all_join (λ x. bin level x ≡ e.index) xs ys left.here (rw same right.here);
    a = rw (left.a, right.a) (sym (sum_by-append _ xs ys));
    b = rw (left.b, right.b) (sym (sum_by-append _ xs ys));
  }

  -- where nothing that came is after an index that the last bin hasn't, all is before it
  is_after : (e : Entry) (n : ℕ) (closed open' : History) → IsBin set level e open' → AllByRecursion (λ x. bin level x < e.index) closed
      → AllByRecursion (λ x. bin level x ≤ n) (closed ++ open') → e.index ≢ n → AllByRecursion (λ x. bin level x < n) (closed ++ open')
  is_after e n closed open' is before after other =
      (let upto = of_some (bin level) e.index (λ m. m ≤ n) open' is.some is.here (all_back (λ x. bin level x ≤ n) closed open' after) in search (rules, arith, all_join, all_weaker))

  -- photons that come in some bins come in the merged ones too, and these follow what is before them
  merged_both : (e : Entry) (es : List Entry) (came run xs : History) → IsBin set level e run → Come set level (came ++ run) es xs
      → (AllByRecursion (λ x. bin level x ≤ e.index) came → Come set level came (merged e es) (run ++ xs)) × (AllByRecursion (λ x. bin level x < e.index) came → Follow set level came (merged e es) (run ++ xs))
  merged_both e [] came run xs is come = search (rules, arith)
  merged_both e (f ∷ fs) came run xs is come = (elim (eqb e.index f.index) as (λ b. eqb e.index f.index ≡ b → (AllByRecursion (λ x. bin level x ≤ e.index) came → Come set level came (cond b (merged (both_of e f) fs) (e ∷ merged f fs)) (run ++ xs))
      × (AllByRecursion (λ x. bin level x < e.index) came → Follow set level came (cond b (merged (both_of e f) fs) (e ∷ merged f fs)) (run ++ xs))) [
        | true ↦ λ one.
            let next : Come set level (came ++ (run ++ come.0)) fs come.1 = (rw (append_assoc came run come.0) at come.5) in
            rw (come.2, ← append_assoc run come.0 come.1) (merged_both (both_of e f) fs came (run ++ come.0) come.1 (is_bin-append e f run come.0 is come.3 (grind arith)) next)
        | false ↦ λ two.
            let rest = merged_both f fs (came ++ run) come.0 come.1 come.3 come.5 in
            (λ after. (run, xs, refl, is, after, rw come.2 (rest.0 come.4)), λ before. (run, xs, refl, is, before, rw come.2 (rest.1 (is_after e f.index came run is before come.4 (λ same. grind arith)))))
      ]) refl

  pub merged_follow : (e : Entry) (es : List Entry) (closed open' xs : History) → IsBin set level e open' → AllByRecursion (λ x. bin level x < e.index) closed
      → Come set level (closed ++ open') es xs → Follow set level closed (merged e es) (open' ++ xs)
  merged_follow e es closed open' xs is before come = (merged_both e es closed open' xs is come).1 before

  pub come_merged : (es : List Entry) (came xs : History) → Come set level came es xs → Come set level came (merged_all es) xs
  come_merged es came xs come = search (rules, arith, merged_both)

  -- bins that come have the weights of their photons
  pub come_weigh : (weight : Entry → ℕ) (mine : Given → Bool) → ((e : Entry) (run : History) → IsBin set level e run → weight e ≡ count_by mine run) → (es : List Entry) (came xs : History) → Come set level came es xs
      → sum_by weight es ≡ count_by mine xs
  come_weigh weight mine weighs [] came xs come = rw come refl
  come_weigh weight mine weighs (e ∷ es) came xs come =
      rw (sum_by-cons weight e es, come.2, sum_by-append (λ x. cond (mine x) 1 0) come.0 come.1, come_weigh weight mine weighs es (came ++ come.0) come.1 come.5, weighs e come.0 come.3) refl

  -- closed bins may come to the next level
  pub goes_up : (es : List Entry) (closed xs : History) → Come set level closed es xs → Come set (suc level) closed (map (raised 1) es) xs
  goes_up [] closed xs come = come
  goes_up (e ∷ es) closed xs come = search (rules, arith, all_weaker, bin-suc, goes_up es (closed ++ come.0) come.1 come.5)

  -- one bin more comes
  pub come_push : (es : List Entry) (e : Entry) (came xs run : History) → Come set level came es xs → IsBin set level e run
      → AllByRecursion (λ x. bin level x ≤ e.index) (came ++ xs) → Come set level came (es ++ e ∷ []) (xs ++ run)
  come_push [] e came xs run come is after = search (rules, arith, append-nil)
  come_push (f ∷ es) e came xs run come is after = search (rules, arith, append_assoc, come_push es e (came ++ come.0) come.1 run come.5 is)

-- bins that were closed come to the next level
pub up_one : (coming : Coming) (bins : List Entry) → 0 < coming.levels → map (raised 1) (closed_bins coming bins) ≡ coming_bins coming bins
up_one coming bins some = search (rules, arith, raised-again)

-- the first bin of a stretch, and those after it
pub stretch_more : (from count levels : ℕ) (list : List Entry) (none : Entry) → 0 < count → from < length list
    → stretch from count levels list ≡ raised levels (get_or list from none) ∷ stretch (from + 1) (count - 1) levels list
stretch_more from count levels list none some inside = search (rules, arith, drop_more)

-- the bins that are left, from one on
pub rest_at : (levels : ℕ) (came : List Entry) (i : ℕ) (none : Entry) → i < length came
    → map (raised levels) (drop i came) ≡ raised levels (get_or came i none) ∷ map (raised levels) (drop (i + 1) came)
rest_at levels came i none inside = ap (map (raised levels)) (drop_more came i none inside)

pub byte_small : (b : Bool) → bool_byte b ≤ 1
byte_small b = search (rules, arith)

-- merged bins weigh as much as they do one by one
pub weigh : (weight : Entry → ℕ) → ((e f : Entry) → e.index ≡ f.index → weight (both_of e f) ≡ weight e + weight f) → (e : Entry) (es : List Entry)
    → sum_by weight (merged e es) ≡ weight e + sum_by weight es
weigh weight adds e [] = search (rules, arith, sum_by-cons)
weigh weight adds e (f ∷ fs) = search (rules, arith, adds, sum_by-cons, nat_tests, weigh weight adds (both_of e f) fs, weigh weight adds f fs)

-- What is merged so far, and what is left, are together what all is merged into.
module _ (levels at' closed : ℕ) (list : List Entry) (own none : Entry) (whole : List Entry) (inside : at' < length list)
    (so_far : take closed list ++ merged own (map (raised levels) (drop at' list)) ≡ whole) where
  abbrev next : Entry
  next = raised levels (get_or list at' none)

  with_next : take closed list ++ merged own (next ∷ map (raised levels) (drop (at' + 1) list)) ≡ whole
  with_next = (rw (rest_at levels list at' none inside) at so_far)

  pub next_fits : (weight : Entry → ℕ) → ((e f : Entry) → weight (both_of e f) ≡ weight e + weight f) → weight own + weight next ≤ sum_by weight whole
  next_fits weight adds = rw (← with_next, sum_by-append weight _ _, weigh weight (λ e f same. adds e f), sum_by-cons weight) (omega arith)

  -- one bin more is merged
  pub merge_more : closed < at' → (same : Bool) → eqb own.index next.index ≡ same
      → take (closed + cond same 0 1) (slice_set list closed own)
      ++ merged (cond same (both_of own next) next) (map (raised levels) (drop (at' + 1) (slice_set list closed own))) ≡ whole
  merge_more few same one =
      rw (drop-set-lt (at' + 1) list closed own (omega arith)) (grind (arith, common_steps, with_next, take_more_set, append_assoc))

-- What bins that come do to a level and those above it.

module _ (set : CorrelationView) (level : ℕ) (l : Level) (ls : List Level) (es : List Entry)
    (came xs : History) (can : CanCome set level (l ∷ ls) es came xs) where
  pub can_take : CanTake set level l es can.chain.0 can.chain.1 xs
  can_take = search (rules, arith, length-append)

  module _ (l' : Level) (shut : List Entry) (done now : History) (took : Took set level l' shut can.chain.0 can.chain.1 xs done now) where
    all_that_came : came ++ xs ≡ (can.chain.0 ++ done) ++ now
    all_that_came = search (rules, arith, append_assoc)

    pub come_on : CanCome set (suc level) ls (map (raised 1) shut) can.chain.0 done
    come_on = (let all = ap length all_that_came in search (rules, arith, all, length-append, goes_up))

    pub chain_took : (ls' : List Level) → ((came' xs' : History) → CanCome set (level + 1) ls (map (raised 1) shut) came' xs'
        → Chain false set (level + 1) ls' (came' ++ xs')) → Chain false set level (l' ∷ ls') (came ++ xs)
    chain_took ls' above = grind (arith, common_steps, add-one, come_on, all_that_came)
