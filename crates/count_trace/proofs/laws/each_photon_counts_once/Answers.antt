use Rattle.std.{proofs.Common.{◌≡◌, ℕ, ◌+◌, ◌-◌, ◌/◌, Bool, ◌&&◌, ◌==◌, cond, nat_le, nat_lt, arith, rules}, specs.List.{count_by, range_with_len}}
use Rattle.tally_base.{proofs.Sums.{sum_same, count_same, count_parts, parts}, specs.{declared.event.Event.Event, Events.{is_photon, is_in}}}
use Rattle.{tally_base.specs.{Settings.TraceView, Tally.{History, in_all_bins, photons_of_group}}, count_trace.specs.TraceCounts.{count_times, in_trace_bin}}
use Rattle.count_trace.specs.TraceCounts.{count_before, count_beyond}
use Rattle.count_trace.proofs.laws.each_photon_counts_once.Goals as goal

-- each photon of the group counts once
regroup : (a b c d : Bool) → (a && (b && (c && d))) ≡ ((a && (b && c)) && d)
regroup a b c d = search (rules, arith)

before_or_not : (origin time : ℕ) (b : Bool) → nat_lt time origin ≡ b → cond (nat_lt time origin) 1 0 + cond (nat_le origin time) 1 0 ≡ 1
before_or_not origin time b is = search (rules, arith)

one_side : (a b : Bool) (origin time : ℕ) → cond (a && (b && nat_lt time origin)) 1 0 + cond (a && (b && nat_le origin time)) 1 0 ≡ cond (a && b) 1 0
one_side a b origin time = search (rules, arith, before_or_not)

total : (set : TraceView) (h : History)
    → in_all_bins set.bins (λ b. in_trace_bin set b h) + count_before set h + count_beyond set h ≡ photons_of_group set.group h
total set h =
    let chosen : Event × ℕ → Bool = λ x. is_photon x.0 && (is_in x.1 set.group && nat_le set.origin x.0.time) in
    let bin : Event × ℕ → ℕ = λ x. (x.0.time - set.origin) / set.width in
    let same : (test : ℕ → Bool)
    → count_times set (λ time. nat_le set.origin time && test ((time - set.origin) / set.width)) h ≡ count_by (λ x. chosen x && test (bin x)) h =
    λ test. count_same (λ x. is_photon x.0 && (is_in x.1 set.group && (nat_le set.origin x.0.time && test (bin x)))) (λ x. chosen x && test (bin x))
    (λ x. regroup (is_photon x.0) (is_in x.1 set.group) (nat_le set.origin x.0.time) (test (bin x))) h in
    let bins = sum_same (λ b. in_trace_bin set b h) (λ b. count_by (λ x. chosen x && (bin x == b)) h) (λ b. same (λ n. n == b)) (range_with_len 0 set.bins) in
    let sides = count_parts (λ x. is_photon x.0 && (is_in x.1 set.group && nat_lt x.0.time set.origin)) chosen (λ x. is_photon x.0 && is_in x.1 set.group)
    (λ x. one_side (is_photon x.0) (is_in x.1 set.group) set.origin x.0.time) h in
    omega (arith, bins, same (λ n. nat_le set.bins n), parts chosen bin set.bins h, sides)

pub returns : goal.returns
returns c = total
