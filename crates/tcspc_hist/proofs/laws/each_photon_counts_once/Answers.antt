use Rattle.std.{proofs.Common.{◌≡◌, ℕ, ◌+◌, ◌/◌, Bool, ◌&&◌, ◌==◌, nat_le, arith, rules}, specs.List.{count_by, range_with_len}}
use Rattle.tally_base.{proofs.Sums.{sum_same, count_same, parts}, specs.declared.event.{Event.Event, EventKind.{EventKind, TheVariants.{Photon, Marker}}}}
use Rattle.tally_base.specs.{Events.{is_photon, is_photon_kind, is_in}, Settings.HistView, Tally.{History, in_all_bins, photons_of_group}}
use Rattle.tcspc_hist.specs.HistogramCounts.{dtime_passes, count_dtimes, in_bin, count_over}
use Rattle.tcspc_hist.proofs.laws.each_photon_counts_once.Goals as goal

-- each photon of the group counts once
abbrev dtime_of : EventKind → ℕ
dtime_of (Photon input dtime) = dtime
dtime_of (Marker bits) = 0

passes_as : (of_group : Bool) (test : ℕ → Bool) (kind : EventKind)
    → (of_group && dtime_passes test kind) ≡ ((is_photon_kind kind && of_group) && test (dtime_of kind))
passes_as of_group test kind = search (rules, arith)

total : (set : HistView) (h : History) → in_all_bins set.bins (λ b. in_bin set b h) + count_over set h ≡ photons_of_group set.group h
total set h =
    let chosen : Event × ℕ → Bool = λ x. is_photon x.0 && is_in x.1 set.group in
    let bin : Event × ℕ → ℕ = λ x. dtime_of x.0.kind / set.width in
    let same : (test : ℕ → Bool) → count_dtimes set (λ dtime. test (dtime / set.width)) h ≡ count_by (λ x. chosen x && test (bin x)) h =
    λ test. count_same (λ x. is_in x.1 set.group && dtime_passes (λ dtime. test (dtime / set.width)) x.0.kind)
    (λ x. chosen x && test (bin x)) (λ x. passes_as (is_in x.1 set.group) (λ dtime. test (dtime / set.width)) x.0.kind) h in
    let bins = sum_same (λ b. in_bin set b h) (λ b. count_by (λ x. chosen x && (bin x == b)) h) (λ b. same (λ n. n == b)) (range_with_len 0 set.bins) in
    omega (arith, bins, same (λ n. nat_le set.bins n), parts chosen bin set.bins h)

pub returns : goal.returns
returns c = total
