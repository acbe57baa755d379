use Rattle.std.proofs.{Common.{◌≡◌, ◌∙◌, ℕ, ◌+◌, true, nat_le, List, [], ◌∷◌, length, refl, arith}, lemmas.List.Sums.sum_by-cons}
use Rattle.{std.{proofs.lemmas.List.FromFn.length-map-range_with_len, specs.List.{count_by, sum_by, range_with_len}}, tally_base.proofs.Sums.parts}
use Rattle.{tally_base.specs.{Settings.TraceView, Tally.History}, count_trace.specs.TraceCounts.in_trace_bin, long_trace.specs.Texts.frequency}
use Rattle.long_trace.specs.Texts.{frequency_limit, above, counts, span, in_all_frequencies}
use Rattle.long_trace.proofs.laws.each_bin_has_one_count.Goals as goal

-- each bin has one count
count_all : (xs : List ℕ) → count_by (λ n. true) xs ≡ length xs
count_all [] = refl
count_all (x ∷ xs) = omega (arith, count_all xs, sum_by-cons (λ (n : ℕ). 1) x xs)

by_limit : (limit : ℕ) (all : List ℕ) → sum_by (λ c. frequency all c) (range_with_len 0 limit) + count_by (λ n. nat_le limit n) all ≡ length all
by_limit limit all = parts (λ (n : ℕ). true) (λ n. n) limit all ∙ count_all all

total : (set : TraceView) (h : History) → in_all_frequencies (counts set (span set h) h) + above (counts set (span set h) h) ≡ span set h
total set h = by_limit frequency_limit (counts set (span set h) h) ∙ length-map-range_with_len (λ b. in_trace_bin set b h) 0 (span set h)

pub returns : goal.returns
returns c = total
