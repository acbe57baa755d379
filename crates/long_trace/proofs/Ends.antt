-- What is after the lines of the bins that are closed.
use Rattle.std.proofs.Common.{◌≡◌, ◌∙◌, ℕ, ◌+◌, ◌<◌, Bool, true, false, ◌&&◌, cond, List, ◌++◌, refl, sym, ap, arith, append-nil, append_assoc, slice_index}
use Rattle.std.proofs.{Common.{nat_lt, nat_le, ◌==◌, count_by, if◌then◌else◌, rules}, lemmas.Bool.{cases_eq, Decides.nat_tests}}
use Rattle.{tally_base.specs.{Settings.TraceView, Tally.History}, count_trace.specs.TraceCounts.{in_trace_bin, count_before}}
use Rattle.long_trace.specs.Texts.{frequency_limit, span, bin_line, bin_lines, closed_lines, counts, frequency, frequency_line, frequency_lines, above}
use Rattle.long_trace.specs.{Texts.{summary_text, open_text, whole_text}, declared.{counting.Counting.Counting, closed.Closed.Closed}, States.state_of}
use Rattle.long_trace.{specs.{States.{end_text, AreFrequencies}, Bins.{BinState, CountsBins}}, proofs.{Firsts.{lines-more, count-more}, Steps.closed-is}}

none_more : (n : ℕ) → n + 0 ≡ n
none_more n = omega arith

eq_nought : (n : ℕ) → n ≡ 0 → (n == 0) ≡ true
eq_nought n e = grind (arith, nat_tests, e)

not_nought : (n : ℕ) → 0 < n → (n == 0) ≡ false
not_nought n lt = grind (arith, nat_tests, lt)

module _ (set : TraceView) (state : BinState) (h : History) (is : CountsBins set state h) where
  -- where there is no photon
  span-none : state.count ≡ 0 → span set h ≡ 0
  span-none none = is.last ∙ ap (λ (b : Bool). if b then 0 else state.bin + 1) (eq_nought state.count none)

  span-some : 0 < state.count → span set h ≡ state.bin + 1
  span-some some = is.last ∙ ap (λ (b : Bool). if b then 0 else state.bin + 1) (not_nought state.count some)

  -- all lines are those that are closed, and that of the last bin
  lines-none : state.count ≡ 0 → bin_lines set (span set h) h ≡ closed_lines set h ++ bin_line state.bin state.count
  lines-none none = search (rules, arith, span-none, closed-is, append-nil)

  lines-some : 0 < state.count → bin_lines set (span set h) h ≡ closed_lines set h ++ bin_line state.bin state.count
  lines-some some =
      ap (λ n. bin_lines set n h) (span-some some) ∙ lines-more (λ b. bin_line b (in_trace_bin set b h)) state.bin (state.bin + 1) refl
      ∙ ap (λ n. bin_lines set state.bin h ++ bin_line state.bin n) (sym is.counted)
      ∙ ap (λ l. l ++ bin_line state.bin state.count) (sym (closed-is set state h is))

  -- how many of all counts pass a test
  pub counted-none : (p : ℕ → Bool) → state.count ≡ 0 → count_by p (counts set (span set h) h) ≡ count_by p (counts set state.bin h)
  counted-none p none = ap (λ n. count_by p (counts set n h)) (span-none none ∙ sym (is.none_yet none))

  pub counted-some : (p : ℕ → Bool) → 0 < state.count → count_by p (counts set (span set h) h) ≡ count_by p (counts set state.bin h) + cond (p state.count) 1 0
  counted-some p some = search (rules, arith, span-some, count-more)

  -- the whole text is what was printed, the line of the last bin and the summary
  whole-is : bin_lines set (span set h) h ≡ closed_lines set h ++ bin_line state.bin state.count
      → whole_text set h ≡ open_text set h ++ (bin_line state.bin state.count ++ summary_text (counts set (span set h) h) (count_before set h))
  whole-is lines = search (rules, arith, append_assoc)

  pub whole-none : state.count ≡ 0
      → whole_text set h ≡ open_text set h ++ (bin_line state.bin state.count ++ summary_text (counts set (span set h) h) (count_before set h))
  whole-none none = whole-is (lines-none none)

  pub whole-some : 0 < state.count
      → whole_text set h ≡ open_text set h ++ (bin_line state.bin state.count ++ summary_text (counts set (span set h) h) (count_before set h))
  whole-some some = whole-is (lines-some some)

module _ (set : TraceView) (state : BinState) (h : History) (is : CountsBins set state h) where
  -- With the newest bin, if it isn't empty, they are the counts of all bins.
  pub all-counted : (p : ℕ → Bool) (n m : ℕ) → n ≡ count_by p (counts set state.bin h)
      → m ≡ n + (if nat_lt 0 state.count && p state.count then 1 else 0) → m ≡ count_by p (counts set (span set h) h)
  all-counted p n m before is_sum = search (rules, arith, cases_eq, none_more, counted-none, counted-some)

  pub whole-any : whole_text set h ≡ open_text set h ++ (bin_line state.bin state.count ++ summary_text (counts set (span set h) h) (count_before set h))
  whole-any = search (rules, arith, cases_eq, whole-none, whole-some)

-- ## The lines of the frequencies

pub lines-next : (all : List ℕ) (n : ℕ) (line held : List ℕ) → line ≡ frequency_line n (frequency all n)
    → (held ++ frequency_lines all n) ++ line ≡ held ++ frequency_lines all (n + 1)
lines-next all n line held is =
    append_assoc held (frequency_lines all n) line
    ∙ ap (λ l. held ++ l) (ap (λ l. frequency_lines all n ++ l) is ∙ sym (lines-more (λ c. frequency_line c (frequency all c)) n (n + 1) refl))

-- what is printed at the end, after what was printed before
pub end-adds : (set : TraceView) (n : Counting) (closed with_last : Closed) (h : History) (bytes : List ℕ) → CountsBins set (state_of n closed) h → n.before ≡ count_before set h
    → ((c : ℕ) → c < frequency_limit → slice_index with_last.frequencies c ≡ slice_index closed.frequencies c + (if nat_lt 0 n.newest.count && (n.newest.count == c) then 1 else 0))
    → with_last.many ≡ closed.many + (if nat_lt 0 n.newest.count && nat_le frequency_limit n.newest.count then 1 else 0)
    → ((all : List ℕ) → AreFrequencies with_last all → with_last.many ≡ above all → bytes ≡ end_text n all) → whole_text set h ≡ open_text set h ++ bytes
end-adds set n closed with_last h bytes is before frequencies many ends =
    let state = state_of n closed in
    let all = counts set (span set h) h in
    let is_end = ends all (λ c inside. all-counted set state h is (λ n. n == c) _ _ (is.each c inside) (frequencies c inside))
    (all-counted set state h is (λ n. nat_le frequency_limit n) _ _ is.others many) in
    rw before (whole-any set state h is) ∙ ap (λ l. open_text set h ++ l) (sym is_end)
