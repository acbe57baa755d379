use Rattle.std.proofs.Common.{◌≡◌, ◌∙◌, refl, ℕ, ◌-◌, ◌<◌, ◌≤◌, true, false, [], ◌∷◌, ◌++◌, arith, rules, append-nil, append_assoc, inl, inr}
use Rattle.{std.proofs.lemmas.Bool.{cases_Bool, cases_lt}, tally_base.specs.{declared.event.Event.Event, Settings.TraceView, Tally.History}}
use Rattle.{count_trace.specs.TraceCounts.in_trace_bin, long_trace.{specs.Texts.{is_binned, bin_at, span}, proofs.Steps.{bin-push, bin-none, bin-here}}}
use Rattle.long_trace.proofs.Steps.{bin-other, span-push}
use Rattle.long_trace.proofs.laws.the_span_ends_with_its_last_bin.Goals as goal

-- the span of a trace ends with its last bin that isn't empty
record Spans (set : TraceView) (h : History) : Type 0 where
  last : 0 < span set h → 0 < in_trace_bin set (span set h - 1) h
  behind : (bin : ℕ) → span set h ≤ bin → in_trace_bin set bin h ≡ 0

none-more : (set : TraceView) (h : History) (x : Event × ℕ) → is_binned set x ≡ false → Spans set h → Spans set (h ++ x ∷ [])
none-more set h x outside is =
    let same : span set (h ++ x ∷ []) ≡ span set h = span-push set h x false outside in
    record {
      last = λ some. rw (same, bin-none set (span set h - 1) h x outside) (is.last (omega (arith, same, some)));
      behind = λ bin past. bin-none set bin h x outside ∙ is.behind bin (omega (arith, same, past));
    }

one-more : (set : TraceView) (h : History) (x : Event × ℕ) → is_binned set x ≡ true → Spans set h → Spans set (h ++ x ∷ [])
one-more set h x inside is =
    let new = span-push set h x true inside in
    record {
      last = λ some. elim (cases_lt (bin_at set x.0.time) (span set h)) [
        | inl before ↦
            let same : span set (h ++ x ∷ []) ≡ span set h = omega (arith, new, before) in
            rw same (omega (arith, bin-push set (span set h - 1) h x true inside, is.last (omega (arith, before))))
        | inr past ↦ search (rules, arith, bin-here)
      ];
      behind = λ bin past. bin-other set bin h x inside (λ at. omega (arith, new, past, at)) ∙ is.behind bin (omega (arith, new, past));
    }

grows : (set : TraceView) (h more : History) → Spans set h → Spans set (h ++ more)
grows set h [] is = rw (append-nil h) is
grows set h (x ∷ more) is =
    let next : Spans set (h ++ x ∷ []) =
    elim (cases_Bool (is_binned set x)) [ inl inside ↦ one-more set h x inside is | inr outside ↦ none-more set h x outside is ] in
    rw (← append_assoc h (x ∷ []) more) (grows set (h ++ x ∷ []) more next)

spans : (set : TraceView) (h : History) → Spans set h
spans set h = grows set [] h (record { last = λ some. absurd (omega (arith, some)); behind = λ bin past. refl })

pub returns-clause-last : goal.returns-clause-last
returns-clause-last c = λ set h. (spans set h).last

pub returns-clause-behind : goal.returns-clause-behind
returns-clause-behind c = λ set h. (spans set h).behind
