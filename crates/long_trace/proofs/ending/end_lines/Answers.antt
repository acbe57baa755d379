use Rattle.{std.proofs.Common.{◌≡◌, ◌∙◌, ◌<◌, ◌++◌, List, ℕ, ap, codes, decimal, rules, arith, append_assoc}, long_trace.specs.Texts.frequency_limit}
use Rattle.long_trace.{specs.Texts.{frequency_line, frequencies_text}, proofs.Ends.lines-next}
use Rattle.long_trace.proofs.ending.end_lines.Goals as goal

pub loop-count-preserved : goal.loop-count-preserved
loop-count-preserved c =
    let n = c.loop-count.count in
    let inside : n < frequency_limit = search (rules, arith) in
    record {
      put = λ all is. c.put_text-in-loop-count.ensures.items ∙ ap (λ l. l ++ c.as_slice.result.now) (c.loop-count.invariant.put all is)
          ∙ lines-next all n c.as_slice.result.now _ (c.as_slice.ensures.value ∙ c.frequency_line-line.ensures ∙ ap (frequency_line n) (is n inside));
      room = search (rules, arith);
    }

-- the lines in their order
in-order : (last before frequencies word count end : List ℕ) → ((((last ++ before) ++ frequencies) ++ word) ++ count) ++ end ≡ last ++ ((before ++ frequencies) ++ (word ++ (count ++ end)))
in-order last before frequencies word count end = simp append_assoc

pub returns : goal.returns
unfolding frequencies_text
returns c = λ all is many.
    let whole : c.loop-count.count ≡ frequency_limit = search (rules, arith) in
    rw (← many)
    (c.put_text-4.ensures.items ∙ ap (λ l. l ++ codes "\n") (c.put_decimal-2.ensures.items ∙ ap (λ l. l ++ decimal c.args.closed.now.many) (c.put_text-3.ensures.items ∙ ap (λ l. l ++ codes "above ") (rw whole at (c.loop-count.invariant.put all is))))
    ∙ in-order _ _ _ (codes "above ") (decimal c.args.closed.now.many) (codes "\n"))
