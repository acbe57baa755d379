use Rattle.std.proofs.{Common.{◌≡◌, ◌++◌, ℕ, List, map, take, ap, sym, ◌∙◌, rules, arith}, lemmas.List.{map-append, append_assoc, take-append-drop}}
use Rattle.{std.proofs.lemmas.Slice.take-put_mid, ptu_definitions.specs.{declared.records.Raw.Raw, Words.numbers}}
use Rattle.lane_decode.proofs.block.decode_words.Goals as goal

-- a part more of the words that are left
part-more : (meaning : ℕ → Raw) (rest part behind : List (List ℕ)) (all front front' : List Raw)
    → all ≡ front ++ map meaning (numbers rest) → part ++ behind ≡ rest → front' ≡ front ++ map meaning (numbers part)
    → all ≡ front' ++ map meaning (numbers behind)
part-more meaning rest part behind all front front' so_far cut more =
    let split : map meaning (numbers rest) ≡ map meaning (numbers part) ++ map meaning (numbers behind) =
    ap (λ words. map meaning (numbers words)) (sym cut) ∙ ap (map meaning) (map-append _ part behind) ∙ map-append meaning (numbers part) (numbers behind) in
    rw more (so_far ∙ ap (λ l. front ++ l) split ∙ sym (append_assoc front _ _))

pub many-preserved : goal.many-preserved
many-preserved g c = record {
  long = search rules;
  so_far =
      part-more g.R.RecordLayout.meaning c.many.rest.now _ _ _ _ _ c.many.invariant.so_far
      (rw (c.split_at.ensures.front, c.split_at.ensures.back) (take-append-drop _ c.many.rest.now))
      (take-put_mid c.many.at _ c.many.out c.decode_part.new.out _ (omega arith) (omega arith)
      ∙ ap (λ more. take c.many.at c.many.out ++ more) c.decode_part.ensures);
}
