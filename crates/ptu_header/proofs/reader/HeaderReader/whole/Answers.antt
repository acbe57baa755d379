use Rattle.std.proofs.{Common.{rules, refl, sym, ap, subst, ◌∙◌, arith, ◌≡◌, ◌+◌, true, false, [], codes}, lemmas.{Int.of_z-to_z, Bool.false_from_ne_true}}
use Rattle.std.{proofs.lemmas.Bool.false≢true, specs.{Str.bytes_eq, Int.{w64, cast_signed, cast_unsigned}}}
use Rattle.{tally_base.specs.declared.fault.Fault.TheVariants.{TagType, TagLength}, ptu_definitions.specs.TagList.{code_in, value_in, is_known, is_negative}}
use Rattle.{ptu_definitions.specs.TagList.{body_size, is_end}, ptu_header.{specs.{Kinds.{IsHead, code_of}, Phases.phase_after}, proofs.Tags.same_test}}
use Rattle.ptu_header.proofs.{Tags.{name_is, size-negative, size-positive}, ReadHeader.{whole-refused, tag-bad_type, tag-bad_length, tag-whole, tag-ends}}
use Rattle.ptu_header.proofs.ReadHeader.{tag-adds, unknown-nothing, negative-nothing, after-reads, reads-join}
use Rattle.ptu_header.proofs.reader.HeaderReader.whole.Goals as goal

pub returns-in_default : goal.returns-in_default
returns-in_default c = record {
  step = λ bytes h size.
      let r = c.args.self.now in
      let tag = r.carried.items in
      let head : IsHead tag c.head_of-head.result = subst (λ l. IsHead l c.head_of-head.result) c.as_slice.ensures.value c.head_of-head.ensures in
      let unknown : is_known (code_in tag) ≡ false = ap is_known (sym head.code) ∙ false_from_ne_true _ (λ e. false≢true (c.in_default.ensures.known.1 e)) in
      whole-refused c.refuse.result c.refuse.new.self (TagType (r.tags + 1) c.head_of-head.result.code)
      (TagType (r.tags + 1) (code_in tag)) bytes c.args.used c.refuse.ensures.step c.refuse.ensures.phase
      (ap (TagType (r.tags + 1)) head.code) (tag-bad_type tag r.tags r.found r.version bytes h c.requires.whole unknown (omega (arith, size, r.limit)))
      (unknown-nothing tag r.tags r.found r.version bytes h c.requires.whole unknown);
  taken = search (rules, arith);
  going = search (rules, arith);
  ended = search (rules, arith);
}

pub returns-then-left : goal.returns-then-left
returns-then-left c = record {
  step = λ bytes h size.
      let r = c.args.self.now in
      let tag = r.carried.items in
      let head : IsHead tag c.head_of-head.result = subst (λ l. IsHead l c.head_of-head.result) c.as_slice.ensures.value c.head_of-head.ensures in
      let known : is_known (code_in tag) ≡ true = ap is_known (sym head.code) ∙ c.in-Some.ensures.known.0 refl in
      let kind : code_of c.in-Some.kind ≡ code_in tag = c.in-Some.ensures.code ∙ head.code in
      let left : c.body_len-left.result ≡ body_size tag = c.body_len-left.ensures tag head kind in
      let negative = size-negative tag (omega (arith, left, c.if-left.true)) in
      let length : cast_unsigned w64 c.cast_signed.result ≡ value_in tag =
      ap (cast_unsigned w64) c.cast_signed.ensures ∙ of_z-to_z w64 c.body_len-left.result c.body_len-left.type_inv ∙ left ∙ sym negative.1 in
      whole-refused c.refuse-then-left.result c.refuse-then-left.new.self _
      (TagLength (r.tags + 1) (cast_signed w64 (value_in tag))) bytes c.args.used c.refuse-then-left.ensures.step c.refuse-then-left.ensures.phase
      (ap (λ n. TagLength (r.tags + 1) (cast_signed w64 n)) length)
      (tag-bad_length tag r.tags r.found r.version bytes h c.requires.whole known negative.0 (omega (arith, size, r.limit)))
      (negative-nothing tag r.tags r.found r.version bytes h c.requires.whole known negative.0);
  taken = search (rules, arith);
  going = search (rules, arith);
  ended = search (rules, arith);
}

pub returns : goal.returns
returns c = record {
  step = λ bytes h size.
      let r = c.args.self.now in
      let tag = r.carried.items in
      let head : IsHead tag c.head_of-head.result = subst (λ l. IsHead l c.head_of-head.result) c.as_slice.ensures.value c.head_of-head.ensures in
      let known : is_known (code_in tag) ≡ true = ap is_known (sym head.code) ∙ c.in-Some.ensures.known.0 refl in
      let kind : code_of c.in-Some.kind ≡ code_in tag = c.in-Some.ensures.code ∙ head.code in
      let left : c.body_len-left.result ≡ body_size tag = c.body_len-left.ensures tag head kind in
      let positive : is_negative tag ≡ false = size-positive tag (omega (arith, left, c.if-left.false)) in
      let last : c.same.result ≡ is_end tag =
      same_test c.same.result c.name.result.now (codes "Header_End") c.same.ensures
      ∙ ap (λ n. bytes_eq n (codes "Header_End")) (c.name.ensures ∙ name_is tag c.head_of-head.result head) in
      let phase : c.after-self.result ≡ phase_after (body_size tag) (is_end tag) =
      c.after-self.ensures ∙ ap (λ n. phase_after n c.same.result) left ∙ ap (phase_after (body_size tag)) last in
      let next = after-reads (body_size tag) (is_end tag) r.taken (r.tags + 1) _ r.version bytes
      (tag-whole tag r.tags r.found r.version bytes h c.requires.whole known positive) size in (
        refl,
        reads-join c.after-self.result (phase_after (body_size tag) (is_end tag)) c.clear.new.self.items [] c.with-self.result _ r.taken
            (r.tags + 1) r.version bytes phase c.clear.ensures (c.with-self.ensures tag head) next,
        (tag, tag-ends tag r.tags r.found r.version bytes h c.requires.whole known positive, tag-adds tag r.tags r.found r.version bytes h c.requires.whole known positive, head, kind),
      );
  taken = search (rules, arith);
  going = search (rules, arith);
  ended = search (rules, arith);
}
