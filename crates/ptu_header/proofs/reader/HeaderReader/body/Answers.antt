use Rattle.std.proofs.Common.{Err, refl, sym, ap, subst, ◌∙◌, arith, ◌≡◌, ◌≤◌, ◌<◌, ◌^◌, ◌+◌, ◌-◌, ◌++◌, [], ◌∷◌, ℕ, List, min, true, false, length, take}
use Rattle.std.proofs.{Common.{append-nil, length-append, nat_eq, rules}, lemmas.{Bool.Decides.nat_tests, List.length-take}}
use Rattle.ptu_header.{specs.{Phases.phase_after, ReadHeader.{goes_on, HasRead}}, proofs.ReadHeader.{is_not, nothing-stays, reads-of, reads-open}}
use Rattle.ptu_header.proofs.ReadHeader.{steps-refused, limit-shown, more-clause, after-reads, body-more, body-ends, reads-join}
use Rattle.{tally_base.specs.declared.fault.Fault.TheVariants.HeaderLimit, ptu_definitions.{specs.Headers.header_answer, proofs.AnswerLemmas.Shows-append}}
use Rattle.ptu_header.specs.declared.reader.Phase.TheVariants as Phases
use Rattle.ptu_header.proofs.reader.HeaderReader.body.Goals as goal

no_bytes : (piece : List ℕ) → nat_eq (length piece) 0 ≡ true → piece ≡ []
no_bytes [] h = refl
no_bytes (x ∷ xs) h = grind (arith, nat_tests, h)

some_bytes : (piece : List ℕ) → nat_eq (length piece) 0 ≡ false → 0 < length piece
some_bytes piece h = grind (arith, nat_tests, h)

pub returns-then-is_full : goal.returns-then-is_full
returns-then-is_full c =
    record {
      steps = λ bytes h.
          let r = c.args.self.now in
          let on : goes_on r.phase ≡ true = ap goes_on c.requires in
          let piece = c.args.piece.now in
          let size = reads-open r.phase r.carried.items r.taken r.tags r.found r.version bytes on h in
          steps-refused c.refuse.result c.refuse.new.self HeaderLimit bytes piece 0 c.refuse.ensures.step c.refuse.ensures.phase
          (omega arith) (omega (arith, size.1, c.refuse.ensures.taken))
          (Shows-append header_answer bytes (take 0 piece) (Err HeaderLimit)
          (limit-shown r.phase r.carried.items r.taken r.tags r.found r.version bytes on (c.is_full.ensures.0 c.if-is_full.true) h))
          (nothing-stays bytes (take 0 piece) refl);
      room = search (rules, arith);
      ended = search (rules, arith);
    }

pub returns-then-is_empty : goal.returns-then-is_empty
returns-then-is_empty c =
    record {
      steps = λ bytes h.
          let r = c.args.self.now in
          let piece = c.args.piece.now in
          let on : goes_on r.phase ≡ true = ap goes_on c.requires in
          let none : piece ≡ [] = no_bytes piece (sym c.is_empty.ensures ∙ c.if-is_empty.true) in
          let same : bytes ≡ bytes ++ piece = sym (ap (λ l. bytes ++ l) none ∙ append-nil bytes) in
          let m =
          more-clause r.phase r.carried.items r.taken r.tags r.found r.version (bytes ++ piece) on
          (omega (arith, r.limit, is_not c.is_full.result c.is_full.ensures c.if-is_full.false)) (subst (λ l. HasRead r l) same h) in
          (m.0, m.1, m.2, nothing-stays bytes piece none);
      room = search (rules, arith);
      ended = search (rules, arith);
    }

pub returns : goal.returns
returns c =
    record {
      steps = λ bytes h.
          let r = c.args.self.now in
          let piece = c.args.piece.now in
          let left = c.args.left in
          let last = c.args.last in
          let used = c.min-used.result in
          let p = take used piece in
          let e = reads-of r.phase (Phases.Body left last) r.carried.items r.taken r.tags r.found r.version bytes c.requires h in
          let least : used ≡ min (min left (2 ^ 24 - r.taken)) (length piece) = c.min-used.ensures ∙ ap (λ n. min n (length piece)) c.min.ensures in
          let fits : used ≤ length piece = omega (arith, least) in
          let inner : used ≤ left = omega (arith, least) in
          let size : length p ≡ used = length-take used piece ∙ omega (arith, fits) in
          let some : 0 < used = omega (arith, least, e.1, r.limit, is_not c.is_full.result c.is_full.ensures c.if-is_full.false, some_bytes piece (sym c.is_empty.ensures ∙ c.if-is_empty.false)) in
          let next = after-reads (left - used) last (r.taken + used) r.tags r.found r.version (bytes ++ p) (body-more left (left - used) last r.tags r.found r.version bytes p e.0 (omega (arith, size, inner))) (omega (arith, e.2, size, length-append bytes p)) in (
            (fits, some),
            reads-join c.after-self.result (phase_after (left - used) last) r.carried.items [] r.found r.found
                (r.taken + used) r.tags r.version (bytes ++ p) c.after-self.ensures e.3 refl next,
            rw size at (body-ends left last r.tags r.found r.version bytes p e.0 (omega (arith, size, inner))),
          );
      room = search (rules, arith);
      ended = search (rules, arith);
    }
