use Rattle.std.proofs.Common.{Err, refl, ap, subst, ◌∙◌, arith, ◌≡◌, ◌≤◌, ◌<◌, ◌^◌, ◌+◌, ◌++◌, ◌&&◌, true, length, take, length-append, nat_lt, rules}
use Rattle.{std.proofs.lemmas.List.{length-take, take_all}, tally_base.specs.declared.fault.Fault.TheVariants.{HeaderLimit, TruncatedHeader}}
use Rattle.{ptu_definitions.specs.Headers.header_answer, ptu_header.{specs.ReadHeader.{goes_on, Reads, InTag}, proofs.ReadHeader.{is_not, takes-whole}}}
use Rattle.ptu_header.proofs.ReadHeader.{whole_piece, tag-stays, reads-at, reads-of, steps-refused, steps-whole, more-clause, tag-more, limit-shown}
use Rattle.ptu_header.specs.declared.reader.Phase.TheVariants as Phases
use Rattle.ptu_header.proofs.reader.HeaderReader.tag.Goals as goal

pub returns-then-len-eq48 : goal.returns-then-len-eq48
returns-then-len-eq48 c =
    record {
      steps = λ bytes h.
          let r = c.args.self.now in
          let piece = c.args.piece.now in
          let used = c.fill-used.result in
          let p = take used piece in
          let now = c.fill-used.new.carried.items in
          let e = reads-of r.phase Phases.Tag r.carried.items r.taken r.tags r.found r.version bytes c.requires h in
          let fits : used ≤ length piece = omega arith in
          let size : length p ≡ used = length-take used piece ∙ omega (arith, fits) in
          let next : InTag now r.tags r.found r.version (bytes ++ p) =
          rw (← c.fill-used.ensures.items) at (tag-more r.carried.items r.tags r.found r.version bytes p e.0) in
          steps-whole c.whole.result bytes piece used c.whole.new.self (fits, omega (arith, e.1)) (omega arith) (omega (arith, e.2, c.whole.ensures.taken)) (c.whole.ensures.step (bytes ++ p) next (omega (arith, e.2, size, length-append bytes p)));
      room =
          takes-whole c.whole.result c.args.self.now.taken c.whole.new.self.taken
          (length c.args.piece.now) c.fill-used.result (omega arith) c.whole.ensures.taken c.whole.ensures.going;
      ended = search (rules, arith);
    }

pub returns-then-is_full : goal.returns-then-is_full
returns-then-is_full c =
    record {
      steps = λ bytes h.
          let r = c.args.self.now in
          let piece = c.args.piece.now in
          let used = c.fill-used.result in
          let p = take used piece in
          let now = c.fill-used.new.carried.items in
          let e = reads-of r.phase Phases.Tag r.carried.items r.taken r.tags r.found r.version bytes c.requires h in
          let fits : used ≤ length piece = omega arith in
          let size : length p ≡ used = length-take used piece ∙ omega (arith, fits) in
          let next : InTag now r.tags r.found r.version (bytes ++ p) =
          rw (← c.fill-used.ensures.items) at (tag-more r.carried.items r.tags r.found r.version bytes p e.0) in
          let few : length now < 48 = omega arith in
          let under : length (r.carried.items ++ p) < 48 = rw c.fill-used.ensures.items at few in
          steps-refused c.refuse.result c.refuse.new.self HeaderLimit bytes piece used c.refuse.ensures.step c.refuse.ensures.phase fits
          (omega (arith, e.2, c.refuse.ensures.taken))
          (limit-shown Phases.Tag now (r.taken + used) r.tags r.found r.version (bytes ++ p) refl
          (c.is_full.ensures.0 c.if-is_full.true) (next, omega arith, omega (arith, e.2, size, length-append bytes p)))
          (tag-stays r.carried.items r.tags r.found r.version bytes p e.0 under);
      room = search (rules, arith);
      ended = search (rules, arith);
    }

pub returns : goal.returns
returns c =
    record {
      steps = λ bytes h.
          let r = c.args.self.now in
          let piece = c.args.piece.now in
          let used = c.fill-used.result in
          let p = take used piece in
          let now = c.fill-used.new.carried.items in
          let e = reads-of r.phase Phases.Tag r.carried.items r.taken r.tags r.found r.version bytes c.requires h in
          let on : goes_on r.phase ≡ true = ap goes_on c.requires in
          let fits : used ≤ length piece = omega arith in
          let size : length p ≡ used = length-take used piece ∙ omega (arith, fits) in
          let few : r.taken + used < 2 ^ 24 = omega (arith, is_not c.is_full.result c.is_full.ensures c.if-is_full.false, r.limit) in
          let all : length piece ≤ used = omega (arith, few) in
          let next : InTag now r.tags r.found r.version (bytes ++ p) =
          rw (← c.fill-used.ensures.items) at (tag-more r.carried.items r.tags r.found r.version bytes p e.0) in
          let under : length now < 48 = omega arith in
          let m =
          subst (λ l. Reads r.phase now (r.taken + used) r.tags r.found r.version l ×
          ((goes_on r.phase && nat_lt (r.taken + used) (2 ^ 24)) ≡ true) × (header_answer l ≡ Err (TruncatedHeader (length l))))
          (whole_piece bytes piece used all)
          (more-clause r.phase now (r.taken + used) r.tags r.found r.version (bytes ++ p) on few
          (reads-at r.phase Phases.Tag now (r.taken + used) r.tags r.found r.version (bytes ++ p) c.requires (next, omega arith, omega (arith, e.2, size, length-append bytes p)))) in
          (m.0, m.1, m.2, tag-stays r.carried.items r.tags r.found r.version bytes piece e.0 (subst (λ l. length (r.carried.items ++ l) < 48) (take_all used piece all) (rw c.fill-used.ensures.items at under)));
      room = search (rules, arith);
      ended = search (rules, arith);
    }
