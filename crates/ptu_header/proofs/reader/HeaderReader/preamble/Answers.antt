use Rattle.std.proofs.Common.{Err, refl, sym, ap, subst, ◌∙◌, arith, ◌≡◌, ◌≤◌, ◌<◌, ◌^◌, ◌+◌, ◌++◌, [], true, ◌&&◌, length, take, drop, codes, nat_lt, rules}
use Rattle.{ptu_definitions.specs.{Fields.version_in, Headers.header_answer}, tally_base.specs.declared.fault.Fault.TheVariants.{BadMagic, TruncatedHeader}}
use Rattle.ptu_header.{specs.ReadHeader.{goes_on, Reads, InPreamble}, proofs.ReadHeader.{preamble-shows, whole_piece, short-stays, other-stays, reads-at}}
use Rattle.ptu_header.proofs.ReadHeader.{reads-of, steps-refused, more-clause, preamble-more, preamble-whole, reads-join, preamble-other}
use Rattle.ptu_header.specs.declared.reader.Phase.TheVariants as Phases
use Rattle.ptu_header.proofs.reader.HeaderReader.preamble.Goals as goal

pub returns-then-is_other : goal.returns-then-is_other
returns-then-is_other c =
    record {
      steps = λ bytes h.
          let r = c.args.self.now in
          let piece = c.args.piece.now in
          let used = c.fill-used.result in
          let e = reads-of r.phase Phases.Preamble r.carried.items r.taken r.tags r.found r.version bytes c.requires h in
          let now : c.as_slice.result.now ≡ r.carried.items ++ take used piece = c.as_slice.ensures.value ∙ c.fill-used.ensures.items in
          let other = c.is_other.ensures.yes c.if-is_other.true in
          steps-refused c.refuse.result c.refuse.new.self BadMagic bytes piece used c.refuse.ensures.step c.refuse.ensures.phase
          (omega arith) (omega (arith, e.1, c.refuse.ensures.taken))
          (preamble-other r.carried.items c.as_slice.result.now bytes (take used piece) e.0 now other (omega (arith, c.as_slice.ensures.fits)))
          (other-stays r.carried.items c.as_slice.result.now bytes (take used piece) e.0 now other);
      room = search (rules, arith);
      ended = search (rules, arith);
    }

pub returns-then-len-lt16 : goal.returns-then-len-lt16
returns-then-len-lt16 c =
    record {
      steps = λ bytes h.
          let r = c.args.self.now in
          let piece = c.args.piece.now in
          let used = c.fill-used.result in
          let p = take used piece in
          let now = c.fill-used.new.carried.items in
          let e = reads-of r.phase Phases.Preamble r.carried.items r.taken r.tags r.found r.version bytes c.requires h in
          let on : goes_on r.phase ≡ true = ap goes_on c.requires in
          let short : length now < 16 = omega arith in
          let all : length piece ≤ used = omega arith in
          let magic : 6 ≤ length now → take 6 now ≡ codes "PQTTTR" = rw c.as_slice.ensures.value at (c.is_other.ensures.no c.if-is_other.false) in
          let first = r.first c.requires in
          let next : InPreamble now (bytes ++ p) = rw (← c.fill-used.ensures.items) at
          (preamble-more r.carried.items bytes p e.0 (rw c.fill-used.ensures.items at short) (rw c.fill-used.ensures.items at magic)) in
          let size : r.taken + used ≡ length (bytes ++ p) = omega (arith, ap length next.bytes_are, first) in
          let m =
          subst (λ l. Reads r.phase now (r.taken + used) r.tags r.found r.version l ×
          ((goes_on r.phase && nat_lt (r.taken + used) (2 ^ 24)) ≡ true) × (header_answer l ≡ Err (TruncatedHeader (length l))))
          (whole_piece bytes piece used all)
          (more-clause r.phase now (r.taken + used) r.tags r.found r.version (bytes ++ p) on (omega (arith, first))
          (reads-at r.phase Phases.Preamble now (r.taken + used) r.tags r.found r.version (bytes ++ p) c.requires (next, size, e.2, e.3))) in
          (m.0, m.1, m.2, short-stays bytes piece (subst (λ l. length l < 16) (whole_piece bytes piece used all) (omega (arith, ap length next.bytes_are, short))));
      room = search (rules, arith);
      ended = search (rules, arith);
    }

pub returns : goal.returns
returns c =
    record {
      steps = λ bytes h.
          let r = c.args.self.now in
          let piece = c.args.piece.now in
          let used = c.fill-used.result in
          let p = take used piece in
          let now = c.fill-used.new.carried.items in
          let e = reads-of r.phase Phases.Preamble r.carried.items r.taken r.tags r.found r.version bytes c.requires h in
          let first = r.first c.requires in
          let short = r.short c.requires in
          let size : length now ≡ 16 = omega arith in
          let bytes_are : bytes ++ p ≡ now = ap (λ l. l ++ p) e.0.bytes_are ∙ sym c.fill-used.ensures.items in
          let magic : 6 ≤ length now → take 6 now ≡ codes "PQTTTR" = rw c.as_slice.ensures.value at (c.is_other.ensures.no c.if-is_other.false) in
          let now_magic : take 6 now ≡ codes "PQTTTR" = magic (omega (arith, size)) in
          let version : c.eight-version.result ≡ version_in (bytes ++ p) =
          c.eight-version.ensures ∙ ap (take 8) (c.split_at.ensures.back ∙ ap (drop 8) c.as_slice-3.ensures.value) ∙ ap version_in (sym bytes_are) in
          let eight : c.eight-magic.result ≡ take 8 (bytes ++ p) = c.eight-magic.ensures ∙ ap (take 8) (c.as_slice-2.ensures.value ∙ sym bytes_are) in
          let taken : r.taken + used ≡ length (bytes ++ p) = omega (arith, ap length bytes_are, first) in
          let whole =
          preamble-whole r.tags r.found c.eight-version.result (bytes ++ p) (ap length bytes_are ∙ size) (ap (take 6) bytes_are ∙ now_magic) e.2 e.3 version in (
            (omega arith, omega (arith, e.0.short)),
            reads-join Phases.Tag Phases.Tag c.clear.new.self.items [] r.found r.found
                (r.taken + used) r.tags c.eight-version.result (bytes ++ p) refl c.clear.ensures refl (whole.1, omega arith, taken),
            whole.0,
            eight,
            version,
            (preamble-shows (bytes ++ p) whole.0).0,
            (preamble-shows (bytes ++ p) whole.0).1,
          );
      room = search (rules, arith);
      ended = search (rules, arith);
    }
