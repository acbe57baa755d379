use Rattle.std.proofs.{Common.{arith, rules, ◌≡◌, [], ◌++◌, sym, inr, length, slice_range}, lemmas.{Result.err_from_is_err_and, Slice.between_is}}
use Rattle.{bench_io.proofs.{States.OnlyReads-trans, Bytes.Wrote-same}, command_work.proofs.{Pieces.{few_behind, few-map, piece-length}, Reading.ReadWell}}
use Rattle.command_work.proofs.Reading.{cut-goes, leaves-unheaded, leaves-unopened, leaves-piece, so-given, leaves-unread, next-piece, ends-pieces}
use Rattle.command_work.specs.Outcomes.{IsCut}
use Rattle.command_work.proofs.job.read_file.Goals as goal

pub returns-in_err-found-clause-leaves : goal.returns-in_err-found-clause-leaves
returns-in_err-found-clause-leaves g c =
    let read = c.in_err-found.ensures in
    let p = err_from_is_err_and c.from_residual.result c.from_residual.ensures.1 in
    rw (p.1, p.2) (leaves-unheaded _ _ _ _ _ (g.met.J.Job.law c.args.job.now) _ _ _ read.answer.0 c.in_err-found.field-0.0 read.answer.1 read.stops read.answer.2 read.reason read.once)

pub returns-in_err-reader-clause-leaves : goal.returns-in_err-reader-clause-leaves
returns-in_err-reader-clause-leaves g c =
    let found = c.in_ok-found.found in
    let read = c.in_ok-found.ensures in
    let law = g.met.J.Job.law c.args.job.now in
    let took : ReadWell (g.J.Job.work c.args.job.now) (g.I.Inputs.state c.args.inputs.now) (g.I.Inputs.state c.read_header.new.inputs) read.answer.0 =
    record { once = read.once; consumes = read.answer.1; few = few-map IsCut _ _ _ (cut-goes _ _ _ _ _ law) read.stops.few } in
    let p = err_from_is_err_and c.from_residual-in_err-reader.result c.from_residual-in_err-reader.ensures.1 in
    rw (p.1, p.2) (leaves-unopened _ _ _ _ _ law (record { is = read.answer.2 }) took _ _ c.in_err-reader.field-0.0
    (few_behind c.read_header.new.buffer found.used found.len 8192 (omega arith) read.part.ended read.part.order read.part.within) c.in_err-reader.ensures.opens)

pub pieces-init : goal.pieces-init
pieces-init g c =
    let read = c.in_ok-found.ensures in
    record {
      order = read.part.order;
      fits = omega (arith, read.part.within);
      reads = read.reads;
      so_far = record {
        header = c.in_ok-found.found.header;
        same = c.in_ok-reader.ensures.tells;
        taken = read.answer.0;
        behind = [];
        shows = record { is = read.answer.2 };
        stood = c.in_ok-reader.ensures.stands;
        took = record { once = read.once; consumes = read.answer.1; few = few-map IsCut _ _ _ (cut-goes _ _ _ _ _ (g.met.J.Job.law c.args.job.now)) read.stops.few };
        unended = read.stops.done;
        written = let opened = c.in_ok-reader.ensures.opens.1 in Wrote-same _ _ _ _ (sym opened.adds) opened.wrote;
      };
    }

pub pieces-preserved : goal.pieces-preserved
pieces-preserved g c =
    let p = c.pieces.invariant.so_far in
    let size : length c.read.new.into ≡ 8192 = Prim.search rules in
    record {
      order = omega arith;
      fits = omega (arith, c.in-Ok.ensures.bound, size);
      reads = OnlyReads-trans _ _ _ _ c.pieces.invariant.reads (record { keeps = c.read.ensures.keeps; keeps_other = c.read.ensures.keeps_other; opens_none = c.read.ensures.opens_none });
      so_far = rw between_is (next-piece _ _ _ _ _ (g.met.J.Job.law c.args.job.now) p _ (c.in_ok-piece.ensures.writes p.behind p.stood) _ c.read.ensures.keeps_other c.read.ensures.opens_none c.in-Ok.more c.read.new.into
          c.in-Ok.ensures.cause.kept c.in-Ok.ensures.gives (omega (arith, size)) _ _ c.piece.ensures.same (c.in_ok-piece.ensures.takes p.behind p.stood) c.if-more-eq0.false);
    }

pub pieces-smaller : goal.pieces-smaller
pieces-smaller g c =
    let inv = c.pieces.invariant in
    let size : length c.pieces.buffer ≡ 8192 = Prim.search rules in
    omega (arith, c.in_ok-piece.ensures.room, c.if-more-eq0.false, piece-length c.pieces.buffer c.pieces.used c.pieces.len inv.order (omega (arith, size, inv.fits)))

pub piece-requires : goal.piece-requires
piece-requires g c = let p = c.pieces.invariant.so_far in (p.behind, p.stood)

pub returns-in_err-piece-clause-leaves : goal.returns-in_err-piece-clause-leaves
returns-in_err-piece-clause-leaves g c =
    let so_far = c.pieces.invariant.so_far in
    let p = err_from_is_err_and c.from_residual-in_err-piece.result c.from_residual-in_err-piece.ensures.1 in
    rw (p.1, p.2) (leaves-piece _ _ _ _ _ (g.met.J.Job.law c.args.job.now) so_far _ c.in_err-piece.field-0.0 (c.in_err-piece.ensures.writes so_far.behind so_far.stood))

pub returns-in_default : goal.returns-in_default
returns-in_default g c =
    let p = c.pieces.invariant.so_far in
    record {
      reads = OnlyReads-trans _ _ _ _ c.pieces.invariant.reads (record { keeps = c.read.ensures.keeps; keeps_other = c.read.ensures.keeps_other; opens_none = c.read.ensures.opens_none });
      leaves = leaves-unread (so-given _ _ _ _ _ (g.met.J.Job.law c.args.job.now) p _ (c.in_ok-piece.ensures.writes p.behind p.stood)) _ c.read.ensures.keeps_other c.read.ensures.opens_none _ c.in_default.ensures.gives c.in_default.ensures.cause.once;
    }

pub end-requires : goal.end-requires
end-requires g c = let p = c.pieces.invariant.so_far in (p.behind ++ slice_range c.pieces.buffer c.pieces.used c.pieces.len, c.in_ok-piece.ensures.takes p.behind p.stood)

pub returns-then-more-eq0 : goal.returns-then-more-eq0
returns-then-more-eq0 g c =
    let p = c.pieces.invariant.so_far in
    let size : length c.read.new.into ≡ 8192 = Prim.search rules in
    let stood = c.in_ok-piece.ensures.takes p.behind p.stood in
    record {
      reads = OnlyReads-trans _ _ _ _ c.pieces.invariant.reads (record { keeps = c.read.ensures.keeps; keeps_other = c.read.ensures.keeps_other; opens_none = c.read.ensures.opens_none });
      leaves = ends-pieces _ _ _ _ _ (g.met.J.Job.law c.args.job.now) p _ (c.in_ok-piece.ensures.writes p.behind p.stood) _ c.read.ensures.keeps_other c.read.ensures.opens_none c.in-Ok.more c.read.new.into c.in-Ok.ensures.cause.kept c.in-Ok.ensures.gives
          (omega (arith, size)) _ c.end.result c.if-more-eq0.true (c.in-Ok.ensures.gives.1.1 (inr (c.if-more-eq0.true, omega (arith, size)))) (rw c.piece.ensures.same at (c.end.ensures _ stood));
    }
