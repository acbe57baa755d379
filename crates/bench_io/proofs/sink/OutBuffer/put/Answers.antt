use Rattle.std.proofs.{Common.{rules, ◌≡◌, [], ◌++◌, sym, append-nil}, lemmas.Result.{err_from_is_err_and, on_ok_weaker, on_err_weaker}}
use Rattle.bench_io.proofs.Bytes.{Wrote-same, Wrote-trans, WroteShort-behind, WroteShort-more, WroteShort-same}
use Rattle.bench_io.proofs.sink.OutBuffer.put.Goals as goal

pub returns-in_err-flush-clause-short : goal.returns-in_err-flush-clause-short
returns-in_err-flush-clause-short g c =
    let held : c.try_extend_from_slice.new.self.items ≡ c.args.self.now = search rules in
    let failed = err_from_is_err_and c.from_residual.result c.from_residual.ensures.1 in
    let first = WroteShort-same _ _ _ _ held c.in_err-flush.ensures.short in
    rw (failed.1) (WroteShort-more _ _ c.args.self.now c.args.piece.now first)

pub returns-clause-all : goal.returns-clause-all
returns-clause-all g c =
    let held : c.try_extend_from_slice.new.self.items ≡ c.args.self.now = search rules in
    let none : c.try_extend_from_slice-2.new.self.items ≡ [] = search rules in
    let first = Wrote-same _ _ _ _ held c.in_ok-flush.ensures.all in
    on_ok_weaker c.write_all.result (λ p. record {
      front = c.args.self.now ++ c.args.piece.now;
      whole = rw none (sym (append-nil _));
      passed = Wrote-trans _ _ _ c.args.self.now c.args.piece.now first p;
    }) c.write_all.ensures.all

pub returns-clause-short : goal.returns-clause-short
returns-clause-short g c =
    let held : c.try_extend_from_slice.new.self.items ≡ c.args.self.now = search rules in
    let first = Wrote-same _ _ _ _ held c.in_ok-flush.ensures.all in
    on_err_weaker c.write_all.result (λ p. WroteShort-behind _ _ _ c.args.self.now c.args.piece.now first p) c.write_all.ensures.short
