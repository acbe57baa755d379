use Rattle.{std.proofs.{Common.{ℕ, zero, suc, ◌*◌, ◌^◌, ◌<◌, get_or, rules, arith}, lemmas.List.drop-set-lt}, lag_ring.proofs.Lists.each_at}
use Rattle.tau_cascade.proofs.{Close.no_bin, Spread.lower_more}
use Rattle.tau_cascade.proofs.bins.lower_before.Goals as goal

-- an index fits so many levels down, since it does where it stands or where there are any
fits_down : (levels index : ℕ) → index < 2 ^ 64 → (0 < levels → index * 2 ^ levels < 2 ^ 64) → index * 2 ^ levels < 2 ^ 64
fits_down zero index fits down = omega arith
fits_down (suc levels) index fits down = down (omega arith)

pub loop-i-preserved : goal.loop-i-preserved
loop-i-preserved c =
    let e = get_or c.args.entries.now c.loop-i.i no_bin in
    let fits = fits_down c.args.levels e.index (omega arith) (λ up. each_at (λ f. f.index * 2 ^ c.args.levels < 2 ^ 64) c.args.entries.now c.loop-i.i no_bin c.loop-i-test.true (c.requires.fits up)) in
    search (rules, arith, fits, lower_more, drop-set-lt)
