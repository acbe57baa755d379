use Rattle.{std.proofs.Common.{◌≡◌, ◌+◌, ◌*◌, ℕ, List, length, min, arith, rules, sym}, tally_base.specs.declared.settings.CoincidenceSet.CoincidenceSet}
use Rattle.{tally_base.specs.Settings.{CoincidenceView, coincidence_view}, lag_ring.specs.declared.ring.Entry.Entry, coincidence.specs.Pairing.HasRoom}
use Rattle.coincidence.{specs.{Pairing.Counts, Closing.{lags_of, both_lag_sums}, Stretch.{reached, view_of}}, proofs.LagPairs.{window-on, both-le}}
use Rattle.coincidence.proofs.Visits.{counts_on, room_left}
use Rattle.coincidence.proofs.lags.pair_lags.Goals as goal

-- what holds of a stretch by what its pairs depend on
along : (P : CoincidenceView → ℕ → List Entry → List Entry → Type 0) (set set' : CoincidenceSet) (base base' : ℕ) (es es' later later' : List Entry)
    → set' ≡ set → base' ≡ base → later' ≡ later → es' ≡ es → P (coincidence_view set) base es later → P (coincidence_view set') base' es' later'
along P set set' base base' es es' later later' a b c d is = rw (a, b, c, d) is

pub pair_stretch-requires : goal.pair_stretch-requires
pair_stretch-requires g c =
    let s = c.args.stretch in
    let set = view_of s in
    let base : ℕ = c.loop-turn.turn * 4096 in
    let so_far : min base set.reach ≡ base = omega arith in
    let es : List Entry = reached s in
    let later : List Entry = s.later.now in
    let n : ℕ = lags_of set base in
    along (λ v b xs ls. HasRoom v c.loop-turn.cells (λ c. both_lag_sums v c b (lags_of v b) xs ls)) _ _ _ _ _ _ _ _ c.at.ensures.set c.at.ensures.base c.at.ensures.later c.at.ensures.reached
    (room_left _ _ _ _ _ _ _ _ _ c.loop-turn.invariant c.requires (λ at inside. rw so_far (omega (arith, window-on set at base s.places.low s.places.high later s.window.0.near es, both-le set at (base + n) set.reach es later (omega arith)))))

pub loop-turn-preserved : goal.loop-turn-preserved
loop-turn-preserved g c =
    let s = c.args.stretch in
    let set = view_of s in
    let base : ℕ = c.loop-turn.turn * 4096 in
    let n : ℕ = lags_of set base in
    let so_far : min base set.reach ≡ base = omega arith in
    let next : min ((c.loop-turn.turn + 1) * 4096) set.reach ≡ base + n = omega arith in
    let es : List Entry = reached s in
    let later : List Entry = s.later.now in
    counts_on _ _ _ _ _ _ _ _ _ c.loop-turn.invariant _ _ _ _
    (along (λ v b xs ls. Counts v c.loop-turn.cells c.pair_stretch.new.cells c.loop-turn.steps c.pair_stretch.new.steps (λ c. both_lag_sums v c b (lags_of v b) xs ls) (2 * (length ls * lags_of v b))) _ _ _ _ _ _ _ _
    (sym c.at.ensures.set) (sym c.at.ensures.base) (sym c.at.ensures.later) (sym c.at.ensures.reached) c.pair_stretch.ensures)
    (λ at inside. rw (next, so_far) (window-on set at base s.places.low s.places.high later s.window.0.near es)) (rw (next, so_far) (search (rules, arith)))
