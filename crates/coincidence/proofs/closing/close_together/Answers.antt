use Rattle.{tally_base.specs.Settings.CoincidenceView, std.proofs.Common.{◌≡◌, ℕ, ◌*◌, ◌+◌, ◌++◌, refl, ◌-◌, ◌<◌, ◌≤◌, List, length, get_or, slice_get, Some}}
use Rattle.std.{proofs.{Common.arith, Props.props, Math.Logic.∥∥₁_elim, lemmas.Option.slice_get-get_or}, specs.List.AllByRecursion-prop}
use Rattle.{lag_ring.{specs.{Cells.Cells, declared.ring.Entry.Entry}, proofs.Rising.rising-prop}, coincidence.specs.declared.pairing.Bin.Bin}
use Rattle.coincidence.{specs.{Closing.both_lag_sums, Pairing.{HasRoom, Counts}}, proofs.{Visits.{counts_on, room_left}, Shut.{can_close, closes}}}
use Rattle.coincidence.proofs.Together.{all_fit, all_cells, all_kept, all_near, bins_both, joined_rising}
use Rattle.coincidence.proofs.closing.close_together.Goals as goal

abbrev last_of : List Entry → Entry
last_of es = get_or es (length es - 1) (record { index = 0; a = 0; b = 0 })

at_end : (later : List Entry) → 0 < length later → slice_get later (length later - 1) ≡ Some (last_of later)
at_end later some = slice_get-get_or later (length later - 1) _ (omega (arith, some))

-- the same of the entries of a ring as of its slices
rooms : (set : CoincidenceView) (cells : Cells) (es es' later : List Entry) → es' ≡ es → HasRoom set cells (λ c. both_lag_sums set c 0 set.reach (es ++ later) later) → HasRoom set cells (λ c. both_lag_sums set c 0 set.reach (es' ++ later) later)
rooms set cells es es' later same room = rw same room

sums : (set : CoincidenceView) (old new : Cells) (before now n : ℕ) (es es' later : List Entry) → es' ≡ es → Counts set old new before now (λ c. both_lag_sums set c 0 set.reach (es' ++ later) later) n → Counts set old new before now (λ c. both_lag_sums set c 0 set.reach (es ++ later) later) n
sums set old new before now n es es' later same counts = (rw same at counts)

pub invariant_of-stretch : goal.invariant_of-stretch
invariant_of-stretch g c = record {
  window = rw c.slices.ensures.entries (c.requires.window, ∥∥₁_elim (can_close _ c.args.pairing.now _ c.requires.stands) (rising-prop _) (λ w. joined_rising _ _ _ _ _ w.2 _ c.requires.entries));
}

pub pair_lags-requires : goal.pair_lags-requires
pair_lags-requires g c = rooms _ _ c.args.pairing.now.ring.entries _ c.args.later.now c.slices.ensures.entries (∥∥₁_elim (can_close _ c.args.pairing.now _ c.requires.stands) (hlevel props)
    (λ w. let room = all_fit _ _ _ _ _ w.2 c.args.later.now c.requires.entries in record { sized = room.sized; fits = λ at inside. omega (arith, room.fits at inside) }))

pub pair_insides-requires-clause-both : goal.pair_insides-requires-clause-both
pair_insides-requires-clause-both g c = ∥∥₁_elim (can_close _ c.args.pairing.now _ c.requires.stands) (AllByRecursion-prop (λ (bin : Bin). bin.both ≤ bin.weights.a * bin.weights.b) (λ bin. hlevel props) _)
    (λ w. bins_both _ _ _ _ w.2.are)

pub pair_insides-requires-clause-room : goal.pair_insides-requires-clause-room
pair_insides-requires-clause-room g c = ∥∥₁_elim (can_close _ c.args.pairing.now _ c.requires.stands) (hlevel props)
    (λ w. room_left _ _ _ _ _ _ _ _ _ (sums _ _ _ _ _ _ _ _ c.args.later.now c.slices.ensures.entries c.pair_lags.ensures) (all_fit _ _ _ _ _ w.2 c.args.later.now c.requires.entries) (λ at inside. omega arith))

pub renew-requires-clause-rising : goal.renew-requires-clause-rising
renew-requires-clause-rising g c = ∥∥₁_elim (can_close _ c.args.pairing.now _ c.requires.stands) (rising-prop _) (λ w. joined_rising _ _ _ _ _ w.2 _ c.requires.entries)

pub renew-requires-clause-near : goal.renew-requires-clause-near
renew-requires-clause-near g c = rw c.least_kept.ensures
    (∥∥₁_elim (can_close _ c.args.pairing.now _ c.requires.stands) (AllByRecursion-prop (λ (e : Entry). e.index < (last_of c.args.later.now).index - (c.args.places.set.reach - 1) + c.args.pairing.now.ring.reach) (λ e. hlevel props) _)
    (λ w. all_near _ _ _ _ _ w.2 _ c.requires.entries c.args.places.set.some_reach.0 _ (at_end _ c.requires.window.few.0)))

pub returns : goal.returns
returns g c = closes _ _ _ _ _ _ (λ closed xs can. (
  rw (c.renew.ensures.kept, c.least_kept.ensures) (all_kept _ _ _ closed xs can c.args.later.now c.requires.entries c.args.places.set.some_reach.0 _ (at_end _ c.requires.window.few.0)),
  all_cells _ _ _ _ _ can c.args.later.now c.requires.entries _ _ _ (counts_on _ _ _ _ _ _ _ _ _ (sums _ _ _ _ _ _ _ _ c.args.later.now c.slices.ensures.entries c.pair_lags.ensures) _ _ _ _ c.pair_insides.ensures (λ at inside. refl) (omega arith)),
)) (omega (arith, c.pair_lags.ensures.spends.steps, c.pair_insides.ensures.spends.steps))
