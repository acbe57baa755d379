-- What levels stand for: photons that came to them, in order, and how far they are paired.
use Rattle.std.specs.Prelude.{◌≡◌, ℕ, ◌+◌, ◌*◌, ◌≤◌, suc, ⊤, Bool, true, false, ◌==◌, sum_by, Option, None, List, [], ◌∷◌, ◌++◌}
use Rattle.{tally_base.specs.{Settings.CorrelationView, Tally.History}, lag_ring.specs.{declared.ring.Entry.Entry, Ring.{Ring, weight_where, Weighs}, Cells.{Cells, added_at}, Pairings.Paired}}
use Rattle.{lag_ring.specs.{Pairings.paired_by, Binned.{IsOpen, KeepsReach, CellsCount}}, tau_cascade.specs.{declared.level.Level.Level, Correlation.{bin, in_first, in_second, correlation}}}
use Rattle.tau_cascade.specs.{Correlation.{skipped_lags, lag_count}, Work.occupied}

-- the first weight of the entry that stands k before the index, or 0
abbrev pub weight_before : ℕ → ℕ → List Entry → ℕ
weight_before k index es = weight_where (λ e. e.a) (λ i. i + k == index) es

-- lists that were paired more have at least a quarter as many bins together as these and at most twice as many, and those of which a window was begun more at most twice as many
abbrev pub PairsMore : Paired → Paired → ℕ → Type 0
PairsMore old new bins = (4 * old.lists + bins ≤ 4 * new.lists) × (new.lists ≤ old.lists + 2 * bins) × (new.windows ≤ old.windows + 2 * bins)

module _ (set : CorrelationView) (level : ℕ) where
  -- the entry is the bin of these photons, of which there is one at least
  abbrev pub IsBin : Entry → History → Type 0
  IsBin e xs = Weighs (in_first set) (in_second set) (bin level) e xs

  -- the open bin has the photons that are not in closed ones, and is after those
  abbrev pub OpenIs : Option Entry → History → History → Type 0
  OpenIs last closed open' = IsOpen IsBin (λ e. e.index) (bin level) last closed open'

  -- the ring has the closed bins of the last lags
  abbrev pub RingIs : Ring → History → Type 0
  RingIs ring closed = KeepsReach (in_first set) (in_second set) (bin level) set.lags ring closed

  -- the cells count the pairs of photons in closed bins, each bin paired once with each lag at most
  pub record CellsAre (cells : Cells) (closed : History) : Type 0 where
    pub counts : CellsCount (lag_count set level) (λ p. correlation set level (p + skipped_lags set level + 1) closed) (lag_count set level * occupied level closed) cells
    pub each : (p : ℕ) → added_at cells p ≤ occupied level closed

  -- what a level has of the photons of closed bins
  pub record ClosedAre (r : Ring) (cs : Cells) (p : Paired) (closed : History) : Type 0 where
    pub ring : RingIs r closed
    pub cells : CellsAre cs closed
    pub paired : PairsMore (paired_by 0 0) p (occupied level closed)

  -- this is so until the end, when no bin is open and no other photons came
  abbrev pub RestIs : Bool → Option Entry → History → History → Type 0
  RestIs false last closed open' = OpenIs last closed open'
  RestIs true last closed open' = (last ≡ None) × (open' ≡ [])

  -- a level to which those came, and after them the photons of the open one
  pub record LevelIs (ended : Bool) (l : Level) (closed open' : History) : Type 0 where
    pub opened : RestIs ended l.open closed open'
    pub has : ClosedAre l.ring l.cells l.paired closed

-- from a level upwards: what came to one, and is in its closed bins, came to the next
abbrev pub Chain : Bool → CorrelationView → ℕ → List Level → History → Type 0
Chain ended set level [] came = ⊤
Chain ended set level (l ∷ ls) came = (closed : History) × (open' : History) × (came ≡ closed ++ open') × LevelIs set level ended l closed open' × Chain ended set (suc level) ls closed

-- the additions that made the cells of these levels
abbrev pub spent : List Level → ℕ
spent ls = sum_by (λ l. l.cells.added) ls
