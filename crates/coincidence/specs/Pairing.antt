-- What the bins and cells of a table of coincidences stand for: photons that came in order, and how far they are paired.
use Rattle.std.specs.Prelude.{◌≡◌, ℕ, ◌+◌, ◌-◌, ◌*◌, ◌/◌, ◌^◌, ◌<◌, ◌≤◌, ◌&&◌, ◌==◌, nat_lt, nat_le, Option, None, Some, List, [], ◌∷◌, ◌++◌, filter, length, slice_index, sum_by, count_by}
use Rattle.std.specs.{Prelude.if◌then◌else◌, List.AllByRecursion}
use Rattle.{tally_base.specs.{Settings.{CoincidenceView, coincidence_cells}, Tally.History, Limits.record_limit}, lag_ring.specs.declared.{ring.Entry.Entry, window.Side.{Side, TheVariants.First}}}
use Rattle.lag_ring.specs.{declared.window.Side.TheVariants.Second, Cells.{Cells, Spends}, Ring.{Ring, Weighs}, Bytes.weight_of, Binned.{IsOpen, KeepsReach, CellsCount}}
use Rattle.coincidence.specs.{declared.pairing.{Bin.Bin, Pairing.Pairing}, Pairs.{in_first, in_second, coincidences}}

-- A direction is told by the side of the earlier photon of a pair: the difference is positive where it is of the first group.

-- the side of the later photon
abbrev pub other_side : Side → Side
other_side First = Second
other_side Second = First

-- the difference of two ticks that are so far apart, with the reach added
abbrev pub shifted_by : Side → ℕ → ℕ → ℕ
shifted_by First reach apart = reach + apart
shifted_by Second reach apart = reach - apart

-- the pairs of an earlier entry's photons with a later one's that the cell counts, where they are so many ticks apart as one of so many lags from one on
abbrev pub lag_pair : Side → CoincidenceView → ℕ → ℕ → ℕ → Entry → Entry → ℕ
lag_pair direction set c from count later earlier =
    if (nat_le from (later.index - earlier.index) && nat_lt (later.index - earlier.index) (from + count)) && shifted_by direction set.reach (later.index - earlier.index) / set.width == c
    then weight_of direction earlier * weight_of (other_side direction) later else 0

-- the pairs with all entries of a list that are in reach, where these are before the later one
abbrev pub pairs_at : Side → CoincidenceView → ℕ → Entry → List Entry → ℕ
pairs_at direction set c later es = sum_by (lag_pair direction set c 0 (set.reach + 1) later) es

-- the same in both directions
abbrev pub pairs_with : CoincidenceView → ℕ → Entry → List Entry → ℕ
pairs_with set c later es = pairs_at First set c later es + pairs_at Second set c later es

-- those entries that a photon after the later one's tick may reach
abbrev pub kept_for : ℕ → Entry → List Entry → List Entry
kept_for reach later es = filter (λ e. nat_le (later.index - (reach - 1)) e.index) es

-- the pairs with all of a list, and those inside the later one's bin
abbrev pub bin_pairs : CoincidenceView → ℕ → Bin → List Entry → ℕ
bin_pairs set c bin es =
    pairs_with set c bin.weights es
    + (if set.reach / set.width == c then bin.weights.a * bin.weights.b - bin.both else 0)

-- the photons of two bins of one tick
abbrev pub joined : Bin → Bin → Bin
joined bin more = record {
  weights = record { index = bin.weights.index; a = bin.weights.a + more.weights.a; b = bin.weights.b + more.weights.b };
  both = bin.both + more.both;
}

-- each difference has a cell, which has room for so many pairs more
pub record HasRoom (set : CoincidenceView) (cells : Cells) (more : ℕ → ℕ) : Type 0 where
  pub sized : length cells.cells ≡ coincidence_cells set
  pub fits : (c : ℕ) → c < coincidence_cells set → slice_index cells.cells c + more c ≤ 2 ^ 80

-- each cell counts so many pairs more, by so many additions at most
pub record Counts (set : CoincidenceView) (old new : Cells) (before now : ℕ) (more : ℕ → ℕ) (most : ℕ) : Type 0 where
  pub cells : (c : ℕ) → c < coincidence_cells set → slice_index new.cells c ≡ slice_index old.cells c + more c
  pub spends : Spends old new before now most

-- as many steps were taken as additions made
abbrev pub Pays : Pairing → Pairing → ℕ → ℕ → Type 0
Pays old new before now = now + old.cells.added ≡ before + new.cells.added

-- the bin that is closed, where one is, as a list
abbrev pub closed_bin : Option Bin → List Bin
closed_bin None = []
closed_bin (Some bin) = bin ∷ []

module _ (set : CoincidenceView) where
  -- the bin has these photons, of which there is one at least
  pub record BinIs (bin : Bin) (xs : History) : Type 0 where
    pub weighs : Weighs (in_first set) (in_second set) (λ x. x.0.time) bin.weights xs
    pub both : bin.both ≡ count_by (λ x. in_first set x && in_second set x) xs

  abbrev pub OpenIs : Option Bin → History → History → Type 0
  OpenIs bin closed open' = IsOpen BinIs (λ b. b.weights.index) (λ x. x.0.time) bin closed open'

  -- the ring keeps the closed bins that are in reach
  abbrev pub RingIs : Ring → History → Type 0
  RingIs ring closed = KeepsReach (in_first set) (in_second set) (λ x. x.0.time) set.reach ring closed

  -- the cells count the pairs of photons in closed bins
  abbrev pub CellsAre : Cells → History → Type 0
  CellsAre cells closed = CellsCount (coincidence_cells set) (λ c. coincidences set c closed) ((2 * set.reach + 1) * length closed) cells

  -- the bins have these photons, one bin after the other, and each is after those that were closed before it
  abbrev pub BinsAre : List Bin → History → History → Type 0
  BinsAre [] closed xs = xs ≡ []
  BinsAre (bin ∷ bins) closed xs = (here : History) × (rest : History) × (xs ≡ here ++ rest) × BinIs bin here × AllByRecursion (λ x. x.0.time < bin.weights.index) closed × BinsAre bins (closed ++ here) rest

  -- these photons came: those of closed bins, and after them those of bins that are to be closed
  pub record Pending (r : Ring) (counts : Cells) (bins : List Bin) (came : History) : Type 0 where
    pub closed : History
    pub late : History
    pub parts : came ≡ closed ++ late
    pub few : length came ≤ record_limit
    pub are : BinsAre bins closed late
    pub ring : RingIs r closed
    pub cells : CellsAre counts closed

  -- these photons came, and after them those of the open bin
  pub record Gathered (bin : Option Bin) (ring : Ring) (cells : Cells) (bins : List Bin) (came : History) : Type 0 where
    pub shut : History
    pub rest : History
    pub parts : came ≡ shut ++ rest
    pub pending : Pending ring cells bins shut
    pub opened : OpenIs bin shut rest

  -- the photons that came, in their order
  abbrev pub Came : Pairing → History → Type 0
  Came p came = Gathered p.open p.ring p.cells [] came

  -- all photons that came are in closed bins
  pub record PairingDone (p : Pairing) (came : History) : Type 0 where
    pub shut : p.open ≡ None
    pub pending : Pending p.ring p.cells [] came

  -- photons of one tick may come after those that came
  pub record CanPut (Were : History → Type 0) (bin : Bin) (came xs : History) : Type 0 where
    pub few : length came + length xs ≤ record_limit
    pub was : Were came
    pub is : BinIs bin xs
    pub after : AllByRecursion (λ x. x.0.time ≤ bin.weights.index) came

  -- the open bin may be closed
  pub record CanEnd (p : Pairing) (came : History) : Type 0 where
    pub few : length came ≤ record_limit
    pub was : Came p came

  -- the bins are the first of those that are to be closed
  abbrev pub MayClose : Pairing → List Bin → Type 0
  MayClose p bins = ∥ ((rest : List Bin) × (came : History) × Pending p.ring p.cells (bins ++ rest) came) ∥₁

  -- They were, with as many steps as additions.
  pub record Closes (old new : Pairing) (bins : List Bin) (before now : ℕ) : Type 0 where
    pub follows : (rest : List Bin) (came : History) → Pending old.ring old.cells (bins ++ rest) came → Pending new.ring new.cells rest came
    pub steps : Pays old new before now

-- photons of one tick may come after some that came
abbrev pub MayJoin : Option Bin → Bin → Type 0
MayJoin waiting bin = ∥ ((set : CoincidenceView) × (ring : Ring) × (cells : Cells) × (bins : List Bin) × (came : History) × (xs : History)
    × CanPut set (Gathered set waiting ring cells bins) bin came xs) ∥₁

-- Where photons of one tick may come, they came then: one bin is open, and another may be closed.
abbrev pub Joins : Option Bin → Bin → Option Bin → Bin → Type 0
Joins waiting bin closed now = (set : CoincidenceView) (ring : Ring) (cells : Cells) (bins : List Bin) (came xs : History) → CanPut set (Gathered set waiting ring cells bins) bin came xs
    → Gathered set (Some now) ring cells (bins ++ closed_bin closed) (came ++ xs)

-- The same, where no closed bin waits to be paired.
abbrev pub Puts : CoincidenceView → Option Bin → Option Bin → Pairing → Pairing → Bin → Type 0
Puts set waiting now old new bin = (came xs : History) → CanPut set (Gathered set waiting old.ring old.cells []) bin came xs → Gathered set now new.ring new.cells [] (came ++ xs)
