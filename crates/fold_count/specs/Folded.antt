-- What the numbers that a fold keeps stand for.
use Rattle.std.specs.Prelude.{◌≡◌, ℕ, ◌+◌, ◌-◌, ◌^◌, ◌<◌, ◌≤◌, ⊤, Bool, true, false, IsTrue, ◌&&◌, ◌==◌, nat_le, nat_lt, List, [], ◌∷◌, ◌++◌, length, map, slice_index, count_by, filter, sum, sum_by}
use Rattle.std.{specs.{Prelude.{bit_or, if◌then◌else◌}, Coded.Unit-prop, List.{list_any, AllByRecursion}}, proofs.Props.props}
use Rattle.tally_base.specs.{declared.{event.Event.Event, block.Block.Block}, Events.{is_photon, is_in}, Settings.FoldView, Tally.{History, InOrder}, Limits.{record_limit, time_limit}}
use Rattle.{tally_base.specs.Columns.{gathered, IsSorted}, lag_ring.specs.{declared.ring.Entry.Entry, Ring.{Ring, weight_where}}, fold_count.specs.FoldCounts.{is_of, is_of_any, number_of, seen_set}}

-- the bins that wait to be counted, the open one last
abbrev pub waiting : Ring → Entry → List Entry
waiting ring bin = ring.entries ++ bin ∷ []

-- how many photons bins have
abbrev pub photons_in : List Entry → ℕ
photons_in bins = sum_by (λ e. e.a) bins

-- how many photons the bins have whose tick passes a test
abbrev pub photons_where : (ℕ → Bool) → List Entry → ℕ
photons_where test bins = weight_where (λ e. e.a) test bins

-- each of these numbers is that of a group
abbrev pub AreNumbers : List ℕ → Type 0
AreNumbers groups = (k : ℕ) → k < length groups → (0 < slice_index groups k) × (slice_index groups k ≤ 64)

-- a photon of the group from a tick on
abbrev pub is_from : ℕ → ℕ → Event × ℕ → Bool
is_from group tick x = is_of group x && nat_le tick x.0.time

-- the set of the groups that have a photon from a tick on, as a number
abbrev pub met_from : List ℕ → History → ℕ → ℕ
met_from groups h tick = number_of (λ group. list_any (is_from group tick) h) groups

-- the bins, where these groups were met in each too
abbrev pub met_in : ℕ → List Entry → List Entry
met_in groups bins = map (λ e. record { index = e.index; a = e.a; b = bit_or e.b groups }) bins

-- the bins that wait to be counted, with the groups of the open one met in those before it too
abbrev pub as_met : Ring → Entry → List Entry
as_met ring bin = met_in bin.b ring.entries ++ bin ∷ []

-- how many photons those of the bins before a tick have in which this set of groups was met
abbrev pub photons_of : ℕ → ℕ → List Entry → ℕ
photons_of before s bins = sum_by (λ e. if nat_lt e.index before && (e.b == s) then e.a else 0) bins

-- in each bin the groups were met that were met in those after it
abbrev pub IsNested : List Entry → Type 0
IsNested [] = ⊤
IsNested (e ∷ es) = AllByRecursion (λ f. bit_or e.b f.b ≡ e.b) es × IsNested es

-- There is at most one proof of it.
pub IsNested-prop : (bins : List Entry) → IsProp (IsNested bins)
IsNested-prop [] one other = Unit-prop one other
IsNested-prop (e ∷ es) one other = λ i. (each one.0 other.0 i, IsNested-prop es one.1 other.1 i)
  where
    each : IsProp (AllByRecursion (λ f. bit_or e.b f.b ≡ e.b) es)
    each = hlevel props

-- what is kept has the sizes that the settings ask for, and the groups met in each bin are a set of theirs
pub record IsSound (set : FoldView) (cells : List ℕ) (ring : Ring) (bin : Entry) : Type 0 where
  pub sized : length cells ≡ 2 ^ length set.groups
  pub reach : ring.reach ≡ set.window
  pub within : length ring.entries ≤ ring.reach
  pub above : AllByRecursion (λ e. e.index < bin.index) ring.entries
  pub in_time : bin.index ≤ time_limit
  pub sets : AllByRecursion (λ e. e.b < 2 ^ length set.groups) (waiting ring bin)
  pub nested : IsNested ring.entries

-- There is at most one proof of it.
pub IsSound-prop : (set : FoldView) (cells : List ℕ) (ring : Ring) (bin : Entry) → IsProp (IsSound set cells ring bin)
IsSound-prop set cells ring bin = hlevel (props, IsNested-prop)

-- the photons of at least one of the groups
abbrev pub photons : FoldView → History → History
photons set h = filter (is_of_any set.groups) h

-- Photons before the window that ends at the open bin's tick are in the cells, and the others in the bins that wait, each of which has the groups met from its tick on.
pub record Parted (set : FoldView) (cells : List ℕ) (bins : List Entry) (tick : ℕ) (h : History) : Type 0 where
  pub counted : (s : ℕ) → s < 2 ^ length set.groups → slice_index cells s ≡ count_by (λ x. nat_lt x.0.time (tick - set.window) && (seen_set set h x.0.time == s)) h
  pub kept : (test : ℕ → Bool) → photons_where test bins ≡ count_by (λ x. nat_le (tick - set.window) x.0.time && test x.0.time) h
  pub met : AllByRecursion (λ e. e.b ≡ met_from set.groups h e.index) bins
  pub upto : AllByRecursion (λ x. x.0.time ≤ tick) h

-- an open fold with these numbers was given these events
abbrev pub Stands : FoldView → List ℕ → Ring → Entry → History → Type 0
Stands set cells ring bin h = Parted set cells (as_met ring bin) bin.index (photons set h)

-- each cell is the count of these photons
abbrev pub AreCounts : FoldView → List ℕ → History → Type 0
AreCounts set cells h = (s : ℕ) → s < 2 ^ length set.groups → slice_index cells s ≡ count_by (λ x. seen_set set h x.0.time == s) h

-- a fold that is open or closed was given events with these photons
abbrev pub Counts : Bool → FoldView → List ℕ → Ring → Entry → History → Type 0
Counts false set cells ring bin h = Parted set cells (as_met ring bin) bin.index h
Counts true set cells ring bin h = AreCounts set cells h

-- what is kept is sound, and has room for so many photons more
pub record CanTake (set : FoldView) (cells : List ℕ) (ring : Ring) (bin : Entry) (more : ℕ) : Type 0 where
  pub sound : IsSound set cells ring bin
  pub room : sum cells + photons_in (waiting ring bin) + more ≤ record_limit

-- what is kept then is sound, and has so many photons more at most
pub record Took (set : FoldView) (cells cells' : List ℕ) (ring ring' : Ring) (bin bin' : Entry) (most : ℕ) : Type 0 where
  pub sound : IsSound set cells' ring' bin'
  pub few : sum cells' + photons_in (waiting ring' bin') ≤ sum cells + photons_in (waiting ring bin) + most

-- it is sound, and has as many photons
pub record Settled (set : FoldView) (cells cells' : List ℕ) (ring ring' : Ring) (bin bin' : Entry) : Type 0 where
  pub sound : IsSound set cells' ring' bin'
  pub same : sum cells' + photons_in (waiting ring' bin') ≡ sum cells + photons_in (waiting ring bin)

-- its time is in range, and that of a photon is not before the open bin
abbrev pub IsInTime : Entry → Event → Type 0
IsInTime bin e = (e.time ≤ time_limit) × (IsTrue (is_photon e) → bin.index ≤ e.time)

-- Bins that can be counted before the open one: each has a cell for its groups, and they are nested, few and before it.
pub record AreHeld (cells : List ℕ) (ring : Ring) (bin : Entry) : Type 0 where
  pub inside : AllByRecursion (λ e. e.b < length cells) (as_met ring bin)
  pub nested : IsNested ring.entries
  pub within : length ring.entries ≤ ring.reach
  pub above : AllByRecursion (λ e. e.index < bin.index) ring.entries

-- As many cells as before have the photons more that these bins have before a tick.
pub record GainsBefore (cells cells' : List ℕ) (before : ℕ) (bins : List Entry) : Type 0 where
  pub each : (s : ℕ) → s < length cells → slice_index cells' s ≡ slice_index cells s + photons_of before s bins
  pub same : length cells' ≡ length cells

-- The events of a block, whose groups are known, come in order and none before the open bin.
pub record ComesAfter (bin : Entry) {N : ℕ} (block : Block N) : Type 0 where
  pub sorted : IsSorted block
  pub in_order : InOrder false bin.index (gathered block)
