-- Bins that come to a level one after the other, and those that it closes.
use Rattle.std.specs.Prelude.{◌≡◌, true, ℕ, ◌+◌, ◌-◌, ◌/◌, ◌^◌, ◌<◌, ◌≤◌, ◌==◌, ⊤, false, Option, None, Some, List, [], ◌∷◌, ◌++◌, map, take, drop, length, filter, nat_le, nat_lt, sum_by}
use Rattle.std.specs.{Prelude.if◌then◌else◌, List.{AllByRecursion, AllByRecursion-prop}, Coded.{Unit-prop, le_prop}}
use Rattle.tally_base.specs.{Settings.CorrelationView, Tally.{History, greatest_time, InOrder}, Limits.record_limit, declared.block.Block.Block, Columns.{gathered, events_in}}
use Rattle.{lag_ring.specs.{declared.ring.Entry.Entry, Ring.{Ring, IsRising}, Cells.Cells}, tau_cascade.specs.{declared.level.Level.Level, Correlation.{Given, bin, in_first, in_second, photons_of}}}
use Rattle.tau_cascade.specs.Levels.{IsBin, LevelIs, RingIs, CellsAre, Chain, PairsMore}

-- the bin so many levels up in which a bin lies
abbrev pub raised : ℕ → Entry → Entry
raised levels e = record { index = e.index / 2 ^ levels; a = e.a; b = e.b }

-- two bins of one index as one
abbrev pub both_of : Entry → Entry → Entry
both_of e f = record { index = e.index; a = e.a + f.a; b = e.b + f.b }

-- a bin and those that follow it, neighbours of one index as one bin
abbrev pub merged : Entry → List Entry → List Entry
merged e [] = e ∷ []
merged e (f ∷ fs) = if e.index == f.index then merged (both_of e f) fs else e ∷ merged f fs

-- the same of bins of which there may be none
abbrev pub merged_all : List Entry → List Entry
merged_all [] = []
merged_all (e ∷ es) = merged e es

-- the bins of a list from a place on, so many levels up, neighbours of one index as one bin
abbrev pub merged_at : ℕ → ℕ → List Entry → List Entry
merged_at start levels list = merged_all (drop start (map (raised levels) list))

-- those bins of a whole list that are not before an index
abbrev pub kept_of : ℕ → ℕ → List Entry → List Entry
kept_of before levels list = filter (λ e. nat_le before e.index) (merged_at 0 levels list)

-- bins after an open one, where there is one
abbrev pub onto : Option Entry → List Entry → List Entry
onto None es = es
onto (Some e) es = e ∷ es

-- each bin is so far before those after it, or further
abbrev pub IsSpaced : ℕ → List Entry → Type 0
IsSpaced distance [] = ⊤
IsSpaced distance (e ∷ es) = AllByRecursion (λ f. e.index + distance ≤ f.index) es × IsSpaced distance es

-- There is at most one proof of it.
pub IsSpaced-prop : (distance : ℕ) (es : List Entry) → IsProp (IsSpaced distance es)
IsSpaced-prop distance [] one other = Unit-prop one other
IsSpaced-prop distance (e ∷ es) one other = λ i. (AllByRecursion-prop (λ (f : Entry). e.index + distance ≤ f.index) (λ f. le_prop) es one.0 other.0 i, IsSpaced-prop distance es one.1 other.1 i)

-- some bins of which the last ones, from a place on, are this one together
pub record IsCut (es : List Entry) (n : ℕ) (last : Entry) : Type 0 where
  pub few : n < length es
  pub before : AllByRecursion (λ e. e.index < last.index) (take n es)
  pub here : AllByRecursion (λ e. e.index ≡ last.index) (drop n es)
  pub a : last.a ≡ sum_by (λ e. e.a) (drop n es)
  pub b : last.b ≡ sum_by (λ e. e.b) (drop n es)

-- entries stand before those of a list from a place on, so many levels down, and these stay
pub record StandBefore (levels from : ℕ) (es was new : List Entry) (start : ℕ) : Type 0 where
  pub place : start + length es ≡ from
  pub bins : map (raised levels) (drop start new) ≡ es ++ map (raised levels) (drop from was)
  pub behind : drop from new ≡ drop from was

-- how many bins are nearer than a distance to the one before them
abbrev pub near : ℕ → List Entry → ℕ
near distance [] = 0
near distance (e ∷ []) = 0
near distance (e ∷ f ∷ es) = (if nat_lt (f.index - e.index) distance then 1 else 0) + near distance (f ∷ es)

-- the bins of a stretch of a list, so many levels up
abbrev pub stretch : ℕ → ℕ → ℕ → List Entry → List Entry
stretch from count levels bins = map (raised levels) (take count (drop from bins))

-- the bin of one photon on the lowest level
abbrev pub bin_of : CorrelationView → Given → Entry
bin_of set x = record {
  index = x.0.time;
  a = (if in_first set x then 1 else 0);
  b = (if in_second set x then 1 else 0);
}

-- the photons of either group, each in a bin
abbrev pub photon_bins : CorrelationView → History → List Entry
photon_bins set h = map (bin_of set) (photons_of set h)

module _ (set : CorrelationView) (level : ℕ) where
  -- photons xs come in these bins, one after the other, none of them before what came until then
  abbrev pub Come : History → List Entry → History → Type 0
  Come came [] xs = xs ≡ []
  Come came (e ∷ es) xs = (run : History) × (rest : History) × (xs ≡ run ++ rest) × IsBin set level e run × AllByRecursion (λ x. bin level x ≤ e.index) came × Come (came ++ run) es rest

  -- photons xs are in these bins, one after the other, and each bin is after all that was closed until then
  abbrev pub Follow : History → List Entry → History → Type 0
  Follow closed [] xs = xs ≡ []
  Follow closed (e ∷ es) xs = (run : History) × (rest : History) × (xs ≡ run ++ rest) × IsBin set level e run × AllByRecursion (λ x. bin level x < e.index) closed × Follow (closed ++ run) es rest

  -- these bins of photons xs may be closed
  pub record CanShutAll (r : Ring) (cs : Cells) (es : List Entry) (closed xs : History) : Type 0 where
    pub few : length closed + length xs ≤ record_limit
    pub ring : RingIs set level r closed
    pub cells : CellsAre set level cs closed
    pub bins : Follow closed es xs

  -- photons xs may come in these bins
  pub record CanTake (l : Level) (es : List Entry) (closed open' xs : History) : Type 0 where
    pub few : length closed + length open' + length xs ≤ record_limit
    pub was : LevelIs set level false l closed open'
    pub come : Come (closed ++ open') es xs

  -- they came: those of `done` are in bins that were closed, and those of `now` in the open one
  pub record Took (l : Level) (shut : List Entry) (closed open' xs done now : History) : Type 0 where
    pub all : open' ++ xs ≡ done ++ now
    pub is : LevelIs set level false l (closed ++ done) now
    pub bins : Come closed shut done

  -- Photons came in these bins after any that they may come after, and the bins `shut` were closed.
  abbrev pub Takes : Level → Level → List Entry → List Entry → Type 0
  Takes old new es shut =
      (closed open' xs : History) → CanTake old es closed open' xs → (done : History) × (now : History) × Took new shut closed open' xs done now

  -- The open bin was closed: all that came is in closed ones, and what was in that one comes in these.
  abbrev pub Ends : Level → Level → List Entry → Type 0
  Ends old new es = (closed open' : History) → CanTake old [] closed open' [] → LevelIs set level true new (closed ++ open') [] × Come closed es open'

  -- This holds of the photons of closed bins together with those of bins that may be closed after them.
  abbrev pub HoldsOfAll : Ring → Cells → List Entry → (History → Type 0) → Type 0
  HoldsOfAll ring cells es holds = (closed xs : History) → CanShutAll ring cells es closed xs → holds (closed ++ xs)

-- these bins were closed on a level
pub record Shuts (set : CorrelationView) (level : ℕ) (old new : Level) (es : List Entry) : Type 0 where
  pub paired : PairsMore old.paired new.paired (length es)
  pub ring : HoldsOfAll set level old.ring old.cells es (RingIs set level new.ring)
  pub cells : HoldsOfAll set level old.ring old.cells es (CellsAre set level new.cells)
  pub opened : new.open ≡ old.open

-- Photons that come in some bins come in these others too.
abbrev pub ComeAlike : List Entry → List Entry → Type 0
ComeAlike es fs = (set : CorrelationView) (level : ℕ) (came xs : History) → Come set level came es xs → Come set level came fs xs

-- bins, and the same again where neighbours of one index are one bin or stay as they are
pub record AreAlike (es fs : List Entry) : Type 0 where
  pub come : ComeAlike es fs
  pub merged : merged_all fs ≡ merged_all es
  pub sorted : (rs : List Entry) → IsSpaced 0 (rs ++ es) → IsRising (rs ++ merged_all es) → IsSpaced 0 (rs ++ fs)

-- photons xs may come in these bins to a level and those above it
pub record CanCome (set : CorrelationView) (level : ℕ) (ls : List Level) (es : List Entry) (came xs : History) : Type 0 where
  pub few : length came + length xs ≤ record_limit
  pub chain : Chain false set level ls came
  pub come : Come set level came es xs

-- Photons came in these bins to a level and those above it, after any that they may come after.
abbrev pub Carries : CorrelationView → ℕ → List Level → List Level → List Entry → Type 0
Carries set level old new es = (came xs : History) → CanCome set level old es came xs → Chain false set level new (came ++ xs)

-- the events of a block may be given, after those that were
pub record CanGiveBlock (set : CorrelationView) (ls : List Level) (block : Block 1024) (h : History) : Type 0 where
  pub few : length h + length (events_in block) ≤ record_limit
  pub chain : Chain false set 0 ls (photons_of set h)
  pub order : InOrder false (greatest_time false h) (gathered block)

-- the weights of all bins together fit in a count
abbrev pub FitCounts : List Entry → Type 0
FitCounts es = (sum_by (λ e. e.a) es < 2 ^ 64) × (sum_by (λ e. e.b) es < 2 ^ 64)
