-- How many additions a correlation of these events may make.
use Rattle.std.specs.Prelude.{◌≡◌, true, ℕ, ◌+◌, ◌*◌, ◌/◌, ◌≤◌, zero, suc, Bool, false, ◌||◌, ◌==◌, List, [], ◌∷◌, map, if◌then◌else◌}
use Rattle.{tally_base.specs.{Settings.CorrelationView, Tally.History}, lag_ring.specs.{Cells.{Cells, added_at}, Pairings.Paired}, tau_cascade.specs.Correlation.{bin, lag_count, photons_of}}

-- whether a number is in a list
abbrev pub appears : ℕ → List ℕ → Bool
appears n [] = false
appears n (m ∷ ms) = (m == n) || appears n ms

-- how many different numbers a list has
abbrev pub distinct : List ℕ → ℕ
distinct [] = 0
distinct (n ∷ ns) = (if appears n ns then 0 else 1) + distinct ns

-- how many bins of the level have photons of the list
abbrev pub occupied : ℕ → History → ℕ
occupied level h = distinct (map (bin level) h)

-- The additions that made a level's cells are at most its lags times its occupied bins, and those to one cell at most its occupied bins.
pub record IsWithinLevelWork (set : CorrelationView) (level : ℕ) (cells : Cells) (h : History) : Type 0 where
  pub all : cells.added ≤ lag_count set level * occupied level h
  pub each : (p : ℕ) → added_at cells p ≤ occupied level h

-- The lists that a level paired have together at most twice as many bins as are occupied, and once it is closed at least a quarter as many. Those of which it began a window have at most twice as many.
pub record IsPaired (closed : Bool) (paired : Paired) (bins : ℕ) : Type 0 where
  pub few : paired.lists ≤ 2 * bins
  pub windows : paired.windows ≤ 2 * bins
  pub all : closed ≡ true → bins ≤ 4 * paired.lists

-- how many lags a level has, by an even number of lags
abbrev pub lags_at : CorrelationView → ℕ → ℕ
lags_at set level = if level == 0 then set.lags else set.lags / 2

-- one addition for each lag and each occupied bin, on so many levels from one upwards
abbrev pub work_from : CorrelationView → ℕ → ℕ → History → ℕ
work_from set level zero h = 0
work_from set level (suc n) h = lags_at set level * occupied level h + work_from set (suc level) n h

-- the same on all levels
abbrev pub work : CorrelationView → History → ℕ
work set h = work_from set 0 set.levels (photons_of set h)
