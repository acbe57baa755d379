-- Elements that came in the order of their bins: those of closed bins, and after them those of one that is open.
use Rattle.std.specs.{Prelude.{◌≡◌, ℕ, ◌<◌, ◌≤◌, Bool, Option, None, Some, List, [], length, slice_index}, List.AllByRecursion}
use Rattle.lag_ring.specs.{Cells.Cells, Ring.{Ring, IsRising, Keeps}}

-- the open bin has the elements that are not in closed ones, and comes after those
abbrev pub IsOpen : {B X : Type 0} → (B → List X → Type 0) → (B → ℕ) → (X → ℕ) → Option B → List X → List X → Type 0
IsOpen is index at None closed rest = (closed ≡ []) × (rest ≡ [])
IsOpen is index at (Some bin) closed rest = is bin rest × AllByRecursion (λ x. at x < index bin) closed

module _ {X : Type 0} (first second : X → Bool) (at : X → ℕ) where
  -- the ring keeps the closed bins that are in reach, which is so far
  pub record KeepsReach (most : ℕ) (r : Ring) (closed : List X) : Type 0 where
    pub reach : r.reach ≡ most
    pub rising : IsRising r.entries
    pub keeps : Keeps first second at r closed

-- so many cells have the counts that they are for, by so many additions at most
pub record CellsCount (n : ℕ) (number : ℕ → ℕ) (most : ℕ) (cells : Cells) : Type 0 where
  pub count : length cells.cells ≡ n
  pub pairs : (c : ℕ) → c < n → slice_index cells.cells c ≡ number c
  pub work : cells.added ≤ most
