-- What stands in the room of one call.
use Rattle.std.specs.Prelude.{◌≡◌, ℕ, ◌+◌, ◌<◌, ◌≤◌, List, length}
use Rattle.{lag_ring.specs.{declared.ring.Entry.Entry, Cells.Cells}, tau_cascade.specs.{declared.{scratch.Scratch.Scratch, level.Coming.Coming}, Grid.IsBeside, Opens.IsComing}}

-- bins of a list of 1192 places that come to a level, beside a grid that stands for them or has none
pub record HasCome (list : List Entry) (coming : Coming) (scratch : Scratch) : Type 0 where
  pub bins : IsComing coming coming.level list
  pub grid : IsBeside scratch.grid coming list
  pub long : length list ≡ 1192

-- What a level closed may come to the next one, and its additions are counted as steps.
pub record GoesOn (level : ℕ) (old new : Cells) (was is : ℕ) (list : List Entry) (coming : Coming) (scratch : Scratch) : Type 0 where
  pub come : HasCome list coming scratch
  pub some : 0 < coming.levels
  pub up : coming.level ≡ level + 1
  pub spent : is + old.added ≡ was + new.added

-- bins of such a list that a level closes
pub record IsClosing (closing : Coming) (list : List Entry) : Type 0 where
  pub bins : IsComing closing (closing.level + 1) list
  pub up : closing.levels ≤ closing.level + 1
  pub level : closing.level < 40
  pub long : length list ≡ 1192
