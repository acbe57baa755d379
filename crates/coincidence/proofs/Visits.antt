-- One entry more in the loops over a ring.
use Rattle.{tally_base.specs.{Settings.{CoincidenceView, coincidence_cells}, Tally.History, Limits.record_limit}, lag_ring.specs.declared.window.Side.Side}
use Rattle.lag_ring.specs.{declared.{window.Side.TheVariants.{First, Second}, ring.Entry.Entry}, Bytes.weight_of, Cells.Cells, Ring.Ring}
use Rattle.{lag_ring.proofs.{Rising.all_weaker, Lists.{all_back, all_join, of_some}}, coincidence.specs.{Pairs.is_in_cell, Pairing.{shifted_by, other_side}}}
use Rattle.coincidence.specs.Pairing.{lag_pair, pairs_at, joined, BinIs, BinsAre, Pending, Gathered, CanPut, HasRoom, Counts}
use Rattle.{coincidence.specs.{declared.pairing.{Pairing.Pairing, Bin.Bin}, StandsFor.HasPhotons}, std.proofs.Common.{◌≡◌, ℕ, ◌+◌, ◌*◌, ◌/◌, ◌<◌, ◌≤◌, eqb}}
use Rattle.std.proofs.Common.{cond, List, [], ◌∷◌, refl, arith, rules, ◌≢◌, ◌∙◌, Some, Option, ◌++◌, length, sym, length-append, append_assoc, append-nil, ap}
use Rattle.std.proofs.{Common.{Bool, true, false}, lemmas.{Grind.common_steps, List.Sums.{sum_by-cons, sum_by-append}}, Math.Nat.mul-le-mul_left}
use Rattle.std.specs.List.{AllByRecursion}

-- whether the cell counts the pairs of an earlier tick and a later one
abbrev pub counts_ticks : Side → CoincidenceView → ℕ → ℕ → ℕ → Bool
counts_ticks First set c earlier later = is_in_cell set c earlier later
counts_ticks Second set c earlier later = is_in_cell set c later earlier

-- the pairs with an entry that is before
pub pair_before : (d : Side) (set : CoincidenceView) (c : ℕ) (l e : Entry) → e.index < l.index
    → lag_pair d set c 0 (set.reach + 1) l e ≡ cond (counts_ticks d set c e.index l.index) (weight_of d e) 0 * weight_of (other_side d) l
pair_before First set c l e before = search (rules, arith)
pair_before Second set c l e before = search (rules, arith)

-- a difference in reach has a cell
pub shifted_inside : (d : Side) (reach apart width : ℕ) → 0 < width → apart ≤ reach → shifted_by d reach apart / width < 2 * reach / width + 1
shifted_inside d reach apart width some near = search (rules, arith)

-- the same by numbers that are the same
pub room_as : (set : CoincidenceView) (cells : Cells) (f g : ℕ → ℕ) → HasRoom set cells f → ((c : ℕ) → g c ≡ f c) → HasRoom set cells g
room_as set cells f g room same = record { sized = room.sized; fits = λ c inside. omega (arith, room.fits c inside, same c) }

pub counts_as : (set : CoincidenceView) (old new : Cells) (before now : ℕ) (f g : ℕ → ℕ) (n k : ℕ) → Counts set old new before now f n → ((c : ℕ) → f c ≡ g c) → n ≤ k → Counts set old new before now g k
counts_as set old new before now f g n k is same upto = search (rules, arith, same)

-- what is counted after what was counted
module _ (set : CoincidenceView) (old mid : Cells) (before then' : ℕ) (f g h : ℕ → ℕ) (n : ℕ) (one : Counts set old mid before then' f n) where
  pub counts_on : (new : Cells) (now m k : ℕ) → Counts set mid new then' now g m → ((c : ℕ) → c < coincidence_cells set → h c ≡ f c + g c) → n + m ≤ k → Counts set old new before now h k
  counts_on new now m k two is upto = search (rules, arith)

  -- and the room that is left
  pub room_left : HasRoom set old h → ((c : ℕ) → c < coincidence_cells set → f c + g c ≤ h c) → HasRoom set mid g
  room_left room is = search (rules, arith)

pub one_fits : (x p most k : ℕ) → x + cond (eqb k k) p 0 ≤ most → x + p ≤ most
one_fits x p most k fits = grind (arith, common_steps, fits)

-- no photons of the later entry, no pairs
pub no_pairs : (d : Side) (set : CoincidenceView) (c : ℕ) (l : Entry) → weight_of (other_side d) l ≡ 0 → (es : List Entry) → pairs_at d set c l es ≡ 0
no_pairs d set c l none [] = refl
no_pairs d set c l none (e ∷ es) = search (rules, arith, sum_by-cons, no_pairs d set c l none es)

-- The additions of a table are within its work.

pending_work : (set : CoincidenceView) (r : Ring) (counts : Cells) (came : History) → Pending set r counts [] came → counts.added ≤ (2 * set.reach + 1) * length came
pending_work set r counts came is = search (rules, arith, length-append, mul-le-mul_left)

pub work_within : (closed : Bool) (set : CoincidenceView) (p : Pairing) (came : History)
    → HasPhotons closed set p came → p.cells.added ≤ (2 * set.reach + 1) * length came
work_within true set p came is = pending_work set _ _ came is.pending
work_within false set p came is = let shut = pending_work set _ _ is.shut is.pending in search (rules, arith, length-append, mul-le-mul_left)

-- What photons that come do to the bins.

module _ (set : CoincidenceView) where
  -- two runs of photons of one tick
  joined_is : (bin more : Bin) (xs ys : History) → BinIs set bin xs → BinIs set more ys
      → bin.weights.index ≡ more.weights.index → BinIs set (joined bin more) (xs ++ ys)
  joined_is bin more xs ys left right same = record {
    weighs = record {
      some = omega (arith, length-append xs ys, left.weighs.some);
      here = all_join (λ x. x.0.time ≡ bin.weights.index) xs ys left.weighs.here (rw same right.weighs.here);
      a = rw (left.weighs.a, right.weighs.a) (sym (sum_by-append _ xs ys));
      b = rw (left.weighs.b, right.weighs.b) (sym (sum_by-append _ xs ys));
    };
    both = rw (left.both, right.both) (sym (sum_by-append _ xs ys));
  }

  -- photons of another tick come after a bin and those before it
  behind_bin : (bin new : Bin) (closed open' : History) → BinIs set bin open' → AllByRecursion (λ x. x.0.time < bin.weights.index) closed
      → AllByRecursion (λ x. x.0.time ≤ new.weights.index) (closed ++ open') → bin.weights.index ≢ new.weights.index
      → AllByRecursion (λ x. x.0.time < new.weights.index) (closed ++ open')
  behind_bin bin new closed open' is before all other =
      let back = all_back (λ x. x.0.time ≤ new.weights.index) closed open' all in
      let upto : bin.weights.index ≤ new.weights.index =
      of_some (λ x. x.0.time) bin.weights.index (λ m. m ≤ new.weights.index) open' is.weighs.some is.weighs.here back in
      grind (arith, common_steps, all_join, all_weaker)

  -- a bin more after the others
  bins_push : (bins : List Bin) (bin : Bin) (closed xs ys : History) → BinsAre set bins closed xs → BinIs set bin ys → AllByRecursion (λ x. x.0.time < bin.weights.index) (closed ++ xs) → BinsAre set (bins ++ bin ∷ []) closed (xs ++ ys)
  bins_push [] bin closed xs ys are is after = (ys, [], rw are (sym (append-nil ys)), is, (rw (are, append-nil closed) at after), refl)
  bins_push (b ∷ bins) bin closed xs ys are is after = (
    are.0,
    are.1 ++ ys,
    rw are.2 (append_assoc are.0 are.1 ys),
    are.3,
    are.4,
    bins_push bins bin (closed ++ are.0) are.1 ys are.5 is (rw (append_assoc closed are.0 are.1, ← are.2) after),
  )

  -- where no bin is to be closed, all photons are in closed bins
  pub none_left : (r : Ring) (counts : Cells) (came : History) (is : Pending set r counts [] came) → is.closed ≡ came
  none_left r counts came is = search (rules, append-nil)

  module _ (r : Ring) (counts : Cells) (bins : List Bin) (came : History) where
    -- what is to be closed is closed
    pub close_on : (open' : Option Bin) (r' : Ring) (counts' : Cells) (bins' : List Bin) (is : Gathered set open' r counts bins came)
        → Pending set r' counts' bins' is.shut → Gathered set open' r' counts' bins' came
    close_on open' r' counts' bins' is now = record { shut = is.shut; rest = is.rest; parts = is.parts; pending = now; opened = is.opened }

    -- the open bin is to be closed
    pub shuts : (bin : Bin) → Gathered set (Some bin) r counts bins came → length came ≤ record_limit → Pending set r counts (bins ++ bin ∷ []) came
    shuts bin is few =
        let was = is.pending in
        record {
          closed = was.closed;
          late = was.late ++ is.rest;
          parts = is.parts ∙ ap (λ ys. ys ++ is.rest) was.parts ∙ append_assoc was.closed was.late is.rest;
          few = few;
          are = bins_push bins bin was.closed was.late is.rest was.are is.opened.0 (rw was.parts at is.opened.1);
          ring = was.ring;
          cells = was.cells;
        }

    -- photons of its own tick join it, and those of another come after all that came
    module _ (bin new : Bin) (xs : History) (can : CanPut set (Gathered set (Some bin) r counts bins) new came xs) where
      pub joins : bin.weights.index ≡ new.weights.index → Gathered set (Some (joined bin new)) r counts bins (came ++ xs)
      joins same =
          let was = can.was in
          record { shut = was.shut; rest = was.rest ++ xs; parts = rw was.parts (append_assoc was.shut was.rest xs); pending = was.pending; opened = (joined_is bin new was.rest xs was.opened.0 can.is same, was.opened.1) }

      pub moves : bin.weights.index ≢ new.weights.index → Gathered set (Some new) r counts (bins ++ bin ∷ []) (came ++ xs)
      moves other =
          let was = can.was in
          let behind = behind_bin bin new was.shut was.rest was.opened.0 was.opened.1 (rw was.parts at can.after) other in
          record { shut = came; rest = xs; parts = refl; pending = shuts bin was (omega (arith, can.few)); opened = (can.is, rw was.parts behind) }
