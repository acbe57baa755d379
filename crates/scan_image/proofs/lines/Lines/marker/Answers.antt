use Rattle.std.proofs.Common.{rules, ◌≡◌, ◌∙◌, ◌<◌, true, ap, sym, cond, Some, arith, option_map, ◌≤◌, ℕ, Bool, max, List, [], ◌∷◌, ◌++◌, Option, None}
use Rattle.std.proofs.{Common.{if◌then◌else◌, ◌+◌, ◌-◌, ◌%◌, false, ◌&&◌, eqb, refl, is_none}, lemmas.{Grind.common_steps, Nat.mod_below}}
use Rattle.{std.proofs.{lemmas.List.Sums.sum_by_push, Math.{Numerals.add-one, Nat.{suc-mod, mod_self, mod-eq_of_lt}}}, tally_base.specs.Settings.image_view}
use Rattle.{tally_base.specs.Settings.ImageView, scan_image.specs.Places.{mark, Mark, greatest_time, has_named_bit, behind_last, is_line, is_stop, line_of}}
use Rattle.scan_image.specs.{Places.{lines_in, row_at, row_of}, Strips.{line_at, row_after, open_line, next_row, next_row_by}, Lines.start_or_none}
use Rattle.scan_image.{specs.declared.lines.Line.Line, proofs.Lasts.{any-passing, any-failing, last-passing, last-failing, until-passing, until-failing}}
use Rattle.scan_image.proofs.Lasts.{behind-passing, behind-failing, from-passing, from-failing}
use Rattle.scan_image.proofs.lines.Lines.marker.Goals as goal

-- one more marker, and the line and the rows
lines_in-push : (set : ImageView) (ms : List Mark) (m : Mark) (begins : Bool)
    → is_line set m ≡ begins → lines_in set (ms ++ m ∷ []) ≡ lines_in set ms + cond begins 1 0
lines_in-push set ms m begins is = sum_by_push (λ m. cond (is_line set m) 1 0) ms m ∙ ap (λ b. lines_in set ms + cond b 1 0) is

line-begins : (set : ImageView) (ms : List Mark) (m : Mark) → is_line set m ≡ true → line_of set (ms ++ m ∷ []) ≡ Some m
line-begins set ms m begins = cc (behind-passing (is_line set) ms m begins, last-passing (is_line set) ms m begins)

line-passes : (set : ImageView) (ms : List Mark) (m : Mark) (stops : Bool) → is_line set m ≡ false
    → is_stop set m ≡ stops → line_of set (ms ++ m ∷ []) ≡ cond stops None (line_of set ms)
line-passes set ms m true passes stop = cc (behind-failing (is_line set) ms m passes, any-passing (is_stop set) (behind_last (is_line set) ms) m stop)
line-passes set ms m false passes stop = search (rules, arith, behind-failing, any-failing, last-failing)

row-passes : (set : ImageView) (ms : List Mark) (m : Mark) → is_line set m ≡ false → row_of set (ms ++ m ∷ []) ≡ row_of set ms
row-passes set ms m passes = ap (row_at set.frame set) (until-failing (is_line set) ms m passes)

one-less : (n : ℕ) → n + 1 - 1 ≡ n
one-less n = omega arith

row-here : (frame : Option ℕ) (set : ImageView) (ms : List Mark) (m : Mark) (frames : Bool) → is_line set m ≡ true → has_named_bit frame m.bits ≡ frames
    → row_at frame set (ms ++ m ∷ []) ≡ cond frames (Some 0) (next_row_by frame set ms)
row-here None set ms m true begins is = cc
row-here None set ms m false begins is = cc (lines_in-push set ms m true begins, one-less (lines_in set ms))
row-here (Some frame) set ms m true begins is = search (rules, arith, any-passing, from-passing, lines_in-push)
row-here (Some frame) set ms m false begins is = grind (arith, common_steps, any-failing, from-failing)

-- A line that begins is the open one, where it has a row.
open-begins : (set : ImageView) (ms : List Mark) (m : Mark) (frames : Bool) → is_line set m ≡ true → has_named_bit set.frame m.bits ≡ frames
    → open_line set (ms ++ m ∷ []) ≡ option_map (line_at m.time) (cond frames (Some 0) (next_row set ms))
open-begins set ms m frames begins is = cc (line-begins set ms m begins, until-passing (is_line set) ms m begins, row-here set.frame set ms m frames begins is)

-- Another marker leaves the open line, or stops it.
open-passes : (set : ImageView) (ms : List Mark) (m : Mark) (stops : Bool) → is_line set m ≡ false
    → is_stop set m ≡ stops → open_line set (ms ++ m ∷ []) ≡ cond stops None (open_line set ms)
open-passes set ms m stops passes is = search (rules, arith, line-passes, row-passes)

wrapped : (row h : ℕ) (last : Bool) → row < h → eqb (row + 1) h ≡ last → (row + 1) % h ≡ cond (last && true) 0 (row + 1)
wrapped row h last below is = search (rules, arith, mod_self, mod-eq_of_lt)

-- one more, by a test in place of a division
next-mod : (n h : ℕ) → 0 < h → (n + 1) % h ≡ cond (eqb (n % h + 1) h && true) 0 (n % h + 1)
next-mod n h some = cc (add-one n, add-one (n % h), suc-mod n h, wrapped (n % h) h (eqb (n % h + 1) h) (mod_below n h some) refl)

next-begins-by : (frame : Option ℕ) (set : ImageView) (ms : List Mark) (m : Mark) (frames : Bool) → 0 < set.height → is_line set m ≡ true → has_named_bit frame m.bits ≡ frames → next_row_by frame set (ms ++ m ∷ []) ≡ option_map (λ row. cond (eqb (row + 1) set.height && is_none frame) 0 (row + 1)) (cond frames (Some 0) (next_row_by frame set ms))
next-begins-by None set ms m true some begins is = cc
next-begins-by None set ms m false some begins is = cc (lines_in-push set ms m true begins, next-mod (lines_in set ms) set.height some)
next-begins-by (Some frame) set ms m true some begins is = search (rules, arith, any-passing, from-passing, lines_in-push)
next-begins-by (Some frame) set ms m false some begins is = grind (arith, common_steps, any-failing, from-failing)

-- After a line comes the next row.
next-begins : (set : ImageView) (ms : List Mark) (m : Mark) (frames : Bool) → 0 < set.height → is_line set m ≡ true → has_named_bit set.frame m.bits ≡ frames
    → next_row set (ms ++ m ∷ []) ≡ option_map (row_after set) (cond frames (Some 0) (next_row set ms))
next-begins set ms m frames some begins is = next-begins-by set.frame set ms m frames some begins is

next-passes-by : (frame : Option ℕ) (set : ImageView) (ms : List Mark) (m : Mark) (frames : Bool) → is_line set m ≡ false → has_named_bit frame m.bits ≡ frames
    → next_row_by frame set (ms ++ m ∷ []) ≡ cond frames (Some 0) (next_row_by frame set ms)
next-passes-by None set ms m true passes is = cc
next-passes-by None set ms m false passes is = ap (λ n. Some (n % set.height)) (let more = lines_in-push set ms m false passes in omega (arith, more))
next-passes-by (Some frame) set ms m true passes is = search (rules, arith, any-passing, from-passing, lines_in-push)
next-passes-by (Some frame) set ms m false passes is = grind (arith, common_steps, any-failing, from-failing)

-- Another marker leaves the next row, or begins a frame.
next-passes : (set : ImageView) (ms : List Mark) (m : Mark) (frames : Bool) → is_line set m ≡ false
    → has_named_bit set.frame m.bits ≡ frames → next_row set (ms ++ m ∷ []) ≡ cond frames (Some 0) (next_row set ms)
next-passes set ms m frames passes is = next-passes-by set.frame set ms m frames passes is

-- when the open line began, with one marker more

-- a line that begins here begins no later
start-begins : (time : ℕ) (row : Option ℕ) (line : Option Line) → line ≡ option_map (line_at time) row → start_or_none line ≤ time
start-begins time row line is = search (rules, arith)

-- a stop begins none
start-stopped : (stops : Bool) (old new : Option Line) → new ≡ (if stops then None else old) → start_or_none new ≤ start_or_none old
start-stopped stops old new is = search (rules, arith)

greatest-push : (ms : List Mark) (m : Mark) → greatest_time (ms ++ m ∷ []) ≡ max (greatest_time ms) m.time
greatest-push ms m = grind (arith, common_steps)

pub returns-then-has_bit-clause-follows : goal.returns-then-has_bit-clause-follows
returns-then-has_bit-clause-follows c = λ ms saw.
    let set = image_view c.args.self.now.set in
    let m = mark c.args.bits c.args.time in
    let some : 0 < set.height = search rules in
    let begins : is_line set m ≡ true = sym c.has_bit.ensures ∙ c.if-has_bit.true in
    let row = c.row_here-row.ensures ∙ ap (cond c.has_named_bit.result (Some 0)) saw.next in
    record {
      line = c.begun_at-self.ensures
          ∙ (ap (option_map (line_at c.args.time)) row ∙ sym (open-begins set ms m c.has_named_bit.result begins (sym c.has_named_bit.ensures)));
      next = c.row_behind-self.ensures
          ∙ (ap (option_map (row_after set)) row ∙ sym (next-begins set ms m c.has_named_bit.result some begins (sym c.has_named_bit.ensures)));
      given = grind (arith, common_steps, saw.given);
      begun = omega (arith, greatest-push ms m, start-begins c.args.time _ _ c.begun_at-self.ensures);
    }

pub returns-else-has_bit-clause-follows : goal.returns-else-has_bit-clause-follows
returns-else-has_bit-clause-follows c = grind (arith, common_steps, open-passes, next-passes, greatest-push, start-stopped)

pub returns-then-has_bit-clause-begun : goal.returns-then-has_bit-clause-begun
returns-then-has_bit-clause-begun c = omega (arith, start-begins c.args.time _ _ c.begun_at-self.ensures)

pub returns-else-has_bit-clause-begun : goal.returns-else-has_bit-clause-begun
returns-else-has_bit-clause-begun c = omega (arith, start-stopped c.has_named_bit-stops.result _ _ c.unless_stopped-self.ensures)
