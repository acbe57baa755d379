use Rattle.std.proofs.{Common.{◌≡◌, ℕ, ◌-◌, List, length, take, drop, arith, rules, length-drop}, lemmas.List.take_all}
use Rattle.lag_ring.{specs.declared.ring.Entry.Entry, proofs.Rising.rising_drop}
use Rattle.coincidence.proofs.stretch.placed.Goals as goal

whole : (n : ℕ) (es : List Entry) → take (length es - n) (drop n es) ≡ drop n es
whole n es = search (rules, arith, take_all, length-drop)

pub count_below-requires-2 : goal.count_below-requires-2
count_below-requires-2 c = search (rules, arith, whole, rising_drop)

pub returns : goal.returns
returns c = search (rules, arith, whole)
