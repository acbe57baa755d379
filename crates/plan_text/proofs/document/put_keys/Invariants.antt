use Rattle.std.proofs.{Common.{◌≡◌, ◌≤◌, ◌+◌, ◌++◌, map, filter, take, length}, Math.Bool.beq}
use Rattle.plan_text.proofs.document.put_keys.Given as goal

abbrev pub invariant-lists : goal.invariant-lists
invariant-lists l = record {
  few : length l.keys.items ≤ length l.fn.keys.items + length l.own + l.key-index;
  so_far : map (λ key. key.now) l.keys.items
      ≡ map (λ key. key.now) l.fn.keys.items
      ++ (map (λ key. key.now) l.own ++ map (λ list. list.0.now) (filter (λ list. beq list.2 l.added) (take l.key-index l.lists)));
}
