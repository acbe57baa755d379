use Rattle.std.proofs.{Common.{◌≡◌, length, refl, rules, map, take, arith}, lemmas.List.{take-map, length-take-le, length-map, take-append-drop}}
use Rattle.tau_cascade.{specs.{Bins.raised, Grid.IsGrid, Dense.bins_of}, proofs.{Passes.{spaced_take, raised-again}, Onward.{off_grid, grid_some, last_inside}}}
use Rattle.tau_cascade.proofs.grid.Grid.follow.Goals.{Joined-self-eq0, Joined-self-gt0, Joined-self-gt0-2, then-self-gt0-2, else-self-gt0-2}
use Rattle.tau_cascade.proofs.grid.Grid.follow.Goals.{then-self-eq0+then-last-gt0, else-self-eq0}
use Rattle.tau_cascade.proofs.grid.Grid.follow.Goals as goal

raised_here : (c : Joined-self-gt0) → IsGrid c.if-self-gt0.self (map (raised c.args.bins.levels) c.args.bins.list.now)
raised_here c = search (rules, arith, raised-again, off_grid)

cut_here : (c : Joined-self-gt0-2) → IsGrid c.if-self-gt0.self (map (raised c.args.bins.levels) c.args.bins.list.now)
    → IsGrid c.if-self-gt0-2.self (map (raised c.args.bins.levels) (take c.args.last.now.closed c.args.bins.list.now))
cut_here c all = rw (← take-map) (elim c.if-self-gt0-2.branch [
  | then-self-gt0-2 w ↦ rw w.self-is (w.cut.ensures _ _ (rw take-append-drop (all.on w.if-self-gt0-2.true)) c.requires.cut.0.before c.requires.cut.0.here)
  | else-self-gt0-2 w ↦ search (rules, arith, off_grid)
])

pub cut-requires-clause-inside : goal.cut-requires-clause-inside
cut-requires-clause-inside c =
    last_inside _ _ _ _ c.requires.cut.0 ((raised_here (goal.at.cut-requires-clause-inside c).Joined-self-gt0).on c.if-self-gt0-2.true)

pub lay-requires-clause-bins : goal.lay-requires-clause-bins
lay-requires-clause-bins c =
    let few = length-take-le c.args.last.now.closed c.args.bins.list.now (omega (arith, c.requires.cut.0.few, length-map c.args.bins.list.now (raised c.args.bins.levels))) in
    let long : length (bins_of c.args.bins) ≡ length c.args.bins.list.now = length-map c.args.bins.list.now (raised c.args.bins.levels) in
    (omega arith, omega (arith, few, c.requires.cut, long), c.args.bins.up, rw (← take-map) (spaced_take 0 c.args.last.now.closed _ c.args.bins.sorted))

pub lay-requires-clause-none : goal.lay-requires-clause-none
lay-requires-clause-none c =
    let at' = goal.at.lay-requires-clause-none c in
    ((cut_here at'.Joined-self-gt0-2 (raised_here at'.Joined-self-gt0)).off c.if-self-eq0.true, c.if-self-eq0.true)

closed_here : (c : Joined-self-eq0) → IsGrid c.if-self-gt0-2.self (map (raised c.args.bins.levels) (take c.args.last.now.closed c.args.bins.list.now))
    → IsGrid c.if-self-eq0.self (map (raised c.args.bins.levels) (take c.args.last.now.closed c.args.bins.list.now))
closed_here c was = elim c.if-self-eq0.branch [ then-self-eq0+then-last-gt0 w ↦ rw w.self-is w.lay.ensures | else-self-eq0 w ↦ rw w.self-is was ]

pub clear_sparse-requires : goal.clear_sparse-requires
clear_sparse-requires c =
    let at' = goal.at.clear_sparse-requires c in
    grid_some _ _ _ refl (closed_here at'.Joined-self-eq0 (cut_here at'.Joined-self-gt0-2 (raised_here at'.Joined-self-gt0)))

pub returns-clause-grid : goal.returns-clause-grid
returns-clause-grid c =
    let at' = goal.at.returns-clause-grid c in
    rw take-map (c.clear_sparse.ensures.grid _ (closed_here at'.Joined-self-eq0 (cut_here at'.Joined-self-gt0-2 (raised_here at'.Joined-self-gt0))))

pub returns-clause-dense : goal.returns-clause-dense
returns-clause-dense c =
    let at' = goal.at.returns-clause-dense c in
    rw take-map (c.clear_sparse.ensures.dense _ (c.clear_sparse.ensures.grid _ (closed_here at'.Joined-self-eq0 (cut_here at'.Joined-self-gt0-2 (raised_here at'.Joined-self-gt0)))))
