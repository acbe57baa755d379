use Rattle.std.proofs.Common.{◌≡◌, ℕ, ◌+◌, ◌-◌, ◌<◌, Bool, cond, ltb, List, [], ◌∷◌, ◌++◌, length, set, take, append_assoc, arith, rules}
use Rattle.{std.proofs.lemmas.List.{take_more_set, take-set-le, append-nil, FromFn.filter_of_map_range_with_len_more}, lag_ring.specs.declared.ring.Entry.Entry}
use Rattle.tau_cascade.specs.Grid.{bin_at, photons}
use Rattle.tau_cascade.proofs.grid.Grid.put_bins.Goals as goal

-- an entry is kept after others, or is written over
kept : (b : Bool) (list : List Entry) (end' : ℕ) (e : Entry) → end' < length list
    → take (end' + cond b 1 0) (set list end' e) ≡ take end' list ++ cond b (e ∷ []) []
kept b list end' e inside = search (rules, arith, take_more_set, take-set-le, append-nil)

pub loop-place-preserved : goal.loop-place-preserved
loop-place-preserved c =
    let place : ℕ = c.loop-place.place in
    let start : ℕ = c.args.start in
    let test : c.from-end.result ≡ cond (ltb 0 (photons (bin_at c.args.self.now place))) 1 0 = search (rules, arith) in
    let more = filter_of_map_range_with_len_more (λ e. ltb 0 (photons e)) (bin_at c.args.self.now) start (place - start) place (omega arith) in
    search (rules, arith, kept, append_assoc)

pub returns-clause-bins : goal.returns-clause-bins
returns-clause-bins c = search (rules, arith)
