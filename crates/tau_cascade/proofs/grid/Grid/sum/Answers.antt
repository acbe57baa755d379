use Rattle.std.proofs.Common.{◌≡◌, ◌∙◌, ℕ, ◌+◌, ◌-◌, ◌*◌, ◌/◌, ◌<◌, ◌≤◌, ◌&&◌, leb, ltb, true, eqb, cond, List, ◌++◌, length, get_or, map, take, drop, sym}
use Rattle.std.proofs.{Common.{arith, rules}, lemmas.{Bool.Decides.nat_tests, List.{places, get_or_append_left, get_or-append_right, get_or-take, get_or-drop}}}
use Rattle.std.{proofs.lemmas.List.{length-take-le, take-append-drop, take-map, Sums.{sum_by-append, sum_by-le-sum_by}}, specs.List.{sum_by, range_with_len}}
use Rattle.lag_ring.{specs.{declared.{ring.Entry.Entry, window.Side.TheVariants.{First, Second}}, Bytes.{weight_of, weight_at}}, proofs.Sums.sum_by-agree}
use Rattle.{lag_ring.proofs.Sums.{sum_by-same, sum_by-zero, window-before, weight_at-le}, tau_cascade.proofs.{Places.mid_put, Close.paired-all}}
use Rattle.tau_cascade.{proofs.{Passes.spaced_back, Dots.{range_agree, by_bins}}, specs.{declared.grid.Grid.Grid, Levels.weight_before, Dense.paired}}
use Rattle.tau_cascade.specs.{Bins.{raised, IsSpaced}, Grid.{photons, Stands}}
use borrow.Rule.Slice.PartMut.{put_mid, post_of, same_len_mid, mid_len}
use Rattle.tau_cascade.proofs.grid.Grid.sum.Goals as goal

-- the bins before a place of a list, and those from it on
split : (levels start : ℕ) (list : List Entry) → map (raised levels) (take start list) ++ drop start (map (raised levels) list) ≡ map (raised levels) list
split levels start list = rw (← take-map (raised levels) start list) (take-append-drop start (map (raised levels) list))

-- a window gets the weights of a grid
module _ (g : Grid) (es : List Entry) (stands : Stands g es) (window part : List ℕ) (sizes : (length window ≡ 8640) × (length g.firsts ≡ 4096))
    (is : part ≡ take g.len g.firsts) (zeros : (p : ℕ) → p < 8640 → get_or window p 0 ≡ 0) where
  abbrev Inside : Entry → Type 0
  Inside e = (g.base ≤ e.index) × (e.index < g.base + g.len)

  none : (p : ℕ) → ((i : ℕ) → i < g.len → 192 + i ≡ p → 1 ≤ 0) → weight_at First 192 g.base p es ≡ 0
  none p away =
      sum_by-zero Inside (λ (e : Entry). cond (eqb (e.index + 192) (g.base + p)) e.a 0) es stands.within
      (λ e at. grind (arith, nat_tests, away (e.index - g.base)))

  abbrev laid : List ℕ
  laid = put_mid 192 (192 + g.len - 192) window part

  long : length part ≡ g.len
  long = rw is (length-take-le g.len g.firsts (omega (arith, sizes, stands.few)))

  inside : (p : ℕ) → 192 ≤ p → p < 192 + g.len → get_or part (p - 192) 0 ≡ weight_at First 192 g.base p es
  inside p from upto = rw is (search (rules, arith, places, stands.firsts, stands.few, sum_by-same))

  place : (p : ℕ) → p < 8640 → get_or laid p 0 ≡ weight_at First 192 g.base p es
  place p upto = mid_put window part 192 g.len p (omega (arith, sizes, stands.few)) long ∙ grind (arith, nat_tests, inside p, none p, zeros p)

  whole : length (take (192 + g.len) laid) ≡ 192 + g.len
  whole =
      let mid = mid_len 192 (192 + g.len) window (omega (arith, sizes, stands.few)) in
      let same = same_len_mid 192 (192 + g.len - 192) window part (omega (arith, long, mid)) in
      length-take-le (192 + g.len) laid (omega (arith, same, sizes, stands.few))

  front_weights : (p : ℕ) → p < 192 + g.len → get_or (take (192 + g.len) laid) p 0 ≡ weight_at First 192 g.base p es
  front_weights p fits = get_or-take (192 + g.len) laid p 0 fits ∙ place p (omega (arith, stands.few))

  -- of fewer bins than are too many, and those before them
  room : (front : List Entry) → sum_by (weight_of First) front < 32768 → (p : ℕ) → p < length (take (192 + g.len) laid)
      → get_or (take (192 + g.len) laid) p 0 + weight_at First 192 g.base p front < 65536
  room front few p fits =
      omega (arith, front_weights p (omega (arith, whole)), weight_at-le, sum_by-le-sum_by (weight_of First) photons es (λ e. omega arith), stands.total)

  -- and of the bins before them, where those were added
  module _ (front all : List Entry) (parts : front ++ es ≡ all) (new : List ℕ) (count : length new ≡ length (take (192 + g.len) laid))
      (added : (p : ℕ) → p < length (take (192 + g.len) laid)
      → get_or new p 0 ≡ get_or (take (192 + g.len) laid) p 0 + weight_at First 192 g.base p front) where
    size : length new ≡ 192 + g.len
    size = count ∙ whole

    all_weights : (p : ℕ) → p < length new → get_or new p 0 ≡ weight_at First 192 g.base p all
    all_weights p fits = search (rules, arith, sum_by-append, front_weights, size)

    abbrev full : List ℕ
    full = new ++ post_of 0 (192 + g.len) laid

    clear : (p : ℕ) → 192 + g.len ≤ p → p < 8640 → get_or full p 0 ≡ 0
    clear p from upto = search (rules, arith, get_or-append_right, laid, size, get_or-drop, place p upto ∙ none p (λ i inside at. omega arith))

    pairs : (rows k : ℕ) → g.len ≤ 16 * rows → 16 * rows ≤ 4096 → 0 < k → k ≤ 192 → IsSpaced 0 all
        → sum_by (λ q. get_or full (192 - k + q) 0 * get_or g.seconds q 0) (range_with_len 0 (16 * rows)) ≡ paired k front es
    pairs rows k enough few some upto spaced =
        range_agree _ (λ q. get_or full (192 - k + (g.base + q - g.base)) 0 * weight_at Second 0 g.base q es) (16 * rows)
        (λ q inside. search (rules, arith, stands.seconds))
        ∙ by_bins (λ i. get_or full (192 - k + (i - g.base)) 0) Second g.base 0 (16 * rows) es
        ∙ sum_by-agree Inside _ (λ e. weight_before k e.index all * e.b) es stands.within
        (λ e at.
        let near : (leb (g.base + 0) e.index && ltb e.index (g.base + 0 + 16 * rows)) ≡ true = grind (arith, nat_tests, at, enough) in
        let place : 192 - k + (e.index - g.base) ≡ e.index - g.base + (192 - k) = omega arith in
        rw (near, place) (search (rules, arith, get_or_append_left, window-before First new g.base 192 all all_weights k e.index, size)))
        ∙ sym (paired-all k all front es some parts (spaced_back 0 front es (rw parts spaced)))

pub put_firsts-requires-clause-fit : goal.put_firsts-requires-clause-fit
put_firsts-requires-clause-fit c =
    room c.args.self.now _ (c.requires.0.on c.requires.1) c.args.window.now.places _ (search (rules, arith), search (rules, arith))
    c.copy_from_slice.ensures.after c.args.window.now.empty (map (raised c.args.bins.levels) (take c.args.bins.start c.args.bins.list.now))
    (rw (← take-map) c.requires.2)

pub clear_window-requires-clause-behind : goal.clear_window-requires-clause-behind
clear_window-requires-clause-behind c = λ p from upto.
    clear c.args.self.now _ (c.requires.0.on c.requires.1) c.args.window.now.places _ (search (rules, arith), search (rules, arith))
    c.copy_from_slice.ensures.after c.args.window.now.empty _ _ (split c.args.bins.levels c.args.bins.start c.args.bins.list.now) _ c.put_firsts.ensures.same
    c.put_firsts.ensures.have p (omega (arith, from, c.requires.1)) upto

pub returns-clause-sums : goal.returns-clause-sums
returns-clause-sums c = λ p inside.
    let on = c.requires.0.on c.requires.1 in
    let found = pairs c.args.self.now _ on c.args.window.now.places _ (search (rules, arith), search (rules, arith)) c.copy_from_slice.ensures.after c.args.window.now.empty
    _ _ (split c.args.bins.levels c.args.bins.start c.args.bins.list.now) _ c.put_firsts.ensures.same c.put_firsts.ensures.have ((c.args.self.now.len + 16 - 1) / 16)
    (p + c.args.range.skipped + 1) (omega arith) (omega (arith, on.few)) (omega arith) (omega (arith, inside, c.args.range.within)) c.args.bins.sorted in
    rw (take-map (raised c.args.bins.levels) c.args.bins.start c.args.bins.list.now) (c.put_dots.ensures.sums p inside ∙ found)
