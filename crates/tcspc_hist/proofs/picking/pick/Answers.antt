use Rattle.std.proofs.{Common.{rules, ◌≡◌, ◌+◌, ◌*◌, ◌<◌, ◌≤◌, ◌++◌, ℕ, length, map, take, get_or, refl, sym, ap, ◌∙◌, arith}, lemmas.Simd.Each1-get_or}
use Rattle.{std.{proofs.lemmas.{Simd.map-map, List.map-append}, specs.{Prelude.count_ones, List.{filter, range_with_len}}}, tally_base.specs.Columns.mark_at}
use Rattle.{tally_base.{specs.Columns.code_at, proofs.Sorted.found}, lane_decode.{specs.Staying.{has_bit, bits_in}, proofs.Chosen.{few-bits, below-bits}}}
use Rattle.{lane_decode.proofs.Chosen.{ones-bits, stay-more}, tcspc_hist.{specs.Picked.{has_photon, photon_marks}, proofs.Blocks.{front-by, front-put}}}
use Rattle.tcspc_hist.proofs.picking.pick.Goals as goal

pub loop-k-preserved : goal.loop-k-preserved
loop-k-preserved c =
    let inv = c.loop-k.invariant in
    let b = c.args.block.now in
    let group = c.args.group in
    let at = 8 * c.loop-k.k in
    let f = has_photon group b in
    let bits = c.bits_in_group-bits.result in
    let small = c.bits_in_group-bits.ensures.few in
    let ks = bits_in bits in
    let ones = ones-bits bits small in
    let next : at + 8 ≡ 8 * (c.loop-k.k + 1) = omega arith in
    let few : count_ones bits ≤ 8 = omega (arith, few-bits bits small, ones) in
    let same : (i : ℕ) → i < 8 → has_bit bits i ≡ f (at + i) = λ i less.
    let groups = c.groups_from.ensures.groups i less in
    c.bits_in_group-bits.ensures.bits i less ∙ found (get_or c.groups_from.result i 0) (code_at b (at + i)) group (c.groups_from.ensures.markers i less) ∙ rw groups refl in
    let mark : (j : ℕ) → j < length ks → get_or c.close.result j 0 ≡ mark_at b (at + get_or ks j 0) = λ j less.
    c.close.ensures.close j less ∙ c.marks_from.ensures.marks (get_or ks j 0) (Each1-get_or (λ i. i < 8) ks j 0 less (below-bits bits small)) in
    let eight : take (count_ones bits) c.close.result ≡ map (mark_at b) (map (λ i. at + i) ks) =
    ap (λ n. take n c.close.result) ones ∙ front-by (λ i. mark_at b (at + i)) c.close.result ks (omega (arith, few-bits bits small, c.close.ensures.lanes)) mark
    ∙ sym (map-map (mark_at b) (λ i. at + i) ks) in
    let room : c.loop-k.many + 8 ≤ length c.loop-k.marks = omega (arith, inv.sized, inv.few, c.loop-k-test.true, c.requires.inside, b.some, b.few) in
    record {
      sized = search (rules, arith, inv.sized);
      few = omega (arith, inv.few, few);
      picked = ap (take (c.loop-k.many + count_ones bits)) c.put_eight.ensures
          ∙ front-put c.loop-k.marks c.close.result c.loop-k.many (count_ones bits) c.close.ensures.lanes room few ∙ ap (λ l. l ++ take (count_ones bits) c.close.result) inv.picked
          ∙ ap (λ l. photon_marks group b at ++ l) eight ∙ sym (map-append (mark_at b) (filter f (range_with_len 0 at)) (map (λ i. at + i) ks))
          ∙ ap (map (mark_at b)) (sym (stay-more f at bits same)) ∙ ap (photon_marks group b) next;
    }
