use Rattle.std.proofs.{Common.{◌≡◌, ◌+◌, ◌-◌, [], get_or, take, drop, ap, subst, ◌∙◌, arith, rules}, lemmas.List.{get_or-map, get_or-take, get_or-drop}}
use Rattle.{std.specs.Int.{from_le_bytes, w32}, ptu_definitions.specs.Times.amount, lane_decode.{specs.InColumns.HasRowsTo, proofs.Filled.rows-more}}
use Rattle.lane_decode.proofs.columns.Columns.fill_eight.Goals as goal

pub loop-j-preserved : goal.loop-j-preserved
loop-j-preserved g c =
    let r = g.R.RecordLayout in
    let at = c.args.at in
    let j = c.loop-j.j in
    let words = c.args.words.now in
    let next : at + j + 1 ≡ at + (j + 1) = omega arith in
    let part = take (at + 8 - at) (drop at words) in
    let there : get_or part j [] ≡ get_or words (at + j) [] =
    get_or-take (at + 8 - at) (drop at words) j [] (omega arith) ∙ get_or-drop at words j [] in
    let means : r.joined c.fields.result ≡ r.meaning (from_le_bytes w32 (get_or words (at + j) [])) =
    ap r.joined c.fields.ensures ∙ c.of-lanes.ensures j c.loop-j-test.true
    ∙ ap r.meaning (get_or-map (from_le_bytes w32) part j [] 0 (search (rules, arith)) ∙ ap (from_le_bytes w32) there) in
    subst (HasRowsTo r.meaning r.UNIT c.put.new.self words) next
    (rows-more _ _ _ _ words (at + j) c.split.result c.loop-j.invariant c.put.ensures.others
    (c.put.ensures.record r.UNIT) c.put.ensures.wraps (record { raw = c.split.ensures.record ∙ means; amounts = c.split.ensures.wraps ∙ ap amount means }))
