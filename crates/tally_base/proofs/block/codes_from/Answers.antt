use Rattle.std.proofs.Common.{◌≡◌, ◌-◌, ◌<◌, ◌≤◌, ℕ, List, false, length, map, get_or, replicate, cond, ltb, min, ap, ◌∙◌, rules, arith, w32}
use Rattle.std.proofs.lemmas.{Nat.and_mask, Simd.{tops_compared, get_or-sel_l, get_or-chunk, length-zip2, get_or-zip2, get_or-replicate}, List.length-take-le}
use Rattle.{std.proofs.lemmas.List.length-drop, tally_base.specs.Codes.code_in}
use lib.Lanes.{zip2, chunk, sel_l, top}
use lib.Bits.{bit_and}
use Rattle.tally_base.proofs.block.codes_from.Goals as goal

-- the lesser of numbers and 256
abbrev least : List ℕ → List ℕ
least xs = sel_l (map (top 31) (zip2 (λ a b. cond (ltb a b) 4294967295 0) xs (replicate 8 256))) xs (replicate 8 256)

lesser : (x : ℕ) → cond (ltb x 256) x 256 ≡ min x 256
lesser x = search (rules, arith)

least-at : (xs : List ℕ) (j : ℕ) → length xs ≡ 8 → j < 8 → get_or (least xs) j 0 ≡ min (get_or xs j 0) 256
least-at xs j long lt =
    let all : length (zip2 ltb xs (replicate 8 256)) ≡ 8 = length-zip2 ltb xs (replicate 8 256) long ∙ long in
    ap (λ ms. get_or (sel_l ms xs (replicate 8 256)) j 0) (tops_compared w32 ltb xs (replicate 8 256))
    ∙ get_or-sel_l (zip2 ltb xs (replicate 8 256)) xs (replicate 8 256) j 0 (omega (arith, all, lt)) (omega (arith, long, lt)) lt
    ∙ ap (λ b. cond b (get_or xs j 0) (get_or (replicate 8 256) j 0)) (get_or-zip2 ltb xs (replicate 8 256) j 0 0 false (omega (arith, long, lt)) lt)
    ∙ ap (λ y. cond (ltb (get_or xs j 0) y) (get_or xs j 0) y) (get_or-replicate 8 j 256 0 lt) ∙ lesser (get_or xs j 0)

codes-at : (eight : List ℕ) (j : ℕ) → length eight ≡ 8 → j < 8 → get_or (least (zip2 bit_and eight (replicate 8 65535))) j 0 ≡ min (code_in (get_or eight j 0)) 256
codes-at eight j long lt =
    least-at (zip2 bit_and eight (replicate 8 65535)) j (length-zip2 bit_and eight (replicate 8 65535) long ∙ long) lt
    ∙ ap (λ code. min code 256) (get_or-zip2 bit_and eight (replicate 8 65535) j 0 0 0 (omega (arith, long, lt)) lt
    ∙ ap (bit_and (get_or eight j 0)) (get_or-replicate 8 j 65535 0 lt) ∙ and_mask (get_or eight j 0) 16)

pub returns : goal.returns
returns c = λ j lt.
    let marks = c.args.marks.now in
    let rest : 8 ≤ length marks - c.args.at = omega (arith, c.requires) in
    let long : length (chunk c.args.at 8 marks) ≡ 8 = search (rules, arith, length-take-le, length-drop) in
    codes-at (chunk c.args.at 8 marks) j long lt ∙ ap (λ mark. min (code_in mark) 256) (get_or-chunk c.args.at 8 marks j 0 lt)
