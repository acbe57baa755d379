use Rattle.std.{proofs.Common.{◌≡◌, ◌∙◌, ℕ, ◌+◌, ◌*◌, ◌<◌, List, [], ◌∷◌, slice_index, ap, sym, arith}, specs.Int.{w16, from_le_bytes}}
use Rattle.flim_cube.{specs.Bytes.{byte_in, length_counts}, proofs.Bytes.{get_counts, count_two, count_from, each_of_eight}}
use Rattle.flim_cube.proofs.spread.Cells.whole.Goals as goal

pub returns : goal.returns
returns c =
    let s = c.args.self.now in
    let at = c.args.at in
    let inside : at < s.size = omega (arith, c.requires.inside, length_counts s.bytes.items s.size) in
    let parts : List ℕ =
    c.part-2.result ∷ c.part-3.result ∷ c.part-4.result ∷ c.part-5.result ∷ c.part-6.result ∷ c.part-7.result ∷ c.part-8.result ∷ c.part-9.result ∷ [] in
    c.from_le_bytes-2.ensures
    ∙ sym (get_counts s.bytes.items s.size at inside ∙ count_from s.bytes.items s.size at parts (each_of_eight (λ i. byte_in s.bytes.items (i * s.size + at) ≡ slice_index parts i) (sym c.part-2.ensures) (sym c.part-3.ensures) (sym c.part-4.ensures) (sym c.part-5.ensures) (sym c.part-6.ensures) (sym c.part-7.ensures) (sym c.part-8.ensures) (sym c.part-9.ensures)))

pub returns-then-self-eq2 : goal.returns-then-self-eq2
returns-then-self-eq2 c =
    let s = c.args.self.now in
    let at = c.args.at in
    let inside : at < s.size = omega (arith, c.requires.inside, length_counts s.bytes.items s.size) in
    c.from.ensures ∙ c.from_le_bytes.ensures ∙ ap (λ low. from_le_bytes w16 (low ∷ c.part-then-self-eq2.result ∷ [])) c.part.ensures
    ∙ ap (λ high. from_le_bytes w16 (byte_in s.bytes.items (0 * s.size + at) ∷ high ∷ [])) c.part-then-self-eq2.ensures
    ∙ sym (count_two s.bytes.items s.size at (λ place le. s.zeros place (rw c.if-self-eq2.true le))) ∙ sym (get_counts s.bytes.items s.size at inside)
