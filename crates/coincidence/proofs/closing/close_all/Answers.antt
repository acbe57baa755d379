use Rattle.std.proofs.Common.{rules, arith, ◌≡◌, ◌∙◌, ◌++◌, ℕ, List, [], ◌∷◌, refl, sym, take, drop, length, append_assoc, append-nil}
use Rattle.{std.proofs.lemmas.{List.take-append-drop, Bool.Decides.nat_tests}, coincidence.{specs.declared.pairing.Bin.Bin, proofs.Together.closes_none}}
use Rattle.coincidence.proofs.Together.{closes_on, rest_may, part_may}
use Rattle.coincidence.proofs.closing.close_all.Goals as goal

parts : (bins done rest part behind : List Bin) (n : ℕ) → done ++ rest ≡ bins → part ≡ take n rest → behind ≡ drop n rest → bins ≡ done ++ (part ++ behind)
parts bins done rest part behind n is front back = rw (front, back, take-append-drop n rest) (sym is)

all_done : (bins done rest : List Bin) → length rest ≡ 0 → done ++ rest ≡ bins → done ≡ bins
all_done bins done [] none is = sym (append-nil done) ∙ is
all_done bins done (bin ∷ rest) none is = absurd (omega (arith, none))

pub loop-rest-init : goal.loop-rest-init
loop-rest-init g c = record { few = search rules; closes = ([], refl, closes_none _ _ _) }

pub close_part-requires-clause-stands : goal.close_part-requires-clause-stands
close_part-requires-clause-stands g c =
    let inv = c.loop-rest.invariant.closes in
    let split = c.split_at in
    part_may _ c.loop-rest.pairing split.result.0.now split.result.1.now (rest_may _ c.args.pairing.now _ inv.0 (split.result.0.now ++ split.result.1.now) _ _ inv.2 (rw (parts c.args.bins.now inv.0 c.loop-rest.rest.now split.result.0.now split.result.1.now _ inv.1 split.ensures.front split.ensures.back) at c.requires.stands))

pub loop-rest-preserved : goal.loop-rest-preserved
loop-rest-preserved g c =
    let inv = c.loop-rest.invariant.closes in
    let split = c.split_at in
    record {
      few = search (rules, arith);
      closes = (inv.0 ++ split.result.0.now, append_assoc inv.0 split.result.0.now split.result.1.now ∙ sym (parts _ inv.0 c.loop-rest.rest.now _ _ _ inv.1 split.ensures.front split.ensures.back), closes_on _ _ _ _ _ _ _ inv.2 _ _ c.close_part.ensures);
    }

pub returns : goal.returns
returns g c =
    let inv = c.loop-rest.invariant.closes in
    rw (all_done _ inv.0 _ (grind (arith, nat_tests, c.loop-rest-test.false, c.is_empty.ensures)) inv.1) at inv.2
