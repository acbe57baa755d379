use Rattle.std.proofs.{Common.{arith, rules, ◌≡◌, ◌+◌, ◌<◌, ℕ, List, [], ◌∷◌, ◌++◌, take, drop, get_or, add-one, drop-cons, length}, lemmas.List.take_more}
use Rattle.{std.proofs.lemmas.List.take-append-drop, coincidence.{specs.declared.pairing.Bin.Bin, proofs.Together.{closes_none, closes_on, rest_may, part_may}}}
use Rattle.coincidence.proofs.closing.close_part.Goals as goal

abbrev no_bin : Bin
no_bin = record { weights = record { index = 0; a = 0; b = 0 }; both = 0 }

next : (bins : List Bin) (i : ℕ) → i < length bins → bins ≡ take i bins ++ ((get_or bins i no_bin ∷ []) ++ drop (i + 1) bins)
next bins i inside = search (rules, arith, no_bin, add-one, drop-cons, take-append-drop)

pub loop-bin-init : goal.loop-bin-init
loop-bin-init g c = closes_none _ _ _

pub close-requires : goal.close-requires
close-requires g c =
    let bins = c.args.bins.now in
    let i = c.loop-bin.bin-index in
    record {
      stands = part_may _ c.loop-bin.pairing (get_or bins i no_bin ∷ []) (drop (i + 1) bins)
          (rest_may _ c.args.pairing.now _ (take i bins) ((get_or bins i no_bin ∷ []) ++ drop (i + 1) bins) _ _ c.loop-bin.invariant (rw (next bins i c.loop-bin-test.true) at c.requires.stands));
    }

pub loop-bin-preserved : goal.loop-bin-preserved
loop-bin-preserved g c = rw (take_more _ _ no_bin c.loop-bin-test.true) (closes_on _ _ _ _ _ _ _ c.loop-bin.invariant _ _ c.close.ensures)
