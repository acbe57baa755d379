-- Tables that are given something one by one.
use Rattle.std.proofs.Common.{◌≡◌, ◌+◌, ◌≤◌, ◌<◌, ℕ, zero, suc, List, [], ◌∷◌, refl, arith, length, get_or, set, rules, ◌++◌, take, map, append_assoc, false}
use Rattle.std.proofs.{Common.flat_map, lemmas.{Grind.common_steps, List.{get_or-set_same, map-append, Elements.All-push}}, Math.Seq.take-suc}
use Rattle.{gate_plan.proofs.Histories.{other, last_or}, tally_base.specs.{declared.header.Mode.{Mode, TheVariants.T2}, Settings.{is_strict, PartSettings}}}
use Rattle.tally_engine.specs.{Give.Standing, declared.part.Part.Part, contracts.part.PartTally.TheImpl.ghosts, Parts.{settings_in, IsOpened, AllOpened}}
use Rattle.tally_engine.proofs.Tables.{part_taken, part_floor}

behind : {X : Type 0} (xs : List X) (n k : ℕ) (v d : X) → n < k → get_or (set xs n v) k d ≡ get_or xs k d
behind xs n k v d lt = grind (arith, common_steps)

same_default : {X : Type 0} (xs : List X) (i : ℕ) (d e : X) → i < length xs → get_or xs i d ≡ get_or xs i e
same_default [] i d e inside = absurd (omega (arith, inside))
same_default (x ∷ xs) zero d e inside = refl
same_default (x ∷ xs) (suc i) d e inside = same_default xs i d e (omega (arith, inside))

pub given_more : {X : Type 0} (R : X → X → Type 0) (old now : List X) (i : ℕ) (v e : X) → i < length now
    → ((k : ℕ) (d : X) → k < i → R (get_or old k d) (get_or now k d)) → ((k : ℕ) (d : X) → i ≤ k → get_or now k d ≡ get_or old k d) → R (get_or now i e) v
    → (k : ℕ) (d : X) → k < i + 1 → R (get_or old k d) (get_or (set now i v) k d)
given_more R old now i v e inside before left here k d lt = search (rules, arith, get_or-set_same, same_default, other, last_or)

pub left_more : {X : Type 0} (old now : List X) (i : ℕ) (v : X) → ((k : ℕ) (d : X) → i ≤ k → get_or now k d ≡ get_or old k d)
    → (k : ℕ) (d : X) → i + 1 ≤ k → get_or (set now i v) k d ≡ get_or old k d
left_more old now i v left k d above = rw (behind now i k v d (omega (arith, above))) (left k d (omega (arith, above)))

-- Tables that are opened one after the other.

pub standing_first : (mode : Mode) (taken floor : ℕ) (settings : PartSettings) (p : Part)
    → (mode ≡ T2 → is_strict (ghosts.settings p) ≡ false) → IsOpened settings p → Standing ghosts mode taken floor p
standing_first mode taken floor settings p loose opened = search (rules, arith, part_taken, part_floor)

settings_push : (items : List Part) (part : Part) → settings_in (items ++ part ∷ []) ≡ settings_in items ++ ghosts.settings part ∷ []
settings_push items part = map-append ghosts.settings items (part ∷ [])

pub settings_more : {S : Type 0} (settings : S → PartSettings) (sets more : List S) (set : S) (front : List PartSettings) (items new : List Part) (part : Part)
    → more ≡ sets ++ set ∷ [] → new ≡ items ++ part ∷ []
    → settings_in items ≡ front ++ map settings sets → ghosts.settings part ≡ settings set → settings_in new ≡ front ++ map settings more
settings_more settings sets more set front items new part taken pushed so_far is = search (rules, arith, settings_push, append_assoc, map-append)

pub opened_more : (settings : PartSettings) (items new : List Part) (part : Part)
    → new ≡ items ++ part ∷ [] → IsOpened settings part → AllOpened items → AllOpened new
opened_more settings items new part pushed opened all =
    rw pushed (All-push (λ p. IsOpened (ghosts.settings p) p) items part all (record { settings_are = refl; empty = opened.empty; opened = opened.opened }))

pub take_more : {S : Type 0} (sets : List S) (k : ℕ) (set d : S) → k < length sets → set ≡ get_or sets k d → take (k + 1) sets ≡ take k sets ++ set ∷ []
take_more sets k set d within is = let more : k + 1 ≡ suc k = omega arith in rw (more, is) (take-suc sets k d within)

-- lists that were put one after the other
pub behind_all : (front next : List PartSettings) (more : List (List PartSettings))
    → (front ++ next) ++ flat_map (λ l. l) more ≡ front ++ flat_map (λ l. l) (next ∷ more)
behind_all front next more = append_assoc front next (flat_map (λ l. l) more)
