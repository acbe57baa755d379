use Rattle.std.proofs.Common.{◌≡◌, ◌∙◌, length, ap, refl, subst, ◌+◌, ◌<◌, ◌≤◌, ℕ, List, [], ◌∷◌, ◌++◌, false, take, drop, sym, append_assoc, append-nil, arith}
use Rattle.{std.{proofs.{Common.{length-append, rules}, Math.Seq.take-append_seam}, specs.List.{refill, AllByRecursion}}, arrayvec.specs.ArrayVec.array_vec_len}
use Rattle.{tally_base.specs.declared.event.Event.Event, ptu_definitions.specs.{Prefixes.each_after, Settled.{marked_as, put_in, settles}}}
use Rattle.{ptu_definitions.proofs.{SettledLemmas.put_in-append, SettlingLemmas.{all-push, each-weaker}}, settle.specs.Standing.{IsSettled, next_place}}
use Rattle.settle.{specs.Passing.{ComesOn, next_after, time_after}, proofs.Steps.{settled-emit, tells-one}}
use Rattle.settle.proofs.settle.Settle.pass.Goals as goal

-- events that come in order after all that are kept back

-- as many as there were stand in the place of all
refilled : {A : Type 0} (n : ℕ) (xs ws : List A) → n ≡ length xs → length ws ≡ n → refill n xs ws ≡ ws
refilled n xs ws full as_many = subst (λ k. take k (ws ++ drop (length ws) xs) ≡ ws) as_many (take-append_seam ws (drop (length ws) xs))

-- The first of both together were let go, and the last are kept back.
record IsPassed (k : ℕ) (waiting : List Event) (last next : ℕ) (pushed given came went : List Event) : Type 0 where
  settled : IsSettled k false waiting (time_after last went) (next_after next came) (pushed ++ came) (given ++ went)
  tells : each_after (settles k) pushed came ≡ marked_as false went

put_in-last : (e : Event) (w : List Event) → AllByRecursion (λ x. x.time ≤ e.time) w → put_in e w ≡ w ++ e ∷ []
put_in-last e w all = sym (ap (put_in e) (append-nil w)) ∙ put_in-append e w [] all

passed : (k : ℕ) (came w w' went es g : List Event) (last next top : ℕ) → 0 < k → length w ≡ k → length w' ≡ k
    → IsSettled k false w last next es g → last ≤ top → AllByRecursion (λ x. x.time ≤ top) w → ComesOn next top came
    → w ++ came ≡ went ++ w' → IsPassed k w' last next es g came went
passed k [] w w' [] es g last next top some full full' settled low all comes is = search (rules, arith, append-nil)
passed k [] w w' (y ∷ went) es g last next top some full full' settled low all comes is = search (rules, arith, append-nil, length-append)
passed k (e ∷ came) [] w' went es g last next top some full full' settled low all comes is = absurd (omega (arith, some, full))
passed k (e ∷ came) (x ∷ w) w' [] es g last next top some full full' settled low all comes is = search (rules, arith, length-append)
passed k (e ∷ came) (x ∷ w) w' (y ∷ went) es g last next top some full full' settled low all comes is =
    let same : x ≡ y = cc in
    let tail : w ++ (e ∷ came) ≡ went ++ w' = cc in
    let below : AllByRecursion (λ z. z.time ≤ e.time) (x ∷ w) = search (rules, arith, each-weaker) in
    let in_time : last ≤ e.time = let h : top ≤ e.time = comes.1 in omega (arith, low, h) in
    let put : x ∷ (w ++ e ∷ []) ≡ put_in e (x ∷ w) = sym (put_in-last e (x ∷ w) below) in
    let as_many : length (w ++ e ∷ []) ≡ length (x ∷ w) = omega (arith, length-append w (e ∷ [])) in
    let one = settled-emit k false (x ∷ w) (w ++ e ∷ []) last next es g e x settled refl in_time comes.0 full put in
    let rest =
    passed k came (w ++ e ∷ []) w' went (es ++ e ∷ []) (g ++ x ∷ []) x.time (e.place + 1) e.time some (as_many ∙ full) full' one below.0 (all-push (λ z. z.time ≤ e.time) w e below.1 (omega arith)) comes.2 (append_assoc w (e ∷ []) came ∙ tail) in
    let tells = tells-one k false (x ∷ w) (w ++ e ∷ []) last next es g e x settled refl in_time full as_many put in
    subst (λ (z : Event). IsPassed k w' last next es g (e ∷ came) (z ∷ went)) same
    (record {
      settled = search (rules, arith, append_assoc);
      tells = search (rules, arith);
    })

pub returns-clause-passed : goal.returns-clause-passed
returns-clause-passed c = λ pushed given came went settled comes.
    let s = c.args.self.now in
    let open' = subst (λ b. IsSettled s.reach b s.waiting.items s.last (next_place s) pushed given) comes.unpopped settled in
    let p = passed s.reach came s.waiting.items c.args.stay.now went pushed given s.last (next_place s) comes.greatest comes.some comes.full
    (c.requires.as_many ∙ comes.full) open' comes.low comes.below comes.comes comes.joined in
    let full : array_vec_len s.waiting ≡ length s.waiting.items = refl in
    let copied : c.copy_from_slice.new.self ≡ c.args.stay.now = c.copy_from_slice.ensures.after in
    let stays : refill (array_vec_len s.waiting) s.waiting.items c.copy_from_slice.new.self ≡ c.args.stay.now = search (rules, arith, refilled) in
    record {
      settled = rw (comes.time_is, comes.place_is, comes.unpopped, stays) p.settled;
      tells = p.tells;
    }
