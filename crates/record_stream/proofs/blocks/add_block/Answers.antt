use Rattle.std.{proofs.Common.{◌≡◌, ℕ, List, [], ◌∷◌, Some, None, refl, arith, rules}, specs.declared.option.Option.Option}
use Rattle.{tally_base.specs.declared.event.Event.Event, record_stream.specs.OneMore.last_with}
use Rattle.record_stream.proofs.blocks.add_block.Goals as goal

some-last : (t : ℕ) (es : List Event) → last_with (Some t) es ≡ None → ⊥
some-last t [] is = cc
some-last t (e ∷ es) is = some-last e.time es is

no-last : (es : List Event) → last_with None es ≡ None → es ≡ []
no-last [] is = refl
no-last (e ∷ es) is = absurd (some-last e.time es is)

-- whatever came before
any-last : (o : Option ℕ) (es : List Event) (t : ℕ) → last_with None es ≡ Some t → last_with o es ≡ Some t
any-last o [] t is = cc
any-last o (e ∷ es) t is = is

pub returns-in-Some-clause-value : goal.returns-in-Some-clause-value
returns-in-Some-clause-value c = search (rules, arith, any-last)

pub returns-in_default-clause-value : goal.returns-in_default-clause-value
returns-in_default-clause-value c = λ es none first. rw (no-last es (search rules)) (search (rules, arith))
