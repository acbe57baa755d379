use Rattle.std.proofs.Common.{arith, ◌≡◌, ◌<◌, ◌-◌, ◌∷◌, ◌++◌, ℕ, zero, suc, List, [], refl, sym, ap, ◌∙◌, append_assoc, append-nil, rules}
use Rattle.tally_base.specs.Hexadecimal.{hexadecimal, digit_code, digit_at}
use Rattle.tally_base.proofs.line.put_hexadecimal.Goals as goal

-- hexadecimal digits, one by one
hexadecimal-next : (left number : ℕ) → 0 < left → hexadecimal left number ≡ digit_code (digit_at number (left - 1)) ∷ hexadecimal (left - 1) number
unfolding hexadecimal
hexadecimal-next zero number some = absurd (omega arith)
hexadecimal-next (suc below) number some = let e : suc below - 1 ≡ below = omega arith in rw e refl

-- a digit more after the text, and one less to come
hexadecimal-step : (text line new : List ℕ) (left number digit : ℕ) → 0 < left → line ++ hexadecimal left number ≡ text
    → new ≡ line ++ digit ∷ [] → digit ≡ digit_code (digit_at number (left - 1))
    → new ++ hexadecimal (left - 1) number ≡ text
hexadecimal-step text line new left number digit some so_far pushed is = search (rules, arith, append_assoc, hexadecimal-next)

hexadecimal-end : (text line : List ℕ) (left number : ℕ) → left ≡ 0 → line ++ hexadecimal left number ≡ text → line ≡ text
unfolding hexadecimal
hexadecimal-end text line left number none so_far = sym (append-nil line) ∙ ap (λ n. line ++ hexadecimal n number) (sym none) ∙ so_far

pub digits-preserved : goal.digits-preserved
digits-preserved g c = search (rules, arith, hexadecimal-step)

pub returns-clause-items : goal.returns-clause-items
returns-clause-items g c = hexadecimal-end _ c.digits.line.items c.digits.left c.args.number (omega arith) c.digits.invariant.items
