use Rattle.std.proofs.{Common.{◌≡◌, ◌<◌, ◌^◌, ℕ, List, get_or, set, refl, arith, rules}, lemmas.{Grind.common_steps, Bool.Decides.nat_tests}}
use Rattle.{std.{proofs.lemmas.List.get_or-set_same, specs.Prelude.{nat_lt, if◌then◌else◌}}, tally_base.specs.Codes.{joined, code_in, dtime_in}}
use Rattle.record_layout.specs.{declared.row.Row.Row, Rowed.raw_of}
use Rattle.lane_decode.proofs.columns.Columns.put.Goals as goal

other : (xs : List ℕ) (n i v : ℕ) → i < n → get_or (set xs n v) i 0 ≡ get_or xs i 0
other xs n i v lt = grind (arith, common_steps)

code-again : (mark code dtime : ℕ) → mark ≡ joined code dtime → code < 2 ^ 16 → code_in mark ≡ code
code-again mark code dtime is few = omega (arith, is, few)

dtime-again : (mark code dtime : ℕ) → mark ≡ joined code dtime → code < 2 ^ 16 → dtime_in mark ≡ dtime
dtime-again mark code dtime is few = omega (arith, is, few)

-- a wrap's time says nothing
unread : (unit : ℕ) (row : Row) → raw_of unit (record { code = row.code; time = if nat_lt row.code 512 then row.time else 0; dtime = row.dtime; wraps = row.wraps }) ≡ raw_of unit row
unread unit row = grind (arith, common_steps, nat_tests)

pub returns-clause-record : goal.returns-clause-record
returns-clause-record c = λ unit.
    let s = c.args.self.now in
    let at = c.args.at in
    let row = c.args.row.now in
    let mark = c.joined.result in
    rw (
      get_or-set_same s.marks at mark 0 (search (rules, arith)),
      get_or-set_same s.times at c.time_of.result 0 (search (rules, arith)),
      get_or-set_same s.wraps at row.wraps 0 (search (rules, arith)),
      c.time_of.ensures,
      code-again mark row.code row.dtime c.joined.ensures (search (rules, arith)),
      dtime-again mark row.code row.dtime c.joined.ensures (search (rules, arith)),
    ) (unread unit row)

pub returns-clause-others : goal.returns-clause-others
returns-clause-others c = λ i lt.
    let s = c.args.self.now in
    rw (other s.marks c.args.at i c.joined.result lt, other s.times c.args.at i c.time_of.result lt, other s.wraps c.args.at i c.args.row.now.wraps lt) refl
