-- The counts over the rows of a block.
use Rattle.std.proofs.Common.{◌≡◌, ℕ, ◌+◌, ◌-◌, ◌/◌, ◌<◌, ◌≤◌, Bool, true, false, ◌&&◌, cond, ◌++◌, ap, refl, arith, nat_lt, nat_le, ◌==◌, if◌then◌else◌, rules}
use Rattle.{std.proofs.lemmas.{Bool.Decides.nat_tests, List.Sums.{sum_by-append, sum_by_push}}, tally_base.specs.declared.event.Event.Event}
use Rattle.tally_base.specs.{declared.block.Block.Block, Events.{is_photon, is_in}, Settings.TraceView, Tally.History, Columns.{rows, item, code_at, time_at}}
use Rattle.{tally_base.{specs.Columns.groups_at, proofs.{Floors.moves_row, BlockRows.more_rows}}, count_trace.specs.TraceCounts.{count_times, in_trace_bin}}

none_either : (b : Bool) → ◌≡◌ {A = ℕ} 0 (if b then 0 else 0)
none_either true = refl
none_either false = refl

passes : (photon group test : Bool) → ◌≡◌ {A = ℕ} (cond (photon && (group && test)) 1 0) (if test then (if group && photon then 1 else 0) else 0)
passes true true true = refl
passes true true false = refl
passes true false test = none_either test
passes false true test = none_either test
passes false false test = none_either test

pub count-append : (set : TraceView) (test : ℕ → Bool) (h m : History) → count_times set test (h ++ m) ≡ count_times set test h + count_times set test m
count-append set test h m = sum_by-append (λ (x : Event × ℕ). cond (is_photon x.0 && (is_in x.1 set.group && test x.0.time)) 1 0) h m

-- the photon of the group in a row
abbrev pub one_at : {N : ℕ} → TraceView → Block N → ℕ → ℕ
one_at set b n = if is_in (groups_at b n) set.group && nat_lt (code_at b n) 256 then 1 else 0

-- one row more
pub count-row : (set : TraceView) (test : ℕ → Bool) {N : ℕ} (b : Block N) (n : ℕ)
    → count_times set test (rows (item b) (n + 1)) ≡ count_times set test (rows (item b) n) + (if test (time_at b n) then one_at set b n else 0)
count-row set test b n = search (rules, arith, more_rows, sum_by_push, moves_row)

pub bin-row : (set : TraceView) (n : ℕ) {N : ℕ} (b : Block N) (at : ℕ) → in_trace_bin set n (rows (item b) (at + 1)) ≡ in_trace_bin set n (rows (item b) at) + (if nat_le set.origin (time_at b at) && ((time_at b at - set.origin) / set.width == n) then one_at set b at else 0)
bin-row set n b at = count-row set (λ time. nat_le set.origin time && ((time - set.origin) / set.width == n)) b at

pub one_at_most : (set : TraceView) {N : ℕ} (b : Block N) (n : ℕ) → one_at set b n ≤ 1
one_at_most set b n = search (rules, arith)

early : (origin time : ℕ) → time < origin → nat_le origin time ≡ false
early origin time lt = grind (arith, nat_tests, lt)

-- before the origin no test of a bin passes
pub early_none : (origin time more : ℕ) (test : Bool) → time < origin → (if nat_le origin time && test then more else 0) ≡ 0
early_none origin time more test lt = ap (λ b. if b && test then more else 0) (early origin time lt)

pub early_one : (origin time more : ℕ) → time < origin → (if nat_lt time origin then more else 0) ≡ more
early_one origin time more lt = let is : nat_lt time origin ≡ true = grind (arith, nat_tests, lt) in ap (λ b. if b then more else 0) is

pub late_none : (origin time more : ℕ) → origin ≤ time → (if nat_lt time origin then more else 0) ≡ 0
late_none origin time more le = let is : nat_lt time origin ≡ false = grind (arith, nat_tests, le) in ap (λ b. if b then more else 0) is

pub late_one : (origin time more : ℕ) (test : Bool) → origin ≤ time → (if nat_le origin time && test then more else 0) ≡ (if test then more else 0)
late_one origin time more test le = let is : nat_le origin time ≡ true = grind (arith, nat_tests, le) in ap (λ b. if b && test then more else 0) is
