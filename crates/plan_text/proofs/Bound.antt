-- The bound of a plan that keeps the rules.
use Rattle.std.proofs.Common.{rules, ◌≡◌, refl, ℕ, suc, ◌+◌, ◌*◌, ◌≤◌, true, List, [], ◌∷◌, length, map, filter_map, codes, Option, Some, None, unwrap_or, Ok}
use Rattle.std.{proofs.{Common.{inl, inr, arith}, lemmas.{List.Sums.{sum_by-append, sum_by-cons}, Nat.mul-le, Bool.Decides.nat_tests}}, specs.List.sum_by}
use Rattle.{std.specs.List.{cons_option, flat_map, AllByRecursion}, toml.specs.Data.{Data, table, get}, tally_base.specs.Settings.{PartSettings, entries}}
use Rattle.{toml_rules.specs.{Rules.{AllHold, each}, Values.{number_or, list_at}}, plan_text.specs.{Kind.{Kind, tables, list_of_kind, TableList}, Kinds.kinds}}
use Rattle.plan_text.specs.{Kinds.{lists, table_lists}, Settle.{settle, settle_or_none}, Document.{document_rules, rule_of_lengths, has_at_most, AreShort}}
use Rattle.plan_text.{specs.{Plan.{PlanView, plan, plan_rules}, ReadPlan.plan_answer, Bound.{bound, greatest_bound, most_entries}}, proofs.Whole.all_before}
use Rattle.plan_text.proofs.{Whole.{each_holds, kinds_of_lists}, ByKind.{KeepsFew, kinds_keep_few}, Numbers.integer_most, Called.{valid, plans}}

-- ## Tables of one kind

-- a table more
one_more : (here : Option PartSettings) (found : List PartSettings) (n most : ℕ) → ((p : PartSettings) → here ≡ Some p → entries p ≤ most)
    → sum_by entries found ≤ n * most → sum_by entries (cons_option here found) ≤ (n + 1) * most
one_more None found n most few rest = grind (arith, rest)
one_more (Some p) found n most few rest = grind (arith, few p refl, rest, sum_by-cons entries p found)

-- tables that each keep at most so many entries
pub tables_keep : (read : Data → Option PartSettings) (most : ℕ) (tables : List Data)
    → ((t : Data) (p : PartSettings) → read t ≡ Some p → entries p ≤ most) → sum_by entries (filter_map read tables) ≤ length tables * most
tables_keep read most [] each = omega arith
tables_keep read most (t ∷ ts) each =
    let more : suc (length ts) ≡ length ts + 1 = omega arith in
    rw more (one_more (read t) (filter_map read ts) (length ts) most (each t) (tables_keep read most ts each))

-- ## All tables of a plan

-- rule 7 says how many tables of each kind there are
at_most : (most : ℕ) (key : List ℕ) (d : Data) → has_at_most most key d ≡ true → length (list_at key d) ≤ most
unfolding has_at_most
at_most most key d holds = grind (arith, nat_tests, holds)

few_tables : (d : Data) (more : List (List ℕ × ℕ)) → AllByRecursion (λ (list : List ℕ × ℕ). has_at_most list.1 list.0 d ≡ true) more → AreShort more d
few_tables d [] holds = tt
few_tables d (list ∷ more) holds = (at_most list.1 list.0 d holds.0, few_tables d more holds.1)

pub are_short : (d : Data) → AllHold (plan_rules d) → AreShort lists d
unfolding plan_rules document_rules rule_of_lengths
are_short d all =
    let of_document = all_before (document_rules d) (flat_map (λ list. list.rules d) table_lists) all in
    few_tables d lists
    (each_holds (λ (list : List ℕ × ℕ). has_at_most list.1 list.0 d) 1 lists (λ at b. of_document 7 at (inr (inr (inr (inr (inr (inr (inl (refl, b))))))))))

-- the key and the greatest length of a list
abbrev limit_of : TableList → List ℕ × ℕ
limit_of list = (list.key, list.most)

-- the tables of all kinds, one kind after the other
all_keep : (kinds : List Kind) (d : Data) → AllByRecursion (KeepsFew d) kinds → AreShort (map limit_of (map list_of_kind kinds)) d
    → sum_by entries (flat_map (λ kind. filter_map (kind.read d) (tables kind d)) kinds) ≤ sum_by most_entries kinds
all_keep [] d few short = omega arith
all_keep (kind ∷ kinds) d few short =
    let each = entries kind.greatest in
    let found = filter_map (kind.read d) (tables kind d) in
    let more = flat_map (λ kind. filter_map (kind.read d) (tables kind d)) kinds in
    omega (
      arith,
      sum_by-append entries found more,
      sum_by-cons most_entries kind kinds,
      tables_keep (kind.read d) each (tables kind d) few.0,
      mul-le (length (tables kind d)) each kind.most each short.0 (omega arith),
      all_keep kinds d few.1 short.1,
    )

parts_keep : (d : Data) → AreShort lists d → sum_by entries (plan d).parts ≤ sum_by most_entries kinds
unfolding plan
parts_keep d short = all_keep kinds d (kinds_keep_few d) (kinds_of_lists (λ (list : TableList). length (list_at list.key d) ≤ list.most) short)

few_kept : (found : Option ℕ) → ((n : ℕ) → found ≡ Some n → n ≤ 64) → unwrap_or found 0 ≤ 64
few_kept found most = search (rules, arith)

settle_most : (found : Option Data) (n : ℕ) → number_or 0 0 64 found ≡ Some n → n ≤ 64
settle_most found n is = search (rules, arith, integer_most)

-- at most 64 events are kept back
settle_few : (d : Data) → settle_or_none d ≤ 64
unfolding settle_or_none settle
settle_few d = few_kept (number_or 0 0 64 (get (codes "settle") d)) (settle_most (get (codes "settle") d))

plan_settle : (d : Data) → (plan d).settle ≤ 64
unfolding plan
plan_settle d = settle_few d

pub bounded : (bytes : List ℕ) (view : PlanView) → plan_answer bytes ≡ Ok view → bound view ≤ greatest_bound
bounded bytes view ok =
    let good = valid bytes view ok in
    let is = plans bytes good.1 good good.2 in
    let same : view ≡ plan (table good.1) = cc in
    rw same (omega (arith, plan_settle (table good.1), parts_keep (table good.1) (are_short (table good.1) good.3)))
