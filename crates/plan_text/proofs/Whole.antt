-- Where each rule holds, each table of a list is in the plan.
use Rattle.std.proofs.Common.{arith, rules, ◌≡◌, ap, refl, ℕ, ◌+◌, Bool, true, List, [], ◌∷◌, ◌++◌, map, filter_map, ◌∙◌, Option, Some, is_some, inl, inr}
use Rattle.std.{proofs.lemmas.{Bool.{cases_Bool, false≢true}, List.{map-append, map-id}}, specs.List.{AllByRecursion, cons_option, flat_map}}
use Rattle.{toml.specs.Data.Data, toml_rules.{specs.Rules.{Rule, BreaksAt, IsBroken, AllHold, or_next, all_kept}, proofs.Least.all_kept_after}}
use Rattle.plan_text.specs.{Plan.{plan_rules, lists_kept, plan, IsWhole}, Document.document_rules, Kind.{Kind, tables, last_rule, kind_rules, list_of_kind}}
use Rattle.plan_text.specs.{Kind.TableList, Kinds.{kinds, first_lists, second_lists, table_lists}, Groups.{group_rules, groups, group, group_of, inputs, gates}}
use Rattle.plan_text.specs.Shifts.{shift_rules, all_shifts}

-- rules of a part are rules of the whole
broken_after : (before after : List Rule) (n at : ℕ) → IsBroken after n at → IsBroken (before ++ after) n at
broken_after [] after n at b = b
broken_after (rule ∷ before) after n at b = inr (broken_after before after n at b)

broken_before : (before after : List Rule) (n at : ℕ) → IsBroken before n at → IsBroken (before ++ after) n at
broken_before [] after n at b = absurd b
broken_before (rule ∷ before) after n at (inl here) = inl here
broken_before (rule ∷ before) after n at (inr later) = inr (broken_before before after n at later)

-- where all rules of a whole hold, those of its parts do
pub all_before : (before after : List Rule) → AllHold (before ++ after) → AllHold before
all_before before after all = λ n at b. all n at (broken_before before after n at b)

pub all_after : (before after : List Rule) → AllHold (before ++ after) → AllHold after
all_after before after all = λ n at b. all n at (broken_after before after n at b)

-- a rule on each thing of a list
pub each_holds : {X : Type 0} (test : X → Bool) (first : ℕ) (xs : List X)
    → ((at : ℕ) → BreaksAt first (map test xs) at → ⊥) → AllByRecursion (λ x. test x ≡ true) xs
each_holds test first [] nowhere = tt
each_holds test first (x ∷ xs) nowhere =
    elim (cases_Bool (test x)) [
      | inl holds ↦ (holds, each_holds test (first + 1) xs (λ at b. nowhere at (inr b)))
      | inr breaks ↦ absurd (nowhere first (inl (refl, breaks)))
    ]

both_hold : {X : Type 0} (a b c : X → Bool) (xs : List X) → ((x : X) → a x ≡ true → b x ≡ true → c x ≡ true)
    → AllByRecursion (λ x. a x ≡ true) xs → AllByRecursion (λ x. b x ≡ true) xs → AllByRecursion (λ x. c x ≡ true) xs
both_hold a b c [] joins first second = tt
both_hold a b c (x ∷ xs) joins first second = (joins x first.0 second.0, both_hold a b c xs joins first.1 second.1)

kept_first : {Y : Type 0} (here : Option Y) (found : List Y) (seen : List (Option Y)) → is_some here ≡ true
    → map (λ y. Some y) found ≡ seen → map (λ y. Some y) (cons_option here found) ≡ here ∷ seen
kept_first here found seen some rest = search (rules, arith, false≢true)

all_kept_in : {X Y : Type 0} (f : X → Option Y) (xs : List X) → AllByRecursion (λ x. is_some (f x) ≡ true) xs → map (λ y. Some y) (filter_map f xs) ≡ map f xs
all_kept_in f [] some = refl
all_kept_in f (x ∷ xs) some = kept_first (f x) (filter_map f xs) (map f xs) some.0 (all_kept_in f xs some.1)

-- a group is read where its inputs and its gates are
group_read : (inputs : Option ℕ) (gates : Option (List (ℕ × ℕ))) → is_some inputs ≡ true → is_some gates ≡ true → is_some (group_of inputs gates) ≡ true
group_read inputs gates first second = search (rules, arith)

groups_in : (d : Data) → AllHold (group_rules d) → map (λ y. Some y) (filter_map (group d) (groups d)) ≡ map (group d) (groups d)
unfolding group_rules group
groups_in d all =
    let sets = each_holds (λ g. is_some (inputs g)) 1 (groups d) (λ at b. all 9 at (inr (inl (refl, b)))) in
    let ranges = each_holds (λ g. is_some (gates d g)) 1 (groups d) (λ at b. all 10 at (inr (inr (inl (refl, b))))) in
    all_kept_in (group d) (groups d) (both_hold (λ g. is_some (inputs g)) (λ g. is_some (gates d g))
    (λ g. is_some (group d g)) (groups d) (λ g a b. group_read (inputs g) (gates d g) a b) sets ranges)

shifts_in : (d : Data) → AllHold (shift_rules d) → map (λ y. Some y) (filter_map (λ set. set) (all_shifts d)) ≡ all_shifts d
unfolding shift_rules
shifts_in d all =
    all_kept_in (λ set. set) (all_shifts d) (each_holds (λ set. is_some set) 1 (all_shifts d) (λ at b. all 25 at (inr (inr (inl (refl, b))))))
    ∙ map-id (all_shifts d)

-- where the rules on a kind hold, each of its tables gives settings
kind_whole : (kind : Kind) (d : Data) → AllHold (kind_rules kind d)
    → map (λ y. Some y) (filter_map (kind.read d) (tables kind d)) ≡ map (kind.read d) (tables kind d)
kind_whole kind d all =
    all_kept_in (kind.read d) (tables kind d) (each_holds (λ table. is_some (kind.read d table)) 1 (tables kind d)
    (λ at b. all_after (kind.before d) (last_rule kind d ∷ []) all kind.last at (inl (refl, b))))

-- Each rule on the list holds.
abbrev pub Holds : Data → TableList → Type 0
Holds d list = AllHold (list.rules d)

kinds_whole : (kinds : List Kind) (d : Data) → AllByRecursion (Holds d) (map list_of_kind kinds)
    → map (λ y. Some y) (flat_map (λ kind. filter_map (kind.read d) (tables kind d)) kinds) ≡ flat_map (λ kind. map (kind.read d) (tables kind d)) kinds
kinds_whole [] d all = refl
kinds_whole (kind ∷ kinds) d all = search (rules, arith, map-append, kind_whole, kinds_whole kinds d all.1)

-- going through the rules of lists one after the other
pub kept_by_lists : (lists : List TableList) (d : Data) → all_kept (flat_map (λ list. list.rules d) lists) ≡ lists_kept lists d
kept_by_lists [] d = refl
kept_by_lists (list ∷ lists) d = search (rules, arith, all_kept_after, kept_by_lists lists d)

pub plan_kept : (d : Data) → all_kept (plan_rules d) ≡ or_next (all_kept (document_rules d)) (lists_kept table_lists d)
unfolding plan_rules
plan_kept d =
    all_kept_after (document_rules d) (flat_map (λ list. list.rules d) table_lists)
    ∙ ap (or_next (all_kept (document_rules d))) (kept_by_lists table_lists d)

-- where the rules on all lists hold, those on each do
pub lists_hold : (lists : List TableList) (d : Data) → AllHold (flat_map (λ list. list.rules d) lists) → AllByRecursion (Holds d) lists
lists_hold [] d all = tt
lists_hold (list ∷ lists) d all =
    let more = flat_map (λ list. list.rules d) lists in
    (all_before (list.rules d) more all, lists_hold lists d (all_after (list.rules d) more all))

all_first : {X : Type 0} (P : X → Type 0) (xs ys : List X) → AllByRecursion P (xs ++ ys) → AllByRecursion P xs
all_first P [] ys all = tt
all_first P (x ∷ xs) ys all = (all.0, all_first P xs ys all.1)

all_last : {X : Type 0} (P : X → Type 0) (xs ys : List X) → AllByRecursion P (xs ++ ys) → AllByRecursion P ys
all_last P [] ys all = all
all_last P (x ∷ xs) ys all = all_last P xs ys all.1

all_both : {X : Type 0} (P : X → Type 0) (xs ys : List X) → AllByRecursion P xs → AllByRecursion P ys → AllByRecursion P (xs ++ ys)
all_both P [] ys first last = last
all_both P (x ∷ xs) ys first last = (first.0, all_both P xs ys first.1 last)

-- what holds of each list holds of that of each kind
pub kinds_of_lists : (P : TableList → Type 0) → AllByRecursion P table_lists → AllByRecursion P (map list_of_kind kinds)
kinds_of_lists P all = search (rules, arith, all_both, all_first, all_last)

pub plan_is_whole : (d : Data) → AllHold (plan_rules d) → IsWhole d
unfolding plan_rules plan
plan_is_whole d all =
    let hold = lists_hold table_lists d (all_after (document_rules d) (flat_map (λ list. list.rules d) table_lists) all) in
    let first = all_first (Holds d) first_lists second_lists hold in
    let second = all_last (Holds d) first_lists second_lists hold in
    record {
      shifts = shifts_in d second.0;
      groups = groups_in d first.0;
      parts = kinds_whole kinds d (kinds_of_lists (Holds d) hold);
    }
