-- What bytes answer as a plan, and what they call for.
use Rattle.std.proofs.Common.{rules, ◌≡◌, ◌<◌, ◌≤◌, ◌∙◌, refl, sym, ap, ℕ, List, length, Option, None, Some, Ok, Err, inl, inr, arith, ◌≢◌, Result, le-leb}
use Rattle.std.{proofs.{Common.IsUtf8, lemmas.{Bool.{cases_lt, cases_Bool}, Str.{IsUtf8-from_is_utf8, is_utf8-from_IsUtf8}}}, specs.Str.{is_utf8, chars}}
use Rattle.{std.specs.Prelude.⊤, tally_base.specs.declared.fault.Fault.{Fault, TheVariants.{OutOfMemory, PlanTooLong, PlanSyntax, PlanRule}}}
use Rattle.{toml.{specs.{Data.{table, Members, Data}, Parse.parse_document}, proofs.OnLiterals.toml_on_literals}, toml_rules.specs.Rules.{Rule, all_kept}}
use Rattle.{toml_rules.{specs.Rules.{AllHold, IsLeast, Names}, proofs.Least.{names_least, all_kept_nowhere}}, plan_text.specs.Plan.{PlanView, plan_rules, plan}}
use Rattle.plan_text.specs.{ReadPlan.{text_limit, document, if_kept, plan_of_document, plan_answer, IsCalledFor, IsValid}, Document.document_rules}
use Rattle.plan_text.specs.Document.{rule_of_lists, rule_of_lengths, order, reserved, records, known_keys, has_known_keys, may_have_tables, has_at_most}
use Rattle.plan_text.specs.{Groups.{group_rules, inputs, gates, has_group_keys, group}, Histograms.{histogram, has_histogram_keys}, Traces.{origin, trace}}
use Rattle.plan_text.specs.{Traces.has_trace_keys, StartStops.{startstop, has_startstop_keys}, Coincidences.{coincidence, has_coincidence_keys}, Images.bit}
use Rattle.plan_text.specs.{Images.{raster, bits, serpentine, image_values, has_image_keys}, Cubes.{bins, has_cube_values, cube, has_cube_keys}, Folds.numbers}
use Rattle.plan_text.specs.{Folds.{fold_settings, has_fold_keys}, Correlations.{lags, correlation, has_correlation_keys}, Shifts.{period, period_or_one, shift}}
use Rattle.plan_text.specs.{Shifts.{all_shifts, has_shift_keys, shift_rules}, Settle.{settle, settle_or_none}, Version.{version, is_second}}
use Rattle.plan_text.proofs.{ByKind.plan_rules_rise, Whole.plan_is_whole}

-- What bytes are as a document, and what reading them as a plan answers.

pub document_of_text : (bytes : List ℕ) → IsUtf8 bytes → document bytes ≡ parse_document bytes
unfolding document
document_of_text bytes text = rw (is_utf8-from_IsUtf8 bytes text) refl

pub document_of_none : (bytes : List ℕ) → (IsUtf8 bytes → ⊥) → document bytes ≡ None
unfolding document
document_of_none bytes other =
    elim (cases_Bool (is_utf8 bytes)) [
      | inl text ↦ absurd (other (IsUtf8-from_is_utf8 bytes text))
      | inr none ↦ rw none refl
    ]

-- what a plan is of which only the first bytes are known, one more than it may have
pub plan_answer_long : (bytes : List ℕ) → text_limit < length bytes → plan_answer bytes ≡ Err PlanTooLong
unfolding plan_answer
plan_answer_long bytes long = search (rules, arith)

pub answer_in_time : (bytes : List ℕ) → length bytes ≤ text_limit → plan_answer bytes ≡ plan_of_document (document bytes)
unfolding plan_answer
answer_in_time bytes short = rw (le-leb (length bytes) text_limit short) refl

pub answer_none : (bytes : List ℕ) → length bytes ≤ text_limit → document bytes ≡ None → plan_answer bytes ≡ Err PlanSyntax
unfolding plan_of_document
answer_none bytes short none = answer_in_time bytes short ∙ ap plan_of_document none

pub answer_some : (bytes : List ℕ) (ms : Members) (d : Data) → length bytes ≤ text_limit
    → document bytes ≡ Some ms → d ≡ table ms → plan_answer bytes ≡ if_kept (all_kept (plan_rules d)) (plan d)
unfolding plan_of_document
answer_some bytes ms d short some is = rw is (answer_in_time bytes short ∙ ap plan_of_document some)

-- What an answer unfolds to compute the reading of a plan on a literal.

unfoldable pub plan_on_literals : ⊤
unfolding toml_on_literals is_utf8 chars document_rules rule_of_lists rule_of_lengths version is_second order reserved records known_keys has_known_keys may_have_tables has_at_most group_rules inputs gates has_group_keys group histogram has_histogram_keys origin trace has_trace_keys startstop has_startstop_keys coincidence has_coincidence_keys bit raster bits serpentine image_values has_image_keys bins has_cube_values cube has_cube_keys numbers fold_settings has_fold_keys lags correlation has_correlation_keys period period_or_one shift all_shifts has_shift_keys settle settle_or_none shift_rules plan_rules plan document plan_of_document plan_answer
plan_on_literals = tt

-- What bytes answer as a plan, and what they call for.

abbrev Calls : List ℕ → Fault → Type 0
Calls bytes fault = IsCalledFor bytes fault × (fault ≢ OutOfMemory)

named : (bytes : List ℕ) (ms : Members) (fault : Fault) → length bytes ≤ text_limit
    → document bytes ≡ Some ms → Names (plan_rules (table ms)) fault → Calls bytes fault
named bytes ms fault short is names = search (rules, arith)

by_rules : (bytes : List ℕ) (ms : Members) (r : Result (Unit {0}) Fault) (fault : Fault) → length bytes ≤ text_limit → document bytes ≡ Some ms
    → all_kept (plan_rules (table ms)) ≡ r → if_kept r (plan (table ms)) ≡ Err fault → Calls bytes fault
by_rules bytes ms (Ok done) fault short is kept err = cc
by_rules bytes ms (Err other) fault short is kept err =
    let same : fault ≡ other = cc in
    rw same (named bytes ms other short is (names_least 0 (plan_rules (table ms)) other (plan_rules_rise (table ms)) kept))

by_document : (bytes : List ℕ) (read : Option Members) (fault : Fault) → length bytes ≤ text_limit
    → document bytes ≡ read → plan_of_document read ≡ Err fault → Calls bytes fault
unfolding plan_of_document
by_document bytes None fault short is err = search (rules, arith)
by_document bytes (Some ms) fault short is err = by_rules bytes ms (all_kept (plan_rules (table ms))) fault short is refl err

pub called : (bytes : List ℕ) (fault : Fault) → plan_answer bytes ≡ Err fault → Calls bytes fault
called bytes fault err = elim (cases_lt text_limit (length bytes)) [
  | inl long ↦ too_long (plan_answer_long bytes long) long
  | inr short ↦ by_document bytes (document bytes) fault short refl (sym (answer_in_time bytes short) ∙ err)
]
  where
    too_long : plan_answer bytes ≡ Err PlanTooLong → text_limit < length bytes → Calls bytes fault
    too_long is long = let same : fault ≡ PlanTooLong = cc in rw same (long, λ e. cc)

valid_rules : (bytes : List ℕ) (ms : Members) (r : Result (Unit {0}) Fault) (view : PlanView) → length bytes ≤ text_limit → document bytes ≡ Some ms
    → all_kept (plan_rules (table ms)) ≡ r → if_kept r (plan (table ms)) ≡ Ok view → IsValid bytes
valid_rules bytes ms (Ok done) view short is kept ok = search (rules, arith, all_kept_nowhere, plan_is_whole)
valid_rules bytes ms (Err fault) view short is kept ok = cc

valid_document : (bytes : List ℕ) (read : Option Members) (view : PlanView) → length bytes ≤ text_limit
    → document bytes ≡ read → plan_of_document read ≡ Ok view → IsValid bytes
unfolding plan_of_document
valid_document bytes read view short is ok = search (rules, arith, valid_rules)

pub valid : (bytes : List ℕ) (view : PlanView) → plan_answer bytes ≡ Ok view → IsValid bytes
valid bytes view ok = search (rules, arith, cases_lt, plan_answer_long, valid_document, answer_in_time)

-- ## From what the bytes are to the answer

least_named : (rules : List Rule) (n index : ℕ) (fault : Fault) → IsLeast rules n index → Names rules fault → fault ≡ PlanRule n index
least_named rules n index fault least names = search (rules, arith)

least_kept : (rules : List Rule) (n index : ℕ) (r : Result (Unit {0}) Fault) → IsLeast rules n index → all_kept rules ≡ r
    → ((fault : Fault) → r ≡ Err fault → Names rules fault) → all_kept rules ≡ Err (PlanRule n index)
least_kept rules n index (Ok done) least kept named = absurd (all_kept_nowhere rules kept n index least.broken)
least_kept rules n index (Err fault) least kept named = kept ∙ ap (λ f. Err f) (least_named rules n index fault least (named fault refl))

pub answers : (bytes : List ℕ) (fault : Fault) → Calls bytes fault → plan_answer bytes ≡ Err fault
answers bytes OutOfMemory h = absurd (h.1 refl)
answers bytes PlanTooLong h = plan_answer_long bytes h.0
answers bytes PlanSyntax h = answer_none bytes h.0.0 h.0.1
answers bytes (PlanRule n index) h =
    let rules = plan_rules (table h.0.1) in
    answer_some bytes h.0.1 (table h.0.1) h.0.0 h.0.2 refl
    ∙ ap (λ r. if_kept r (plan (table h.0.1)))
    (least_kept rules n index (all_kept rules) h.0.3 refl (λ fault err. names_least 0 rules fault (plan_rules_rise (table h.0.1)) err))
answers bytes _ h = absurd h.0

all_hold_kept : (rules : List Rule) (r : Result (Unit {0}) Fault) → AllHold rules → all_kept rules ≡ r
    → ((fault : Fault) → r ≡ Err fault → Names rules fault) → all_kept rules ≡ Ok tt
all_hold_kept rules (Ok done) all kept named = kept
all_hold_kept rules (Err fault) all kept named = absurd (no_fault fault (named fault refl))
  where
    no_fault : (fault : Fault) → Names rules fault → ⊥
    no_fault (PlanRule n index) least = all n index least.broken
    no_fault _ names = names

pub plans : (bytes : List ℕ) (ms : Members) → IsValid bytes → document bytes ≡ Some ms → plan_answer bytes ≡ Ok (plan (table ms))
plans bytes ms good is =
    let same : ms ≡ good.1 = let e = good.2 in cc in
    let rules = plan_rules (table ms) in
    answer_some bytes ms (table ms) good.0 is refl
    ∙ ap (λ r. if_kept r (plan (table ms)))
    (all_hold_kept rules (all_kept rules) (rw same good.3) refl (λ fault err. names_least 0 rules fault (plan_rules_rise (table ms)) err))
