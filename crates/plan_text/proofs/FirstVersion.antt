-- A plan of version 1 says nothing that version 2 adds.
use Rattle.std.proofs.Common.{rules, ◌≡◌, refl, ℕ, ◌≤◌, Bool, true, false, ◌&&◌, ◌||◌, List, [], ◌∷◌, length, filter_map, codes, Option, Some, None, Ok, inl}
use Rattle.std.proofs.{Common.{inr, arith, Ordering, nat_cmp, All}, lemmas.{Bool.{and_parts, cases_Bool}, List.Elements.{All-from_recursion, All-append}}}
use Rattle.std.{proofs.lemmas.{List.Elements.All-nil, Map.Lookups.exact_bytes}, specs.{List.{AllByRecursion, cons_option, flat_map}, Option.option_map}}
use Rattle.{std.specs.{Ordering.match_ordering, Cmp.Lexicographic.slice_cmp}, toml.specs.Data.{Data, Members, table, no_members, member, get, get_member}}
use Rattle.{tally_base.specs.Settings.{PartSettings, GroupView, ImageView, PartSettings.ImageSettings}, toml_rules.specs.{Rules.AllHold, Values.is_one_of}}
use Rattle.{toml_rules.specs.Values.{members_within, has_keys, list_at}, plan_text.specs.{Version.is_second, Kind.{Kind, tables}, Kinds.{kinds, second_kinds}}}
use Rattle.plan_text.specs.{Kinds.table_lists, Groups.{groups, group, group_of, group_number, inputs, gates, one_gate}, Shifts.{shifts, period, period_or_one}}
use Rattle.plan_text.specs.{Shifts.all_shifts, Settle.{settle, settle_or_none}, Histograms.{histogram_kind, histogram, hist_of}, Traces.{trace_kind, trace}}
use Rattle.plan_text.specs.{Traces.trace_of, StartStops.{startstop_kind, startstop, startstop_of}, Coincidences.{coincidence_kind, coincidence, coincidence_of}}
use Rattle.plan_text.specs.Images.{images, image, image_values, image_of, raster, bits, serpentine, other_image_keys, has_image_keys}
use Rattle.plan_text.specs.{Correlations.{correlation_kind, correlation, correlation_of, lags}, Document.{document_rules, known_keys, has_known_keys}}
use Rattle.plan_text.{specs.{Plan.{PlanView, plan, plan_rules}, ReadPlan.{document, plan_answer}, FirstVersion.{IsOfFirst, SaysFirst}}, proofs.Whole.all_before}
use Rattle.plan_text.proofs.{Whole.{all_after, lists_hold, each_holds}, Called.{valid, plans}}

-- ## A key that is not known

some_same : {X : Type 0} {x y : X} → Some x ≡ Some y → x ≡ y
some_same is = cc

-- at one member, of which the rest has nothing at the key
absent_here : (key k : List ℕ) (o : Ordering) (d : Data) (rest : Option Data) → slice_cmp nat_cmp key k ≡ o
    → (key ≡ k → ⊥) → rest ≡ None → match_ordering o rest (Some d) rest ≡ None
absent_here key k o d rest is other none = search (rules, arith, exact_bytes)

absent : (needed other : List (List ℕ)) (key : List ℕ) (ms : Members) → (is_one_of needed key || is_one_of other key) ≡ false
    → members_within needed other ms ≡ true → get_member key ms ≡ None
absent needed other key no_members unknown within = refl
absent needed other key (member k d ms) unknown within =
    let here = and_parts (is_one_of needed k || is_one_of other k) (members_within needed other ms) within in
    absent_here key k (slice_cmp nat_cmp key k) d _ refl (λ same. let known =
    rw same at unknown in let is_known = here.0 in cc) (absent needed other key ms unknown here.1)

-- A table with only known keys has nothing at another.
absent_in : (needed other : List (List ℕ)) (key : List ℕ) (d : Data)
    → (is_one_of needed key || is_one_of other key) ≡ false → has_keys needed other d ≡ true → get key d ≡ None
absent_in needed other key d unknown has = search (rules, arith, absent)

-- ## What is found in a list

found_here : {Y : Type 0} (P : Y → Type 0) (here : Option Y) (rest : List Y)
    → ((y : Y) → here ≡ Some y → P y) → AllByRecursion P rest → AllByRecursion P (cons_option here rest)
found_here P here rest each all = search (rules, arith)

found_all : {X Y : Type 0} (f : X → Option Y) (P : Y → Type 0) (Q : X → Type 0) (xs : List X)
    → ((x : X) (y : Y) → Q x → f x ≡ Some y → P y) → AllByRecursion Q xs → AllByRecursion P (filter_map f xs)
found_all f P Q [] each all = tt
found_all f P Q (x ∷ xs) each all = found_here P (f x) (filter_map f xs) (λ y. each x y all.0) (found_all f P Q xs each all.1)

any : {X : Type 0} (xs : List X) → AllByRecursion (λ x. Unit {0}) xs
any [] = tt
any (x ∷ xs) = (tt, any xs)

-- ## Tables of the kinds of version 1

hist_is : (group width bins : Option ℕ) (p : PartSettings) → hist_of group width bins ≡ Some p → IsOfFirst p
hist_is group width bins p is = search (rules, arith, some_same)

trace_is : (group begin width bins : Option ℕ) (p : PartSettings) → trace_of group begin width bins ≡ Some p → IsOfFirst p
trace_is group begin width bins p is = search (rules, arith, some_same)

startstop_is : (start stop width bins : Option ℕ) (p : PartSettings) → startstop_of start stop width bins ≡ Some p → IsOfFirst p
startstop_is start stop width bins p is = search (rules, arith, some_same)

coincidence_is : (first second reach width : Option ℕ) (p : PartSettings) → coincidence_of first second reach width ≡ Some p → IsOfFirst p
coincidence_is first second reach width p is = search (rules, arith, some_same)

correlation_is : (first second lags levels : Option ℕ) (p : PartSettings) → correlation_of first second lags levels ≡ Some p → IsOfFirst p
correlation_is first second lags levels p is = search (rules, arith, some_same)

image_is : (group : Option ℕ) (raster : Option (ℕ × (ℕ × ℕ))) (bits : Option (ℕ × (Option ℕ × Option ℕ))) (set : ImageView)
    → image_of group raster bits (Some false) ≡ Some set → set.serpentine ≡ false
image_is group raster bits set is = search (rules, arith, some_same)

image_part : (found : Option ImageView) (p : PartSettings) → ((set : ImageView) → found ≡ Some set → set.serpentine ≡ false)
    → option_map ImageSettings found ≡ Some p → IsOfFirst p
image_part found p forwards is = search (rules, arith, some_same)

group_is : (set : Option ℕ) (ranges : Option (List (ℕ × ℕ))) (g : GroupView)
    → ((gates : List (ℕ × ℕ)) → ranges ≡ Some gates → length gates ≤ 1) → group_of set ranges ≡ Some g → length g.gates ≤ 1
group_is set ranges g few is = search (rules, arith, some_same)

one_range : (range : Option (ℕ × ℕ)) (gates : List (ℕ × ℕ)) → option_map (λ range. range ∷ []) range ≡ Some gates → length gates ≤ 1
one_range range gates is = search (rules, arith, some_same)

one_gate_is : (found : Option Data) (gates : List (ℕ × ℕ)) → one_gate found ≡ Some gates → length gates ≤ 1
one_gate_is found gates is = search (rules, arith, some_same, one_range)

-- ## A plan of version 1

module _ (d : Data) (first : is_second d ≡ false) (all : AllHold (plan_rules d)) where
  known : has_known_keys d ≡ true
  unfolding plan_rules document_rules
  known = elim (cases_Bool (has_known_keys d)) [
    | inl holds ↦ holds
    | inr breaks ↦ absurd (all_before (document_rules d) (flat_map (λ list. list.rules d) table_lists) all 1 0 (inl (refl, inl (refl, breaks))))
  ]

  none_at : (key : List ℕ) → is_one_of (known_keys false) key ≡ false → get key d ≡ None
  unfolding has_known_keys
  none_at key unknown = absent_in [] (known_keys false) key d unknown (rw first at known)

  no_tables : (key : List ℕ) → is_one_of (known_keys false) key ≡ false → list_at key d ≡ []
  no_tables key unknown = rw (none_at key unknown) refl

  no_shifts : shifts d ≡ []
  unfolding known_keys
  no_shifts = no_tables (codes "shift") refl

  one_period : period_or_one d ≡ 1
  unfolding known_keys period_or_one period
  one_period = rw (no_shifts, none_at (codes "period") refl) refl

  none_settled : settle_or_none d ≡ 0
  unfolding known_keys settle_or_none settle
  none_settled = rw (none_at (codes "settle") refl) refl

  shifts_none : filter_map (λ set. set) (all_shifts d) ≡ []
  unfolding all_shifts
  shifts_none = rw no_shifts refl

  few_gates : (one : Data) (g : GroupView) → group d one ≡ Some g → length g.gates ≤ 1
  unfolding group gates
  few_gates one g is = group_is (inputs one) (one_gate (get (codes "gate") one)) g (one_gate_is (get (codes "gate") one)) (rw first at is)

  images_known : AllByRecursion (λ t. has_image_keys d t ≡ true) (images d)
  unfolding plan_rules
  images_known =
      let hold = lists_hold table_lists d (all_after (document_rules d) (flat_map (λ list. list.rules d) table_lists) all) in
      each_holds (has_image_keys d) 1 (images d) (λ at b. hold.1.1.1.1.1.0 19 at (inl (refl, b)))

  image_forwards : (t : Data) (p : PartSettings) → has_image_keys d t ≡ true → image d t ≡ Some p → IsOfFirst p
  unfolding has_image_keys image_values serpentine
  image_forwards t p has is =
      let none = absent_in (codes "group" ∷ codes "width" ∷ codes "height" ∷ codes "dwell" ∷ codes "line" ∷ [])
      (other_image_keys false) (codes "serpentine") t refl (rw first at has) in
      image_part (image_values d t) p (λ set found. image_is (group_number d (get (codes "group") t)) (raster t) (bits t) set (rw none at found)) is

  -- the tables of a kind are of version 1
  abbrev OfFirst : Kind → Type 0
  OfFirst kind = AllByRecursion IsOfFirst (filter_map (kind.read d) (tables kind d))

  -- no table is of a kind whose key is not known
  none_of : (more : List Kind) → AllByRecursion (λ kind. is_one_of (known_keys false) kind.key ≡ false) more → AllByRecursion OfFirst more
  none_of [] unknown = tt
  none_of (kind ∷ more) unknown = (rw (no_tables kind.key unknown.0) tt, none_of more unknown.1)

  each_kind : AllByRecursion OfFirst kinds
  unfolding known_keys histogram trace startstop coincidence correlation
  each_kind =
      let free = λ (kind : Kind) (is : (t : Data) (p : PartSettings) → kind.read d t ≡ Some p
      → IsOfFirst p). found_all (kind.read d) IsOfFirst (λ t. Unit {0}) (tables kind d) (λ t p any. is t p) (any (tables kind d)) in
      let of_images = found_all (image d) IsOfFirst (λ t. has_image_keys d t ≡ true) (images d) image_forwards images_known in
      let last : _ × (_ × (_ × _)) = (free coincidence_kind (λ t p. coincidence_is _ _ _ _ p), (of_images, (free correlation_kind (λ t p. correlation_is _ _ _ _ p), none_of second_kinds (search rules)))) in
      (free histogram_kind (λ t p. hist_is _ _ _ p), (free trace_kind (λ t p. trace_is _ _ _ _ p), (free startstop_kind (λ t p. startstop_is _ _ _ _ p), last)))

  parts_first : (more : List Kind) → AllByRecursion OfFirst more → All IsOfFirst (flat_map (λ kind. filter_map (kind.read d) (tables kind d)) more)
  parts_first [] of_first = All-nil IsOfFirst
  parts_first (kind ∷ more) of_first = All-append IsOfFirst _ _ (All-from_recursion IsOfFirst _ of_first.0) (parts_first more of_first.1)

  pub says_first : SaysFirst (plan d)
  unfolding plan
  says_first = record {
    period = one_period;
    shifts = shifts_none;
    settle = none_settled;
    gates = All-from_recursion _ _ (found_all (group d) (λ g. length g.gates ≤ 1) (λ one. Unit {0}) (groups d) (λ one g any. few_gates one g) (any (groups d)));
    parts = parts_first kinds each_kind;
  }

pub first_version : (bytes : List ℕ) (ms : Members) (view : PlanView) → document bytes ≡ Some ms
    → is_second (table ms) ≡ false → plan_answer bytes ≡ Ok view → SaysFirst view
first_version bytes ms view is first ok =
    let good = valid bytes view ok in
    let same_ms : good.1 ≡ ms = let read = good.2 in cc in
    let same : view ≡ plan (table ms) = let planned = plans bytes ms good is in cc in
    rw same (says_first (table ms) first (rw same_ms at good.3))
