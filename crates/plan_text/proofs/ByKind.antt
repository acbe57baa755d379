-- What proofs ask of each kind of table: its place in the order of the report, and that none of its tables keeps more
-- than one of the greatest settings.
use Rattle.{toml.specs.Data.{Data, Items, as_array, get}, tally_base.specs.Settings.{PartSettings, ImageView, entries, PartSettings.HistSettings}}
use Rattle.tally_base.specs.Settings.PartSettings.{TraceSettings, StartStopSettings, CoincidenceSettings, ImageSettings, CorrelationSettings, CubeSettings}
use Rattle.{tally_base.specs.{Settings.PartSettings.FoldSettings, Limits.wrap_limit}, toml_rules.specs.{Values.{integer_in, number_in}, Rules.RiseFrom}}
use Rattle.plan_text.{proofs.Numbers.integer_most, specs.{Kind.Kind, Kinds.{kinds, lists, part_lists}, Groups.{groups, group_number, group_rules}}}
use Rattle.plan_text.specs.{Histograms.{histogram, hist_of, histogram_kind}, Traces.{trace, trace_of, trace_kind}, StartStops.{startstop, startstop_of}}
use Rattle.plan_text.specs.{StartStops.startstop_kind, Coincidences.{coincidence, coincidence_of, coincidence_kind}, Images.{image_kind, image_values}}
use Rattle.plan_text.specs.{Images.{image_of, raster, raster_of, bits, serpentine}, Correlations.{correlation, correlation_of, correlation_kind, lags, if_even}}
use Rattle.plan_text.specs.{Cubes.{cube, cube_of, cube_kind, bins, has_few_bins}, Folds.{fold_settings, fold_of, fold_kind, numbers, numbers_in, numbers_from}}
use Rattle.plan_text.specs.{Plan.{plan, plan_rules}, declared.plan.Plan.Plan, Document.{document_rules, rule_of_lists, rule_of_lengths}, Shifts.shift_rules}
use Rattle.std.proofs.Common.{rules, ◌≡◌, refl, ℕ, suc, ◌+◌, ◌-◌, ◌*◌, ◌/◌, ◌^◌, ◌≤◌, Bool, true, false, cond, List, [], ◌∷◌, map, codes, ◌&&◌, nat_le, length}
use Rattle.std.proofs.{Common.{Option, Some, None, arith}, lemmas.{Nat.mul-le, Bool.Decides.nat_tests}, Math.{Nat.div-le_of_le-mul, Pow.pow_mono}}
use Rattle.std.specs.{List.AllByRecursion, Option.{option_and_then, option_map}}

-- ## Its place

-- the place of a kind in the order of the report
abbrev pub kind_at : PartSettings → ℕ
kind_at (HistSettings set) = 0
kind_at (TraceSettings set) = 1
kind_at (StartStopSettings set) = 2
kind_at (CoincidenceSettings set) = 3
kind_at (ImageSettings set) = 4
kind_at (CorrelationSettings set) = 5
kind_at (CubeSettings set) = 6
kind_at (FoldSettings set) = 7

-- each part is of the kind at this place
abbrev pub AreAt : ℕ → List PartSettings → Type 0
AreAt n = AllByRecursion (λ part. kind_at part ≡ n)

-- the lists are of one kind after the other, from this place on
abbrev pub AreByKinds : ℕ → List (List PartSettings) → Type 0
AreByKinds n [] = Unit {0}
AreByKinds n (list ∷ lists) = AreAt n list × AreByKinds (n + 1) lists

of_kind : {S : Type 0} (settings : S → PartSettings) (n : ℕ) → ((set : S) → kind_at (settings set) ≡ n) → (sets : List S) → AreAt n (map settings sets)
of_kind settings n is [] = tt
of_kind settings n is (set ∷ sets) = (is set, of_kind settings n is sets)

pub by_kinds : (plan : Plan) → AreByKinds 0 (part_lists plan)
by_kinds plan = search (rules, arith, of_kind)

-- ## Its greatest table

-- a number that was read is not above the greatest
most_read : (least greatest : ℕ) (found : Option Data) (n : ℕ) → number_in least greatest found ≡ Some n → n ≤ greatest
most_read least greatest found n is = search (rules, arith, integer_most)

-- a number that may be there is at most so great
abbrev IsAtMost : ℕ → Option ℕ → Type 0
IsAtMost most found = (n : ℕ) → found ≡ Some n → n ≤ most

-- ## The greatest table of each kind

hist_keeps : (group width bins : Option ℕ) (p : PartSettings) → IsAtMost 32768 bins → hist_of group width bins ≡ Some p → entries p ≤ 32769
hist_keeps group width bins p few is = search (rules, arith)

trace_of_keeps : (group begin width bins : Option ℕ) (p : PartSettings)
    → IsAtMost (2 ^ 20) bins → trace_of group begin width bins ≡ Some p → entries p ≤ 1048579
trace_of_keeps group begin width bins p few is = search (rules, arith)

startstop_of_keeps : (start stop width bins : Option ℕ) (p : PartSettings)
    → IsAtMost 32768 bins → startstop_of start stop width bins ≡ Some p → entries p ≤ 32770
startstop_of_keeps start stop width bins p few is = search (rules, arith)

-- a quotient is not above what is divided
quotient : (n m : ℕ) → n / m ≤ n
quotient n m = search (rules, arith, div-le_of_le-mul)

coincidence_of_keeps : (first second reach width : Option ℕ) (p : PartSettings)
    → IsAtMost (2 ^ 20) reach → coincidence_of first second reach width ≡ Some p → entries p ≤ 3145731
coincidence_of_keeps (Some first) (Some second) (Some reach) (Some width) p few is =
    let same : p ≡ CoincidenceSettings (record { first = first; second = second; reach = reach; width = width }) = cc in
    rw same (omega (arith, few reach refl, quotient (2 * reach) width))
coincidence_of_keeps _ _ _ _ p few is = cc

-- a raster has at most 2,048 by 2,048 pixels
raster_few : (width height dwell : Option ℕ) (r : ℕ × (ℕ × ℕ)) → IsAtMost 2048 width
    → IsAtMost 2048 height → raster_of width height dwell ≡ Some r → (r.0 ≤ 2048) × (r.1.0 ≤ 2048)
raster_few (Some width) (Some height) (Some dwell) r narrow low is =
    let same : r ≡ (width, (height, dwell)) = cc in
    rw same (narrow width refl, low height refl)
raster_few _ _ _ r narrow low is = cc

raster_in : (t : Data) (r : ℕ × (ℕ × ℕ)) → raster t ≡ Some r → (r.0 ≤ 2048) × (r.1.0 ≤ 2048)
unfolding raster
raster_in t r is =
    raster_few (number_in 1 2048 (get (codes "width") t)) (number_in 1 2048 (get (codes "height") t)) (number_in 1 wrap_limit (get (codes "dwell") t)) r (most_read 1 2048 (get (codes "width") t)) (most_read 1 2048 (get (codes "height") t)) is

image_of_keeps : (group : Option ℕ) (raster : Option (ℕ × (ℕ × ℕ))) (bits : Option (ℕ × (Option ℕ × Option ℕ))) (serpentine : Option Bool) (set : ImageView) → ((r : ℕ × (ℕ × ℕ)) → raster ≡ Some r → (r.0 ≤ 2048) × (r.1.0 ≤ 2048)) → image_of group raster bits serpentine ≡ Some set → entries (ImageSettings set) ≤ 4194308
image_of_keeps (Some group) (Some raster) (Some bits) (Some serpentine) set few is =
    let same : set ≡ record { group = group; width = raster.0; height = raster.1.0; dwell = raster.1.1; line = bits.0; frame = bits.1.0; stop = bits.1.1; serpentine = serpentine } = cc in
    let few = few raster refl in
    rw same (omega (arith, mul-le raster.0 raster.1.0 2048 2048 few.0 few.1))
image_of_keeps _ _ _ _ set few is = cc

values_keep : (d t : Data) (set : ImageView) → image_values d t ≡ Some set → entries (ImageSettings set) ≤ 4194308
unfolding image_values
values_keep d t set is = image_of_keeps (group_number d (get (codes "group") t)) (raster t) (bits t) (serpentine t) set (raster_in t) is

settings_keep : (found : Option ImageView) (p : PartSettings) → ((set : ImageView) → found ≡ Some set → entries (ImageSettings set) ≤ 4194308)
    → option_map ImageSettings found ≡ Some p → entries p ≤ 4194308
settings_keep found p few is = search (rules, arith)

correlation_of_keeps : (first second lags levels : Option ℕ) (p : PartSettings) → IsAtMost 128 lags
    → IsAtMost 40 levels → correlation_of first second lags levels ≡ Some p → entries p ≤ 7784
correlation_of_keeps (Some first) (Some second) (Some lags) (Some levels) p near few is =
    let same : p ≡ CorrelationSettings (record { first = first; second = second; lags = lags; levels = levels }) = cc in
    let near = near lags refl in
    let few = few levels refl in
    rw same (omega
    (arith, mul-le levels (lags + 1) 40 129 few (omega (arith, near)), mul-le (levels - 1) (lags / 2) 39 64 (omega (arith, few)) (omega (arith, near))))
correlation_of_keeps _ _ _ _ p near few is = cc

even_most : (found : Option ℕ) (most : ℕ) → IsAtMost most found → IsAtMost most (option_and_then if_even found)
even_most None most few n is = cc
even_most (Some m) most few n is = let all = few m refl in grind (arith, nat_tests, is, all)

lags_few : (t : Data) → IsAtMost 128 (lags t)
unfolding lags
lags_few t = even_most (number_in 2 128 (get (codes "lags") t)) 128 (most_read 2 128 (get (codes "lags") t))

few_bins_keep : (image : ImageView) (bins : ℕ × ℕ) (p : PartSettings) (few : Bool) → has_few_bins image bins.1 ≡ few
    → cond few (Some (CubeSettings (record { image = image; dwidth = bins.0; dbins = bins.1 }))) None ≡ Some p → entries p ≤ 67108869
few_bins_keep image bins p true few is = search (rules, arith)
few_bins_keep image bins p false few is = cc

cube_of_keeps : (image : Option ImageView) (bins : Option (ℕ × ℕ)) (p : PartSettings) → cube_of image bins ≡ Some p → entries p ≤ 67108869
cube_of_keeps image bins p is = search (rules, arith, few_bins_keep)

-- as many numbers as integers
counted : (n : ℕ) (more : Option (List ℕ)) (count : ℕ) (ns : List ℕ) → ((ms : List ℕ) → more ≡ Some ms → length ms ≡ count)
    → option_map (λ numbers. n ∷ numbers) more ≡ Some ns → length ns ≡ suc count
counted n None count ns few is = cc
counted n (Some ms) count ns few is = search (rules, arith)

first_counted : (found : Option ℕ) (most : ℕ) (ds : List Data) (ns : List ℕ) → ((low : ℕ) (ms : List ℕ) → numbers_from most low ds ≡ Some ms → length ms ≡ length ds) → option_and_then (λ n. option_map (λ numbers. n ∷ numbers) (numbers_from most (n + 1) ds)) found ≡ Some ns → length ns ≡ suc (length ds)
first_counted found most ds ns few is = search (rules, arith, counted)

numbers_count : (most low : ℕ) (ds : List Data) (ns : List ℕ) → numbers_from most low ds ≡ Some ns → length ns ≡ length ds
numbers_count most low [] ns is = let same : ns ≡ [] = cc in rw same refl
numbers_count most low (d ∷ ds) ns is = first_counted (integer_in low most d) most ds ns (λ low ms. numbers_count most low ds ms) is

some_and_few : (a b : Bool) → (a && b) ≡ true → b ≡ true
some_and_few a b is = search (rules, arith)

among_few : (most : ℕ) (ds : List Data) (ns : List ℕ) (few : Bool) → (nat_le 1 (length ds) && nat_le (length ds) 6) ≡ few
    → cond few (numbers_from most 1 ds) None ≡ Some ns → length ns ≤ 6
among_few most ds ns true few is = search (rules, arith, some_and_few, numbers_count)
among_few most ds ns false few is = cc

in_few : (most : ℕ) (found : Option Items) (ns : List ℕ) → numbers_in most found ≡ Some ns → length ns ≤ 6
in_few most found ns is = search (rules, arith, among_few)

numbers_few : (d t : Data) (ns : List ℕ) → numbers d t ≡ Some ns → length ns ≤ 6
unfolding numbers
numbers_few d t ns is = in_few (length (groups d)) (option_and_then as_array (get (codes "groups") t)) ns is

fold_of_keeps : (groups : Option (List ℕ)) (window : Option ℕ) (p : PartSettings) → ((ns : List ℕ) → groups ≡ Some ns → length ns ≤ 6)
    → IsAtMost (2 ^ 20) window → fold_of groups window ≡ Some p → entries p ≤ 1048642
fold_of_keeps (Some groups) (Some window) p few near is =
    let same : p ≡ FoldSettings (record { groups = groups; window = window }) = cc in
    let sets : 2 ^ length groups ≤ 2 ^ 6 = pow_mono (few groups refl) in
    rw same (omega (arith, near window refl, sets))
fold_of_keeps _ _ p few near is = cc

-- ## All kinds

-- No table of the kind keeps more than one of its greatest settings.
abbrev pub KeepsFew : Data → Kind → Type 0
KeepsFew d kind = (t : Data) (p : PartSettings) → kind.read d t ≡ Some p → entries p ≤ entries kind.greatest

pub kinds_keep_few : (d : Data) → AllByRecursion (KeepsFew d) kinds
unfolding histogram trace startstop coincidence correlation cube fold_settings
kinds_keep_few d =
    let hist : KeepsFew d histogram_kind = λ t p is. search (rules, arith, hist_keeps, most_read) in
    let trace : KeepsFew d trace_kind = λ t p is. search (rules, arith, trace_of_keeps, most_read) in
    let startstop : KeepsFew d startstop_kind = λ t p is. search (rules, arith, startstop_of_keeps, most_read) in
    let coincidence : KeepsFew d coincidence_kind = λ t p is. search (rules, arith, coincidence_of_keeps, most_read) in
    let image : KeepsFew d image_kind = λ t p is. settings_keep (image_values d t) p (values_keep d t) is in
    let correlation : KeepsFew d correlation_kind = λ t p is. search (rules, arith, correlation_of_keeps, lags_few, most_read) in
    let cube : KeepsFew d cube_kind = λ t p is. cube_of_keeps (image_values d t) (bins t) p is in
    let fold : KeepsFew d fold_kind = λ t p is. search (rules, arith, fold_of_keeps, numbers_few, most_read) in
    (hist, (trace, (startstop, (coincidence, (image, (correlation, (cube, (fold, tt))))))))

-- The rules of a plan stand in their order.

pub plan_rules_rise : (d : Data) → RiseFrom 0 (plan_rules d)
unfolding plan_rules document_rules rule_of_lists rule_of_lengths group_rules shift_rules
plan_rules_rise d = grind arith
