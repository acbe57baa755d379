-- The kinds of tables that a plan may have, all lists of tables, and the tables of each kind.
use Rattle.std.specs.Prelude.{ℕ, List, [], ◌∷◌, ◌++◌, map}
use Rattle.tally_base.specs.Settings.{PartSettings, hist_view, trace_view, startstop_view, coincidence_view, image_view, correlation_view, cube_view, fold_view, PartSettings.HistSettings}
use Rattle.{tally_base.specs.Settings.PartSettings.{TraceSettings, StartStopSettings, CoincidenceSettings, ImageSettings, CorrelationSettings, CubeSettings, FoldSettings}, plan_text.specs.Kind.Kind}
use Rattle.plan_text.specs.{Kind.{list_of_kind, TableList}, Groups.group_list, Histograms.histogram_kind, Traces.trace_kind, StartStops.startstop_kind, Coincidences.coincidence_kind}
use Rattle.plan_text.specs.{Images.image_kind, Correlations.correlation_kind, Cubes.cube_kind, Folds.fold_kind, Shifts.shift_list, declared.plan.Plan.Plan}

-- the kinds that a plan of either version may have
abbrev pub first_kinds : List Kind
first_kinds = histogram_kind ∷ trace_kind ∷ startstop_kind ∷ coincidence_kind ∷ image_kind ∷ correlation_kind ∷ []

-- the kinds that version 2 adds
abbrev pub second_kinds : List Kind
second_kinds = cube_kind ∷ fold_kind ∷ []

-- all kinds, in the order of the report
abbrev pub kinds : List Kind
kinds = first_kinds ++ second_kinds

-- the lists that a plan of either version may have: the groups, and the tables of each such kind
abbrev pub first_lists : List TableList
first_lists = group_list ∷ map list_of_kind first_kinds

-- the lists that version 2 adds: the shifts, and the tables of each kind of its own
abbrev pub second_lists : List TableList
second_lists = shift_list ∷ map list_of_kind second_kinds

-- all lists, in the order of the rules on them
abbrev pub table_lists : List TableList
table_lists = first_lists ++ second_lists

abbrev pub keys_of : List TableList → List (List ℕ)
keys_of lists = map (λ list. list.key) lists

-- the key and the greatest length of each list
abbrev pub lists : List (List ℕ × ℕ)
lists = map (λ list. (list.key, list.most)) table_lists

-- the settings of a plan's tables: a list for each kind, in the order of the report
abbrev pub part_lists : Plan → List (List PartSettings)
part_lists plan =
    map (λ set. HistSettings (hist_view set)) plan.histograms.items
    ∷ map (λ set. TraceSettings (trace_view set)) plan.traces.items
    ∷ map (λ set. StartStopSettings (startstop_view set)) plan.startstops.items
    ∷ map (λ set. CoincidenceSettings (coincidence_view set)) plan.coincidences.items
    ∷ map (λ set. ImageSettings (image_view set)) plan.images.items
    ∷ map (λ set. CorrelationSettings (correlation_view set)) plan.correlations.items
    ∷ map (λ set. CubeSettings (cube_view set)) plan.cubes.items
    ∷ map (λ set. FoldSettings (fold_view set)) plan.folds.items
    ∷ []
