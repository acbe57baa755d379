-- What `demo` counts, and its report.
use Rattle.std.specs.Prelude.{ℕ, List, [], ◌∷◌, codes}
use Rattle.tally_base.specs.{declared.event.{Order.TheVariants.Drop, OnReserved.TheVariants.Skip}, Settings.PartSettings.{TraceSettings, StartStopSettings, CoincidenceSettings, CorrelationSettings}}
use Rattle.{ptu_definitions.specs.{Words.record_limit, Streams.{StreamSettings, summary}}, plan_text.specs.Plan.{PlanView, parts_of}, gate_plan.specs.{Shifting.sorting, Histories.history}}
use Rattle.{gate_plan.specs.Histories.reading_by, table_out.specs.Report.{report, with_events}, ptu_made.specs.{Generator.made_words, Records.made_header}}

-- the text of its plan
abbrev pub demo_text : List ℕ
demo_text = codes "[[group]]\ninputs = [1]\n[[group]]\ninputs = [2]\n[[trace]]\ngroup = 1\nwidth = 1048576\nbins = 64\n[[startstop]]\nstart = 1\nstop = 2\nwidth = 64\nbins = 64\n[[coincidence]]\nfirst = 1\nsecond = 2\nreach = 256\nwidth = 64\n[[correlation]]\nfirst = 1\nsecond = 2\nlags = 4\nlevels = 8\n"

-- the plan of this text
abbrev pub demo_plan : PlanView
demo_plan = record {
  order = Drop;
  reserved = Skip;
  records = record_limit;
  settle = 0;
  period = 1;
  shifts = [];
  groups = record { inputs = 2; gates = [] } ∷ record { inputs = 4; gates = [] } ∷ [];
  parts =
      TraceSettings (record { group = 1; origin = 0; width = 1048576; bins = 64 })
      ∷ StartStopSettings (record { start = 1; stop = 2; width = 64; bins = 64 })
      ∷ CoincidenceSettings (record { first = 1; second = 2; reach = 256; width = 64 })
      ∷ CorrelationSettings (record { first = 1; second = 2; lags = 4; levels = 8 })
      ∷ [];
}

-- how the made words are read
abbrev pub demo_reading : StreamSettings
demo_reading = reading_by demo_plan made_header

-- the report of this plan over the made file of a seed and a number of photons
unfoldable pub demo_report : ℕ → ℕ → List ℕ
demo_report seed count =
    report made_header (summary demo_reading (made_words seed count)) (with_events (parts_of demo_plan) (history (sorting demo_plan) demo_reading (made_words seed count)))
