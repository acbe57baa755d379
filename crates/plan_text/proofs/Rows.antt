-- Plans with one bad thing, and small plans that are read.
use Rattle.std.proofs.Common.{◌≡◌, map, Result, ◌^◌, refl, codes, ℕ, List, Ok, Err, Some, None, [], ◌∷◌, true, false}
use Rattle.tally_base.specs.declared.{fault.Fault.{Fault, TheVariants.{PlanSyntax, PlanRule, PlanMode}}, header.Mode.TheVariants.T2}
use Rattle.tally_base.specs.{declared.part.PartKind.TheVariants.{Gate, Shift}, Settings.{ShiftView, PartSettings.{TraceSettings, StartStopSettings}}}
use Rattle.tally_base.specs.Settings.PartSettings.{CoincidenceSettings, ImageSettings, CorrelationSettings, CubeSettings, FoldSettings}
use Rattle.plan_text.{specs.{Plan.PlanView, Fits.fits, ReadPlan.plan_answer}, proofs.Called.plan_on_literals}
use Rattle.tally_base.specs.declared.event.Order.TheVariants as orders
use Rattle.tally_base.specs.declared.event.OnReserved.TheVariants as choices

-- a plan of one group, of these gates, with these shifts and no tables
abbrev of_one_group : List (ℕ × ℕ) → List ShiftView → PlanView
of_one_group gates shifts = record { order = orders.Drop; reserved = choices.Skip; records = 2 ^ 40; settle = 0; period = 100; shifts = shifts; groups = record { inputs = 1; gates = gates } ∷ []; parts = [] }

-- plans, and what is read in them
abbrev plans : List (List ℕ × Result PlanView Fault)
plans =
    (255 ∷ [], Err PlanSyntax)
    ∷ (codes "histograms = 1", Err (PlanRule 1 0))
    ∷ (codes "version = 1\nversion = 1\n", Err PlanSyntax)
    ∷ (codes "limits.events = 1\n", Err (PlanRule 5 0))
    ∷ (codes "[[histogram]]\n[[group]]\ninputs = [0]\n[[group]]\ninputs = [0]\ngate = [2, 1]\n[[group]]\ninputs = [0]\ngate = 1\n", Err (PlanRule 10 2))
    ∷ (codes "order = 1\n", Err (PlanRule 3 0))
    ∷ (codes "limits.records = 0\n", Err (PlanRule 5 0))
    ∷ (codes "group = 3\n", Err (PlanRule 6 1))
    ∷ (codes "[[group]]\ninputs = [1, 1]\n", Err (PlanRule 9 1))
    ∷ (codes "[[group]]\ninputs = [0]\n[[group]]\ninputs = [0]\ngate = [5, 5]\n", Err (PlanRule 10 2))
    ∷ (codes "[[group]]\ninputs = [0]\n[[histogram]]\ngroup = 2\nwidth = 1\nbins = 1\n", Err (PlanRule 12 1))
    ∷ (codes "version = 1.0\n", Err (PlanRule 2 0))
    ∷ (codes "version = true\n", Err (PlanRule 2 0))
    ∷ (codes "group = [{ inputs = [0] }, 3]\n", Err (PlanRule 6 1))
    ∷ (codes "group = [{inputs=[0]}, {inputs=[0]}, {inputs=[0]}, {inputs=[0]}, {inputs=[0]}, {inputs=[0]}, {inputs=[0]}, {inputs=[0]}, {inputs=[0]}, {inputs=[0]}, {inputs=[0]}, {inputs=[0]}, {inputs=[0]}, {inputs=[0]}, {inputs=[0]}, {inputs=[0]}, {inputs=[0]}, {inputs=[0]}, {inputs=[0]}, {inputs=[0]}, {inputs=[0]}, {inputs=[0]}, {inputs=[0]}, {inputs=[0]}, {inputs=[0]}, {inputs=[0]}, {inputs=[0]}, {inputs=[0]}, {inputs=[0]}, {inputs=[0]}, {inputs=[0]}, {inputs=[0]}, {inputs=[0]}, {inputs=[0]}, {inputs=[0]}, {inputs=[0]}, {inputs=[0]}, {inputs=[0]}, {inputs=[0]}, {inputs=[0]}, {inputs=[0]}, {inputs=[0]}, {inputs=[0]}, {inputs=[0]}, {inputs=[0]}, {inputs=[0]}, {inputs=[0]}, {inputs=[0]}, {inputs=[0]}, {inputs=[0]}, {inputs=[0]}, {inputs=[0]}, {inputs=[0]}, {inputs=[0]}, {inputs=[0]}, {inputs=[0]}, {inputs=[0]}, {inputs=[0]}, {inputs=[0]}, {inputs=[0]}, {inputs=[0]}, {inputs=[0]}, {inputs=[0]}, {inputs=[0]}, {inputs=[0]}]\n", Err (PlanRule 7 1))
    ∷ (codes "group = []\n", Ok (record { order = orders.Drop; reserved = choices.Skip; records = 2 ^ 40; settle = 0; period = 1; shifts = []; groups = []; parts = [] }))
    ∷ (codes "order = 'stop'\ngroup = [{ inputs = [0, 2], gate = [3, 9] }]\n", Ok (record { order = orders.Stop; reserved = choices.Skip; records = 2 ^ 40; settle = 0; period = 1; shifts = []; groups = record { inputs = 5; gates = (3, 9) ∷ [] } ∷ []; parts = [] }))
    ∷ (codes "trace = 3\n", Err (PlanRule 6 3))
    ∷ (codes "startstop = 3\n", Err (PlanRule 6 4))
    ∷ (codes "group = [{ inputs = [0] }]\ntrace = [{ group = 1, width = 1 }]\n", Err (PlanRule 13 1))
    ∷ (codes "group = [{ inputs = [0] }]\ntrace = [{ group = 1, width = 1, bins = 1 }, { group = 1, origin = 4611686018427387905, width = 1, bins = 1 }]\n", Err (PlanRule 14 2))
    ∷ (codes "group = [{ inputs = [0] }]\nstartstop = [{ start = 1, stop = 1, width = 1, bins = 1, group = 1 }]\n", Err (PlanRule 15 1))
    ∷ (codes "group = [{ inputs = [0] }]\nstartstop = [{ start = 1, stop = 2, width = 1, bins = 1 }]\n", Err (PlanRule 16 1))
    ∷ (codes "group = [{ inputs = [0] }]\nhistogram = [{ group = 1, width = 0, bins = 1 }]\ntrace = [{ group = 1, width = 1 }]\n", Err (PlanRule 12 1))
    -- a trace without an origin, one with it, and a start-stop
    ∷ (codes "group = [{ inputs = [0] }]\ntrace = [{ group = 1, width = 5, bins = 2 }, { group = 1, origin = 7, width = 4611686018427387904, bins = 1048576 }]\nstartstop = [{ start = 1, stop = 1, width = 3, bins = 4 }]\n", Ok (record { order = orders.Drop; reserved = choices.Skip; records = 2 ^ 40; settle = 0; period = 1; shifts = []; groups = record { inputs = 1; gates = [] } ∷ []; parts = TraceSettings (record { group = 1; origin = 0; width = 5; bins = 2 }) ∷ TraceSettings (record { group = 1; origin = 7; width = 2 ^ 62; bins = 2 ^ 20 }) ∷ StartStopSettings (record { start = 1; stop = 1; width = 3; bins = 4 }) ∷ [] }))
    ∷ (codes "correlation = 3\n", Err (PlanRule 6 7))
    ∷ (codes "group = [{ inputs = [0] }]\ncoincidence = [{ first = 1, second = 1, reach = 1 }]\n", Err (PlanRule 17 1))
    ∷ (codes "group = [{ inputs = [0] }]\ncoincidence = [{ first = 1, second = 1, reach = 1, width = 1 }, { first = 1, second = 1, reach = 1048577, width = 1 }]\n", Err (PlanRule 18 2))
    ∷ (codes "group = [{ inputs = [0] }]\nimage = [{ group = 1, width = 1, height = 1, dwell = 1, line = 1, row = 1 }]\n", Err (PlanRule 19 1))
    ∷ (codes "group = [{ inputs = [0] }]\nimage = [{ group = 1, width = 1, height = 1, dwell = 1, line = 1, stop = 5 }]\n", Err (PlanRule 20 1))
    ∷ (codes "group = [{ inputs = [0] }]\ncorrelation = [{ first = 1, second = 1, lags = 2, level = 1 }]\n", Err (PlanRule 21 1))
    ∷ (codes "group = [{ inputs = [0] }]\ncorrelation = [{ first = 1, second = 1, lags = 3, levels = 1 }]\n", Err (PlanRule 22 1))
    -- coincidences, an image without a frame bit, one with it, and a correlation
    ∷ (codes "group = [{ inputs = [0] }]\ncoincidence = [{ first = 1, second = 1, reach = 1048576, width = 2097152 }]\nimage = [{ group = 1, width = 2048, height = 1, dwell = 4611686018427387904, line = 4 }, { group = 1, width = 2, height = 3, dwell = 4, line = 1, frame = 2, stop = 2 }]\ncorrelation = [{ first = 1, second = 1, lags = 128, levels = 40 }]\n", Ok (record { order = orders.Drop; reserved = choices.Skip; records = 2 ^ 40; settle = 0; period = 1; shifts = []; groups = record { inputs = 1; gates = [] } ∷ []; parts = CoincidenceSettings (record { first = 1; second = 1; reach = 2 ^ 20; width = 2 ^ 21 }) ∷ ImageSettings (record { group = 1; width = 2048; height = 1; dwell = 2 ^ 62; line = 4; frame = None; stop = None; serpentine = false }) ∷ ImageSettings (record { group = 1; width = 2; height = 3; dwell = 4; line = 1; frame = Some 2; stop = Some 2; serpentine = false }) ∷ CorrelationSettings (record { first = 1; second = 1; lags = 128; levels = 40 }) ∷ [] }))
    -- ## Version 2
    -- a shift without a period
    ∷ (codes "version = 2\nshift = [{ input = 0, shift = 0 }]\n", Err (PlanRule 23 0))
    -- a period in version 1
    ∷ (codes "period = 100\n", Err (PlanRule 1 0))
    ∷ (codes "version = 3\n", Err (PlanRule 2 0))
    ∷ (codes "version = 2\nshift = 3\n", Err (PlanRule 6 8))
    ∷ (codes "version = 2\nperiod = 1\nshift = [{ input = 0 }]\n", Err (PlanRule 24 1))
    -- a shift of the period, and an input that does not rise
    ∷ (codes "version = 2\nperiod = 7\nshift = [{ input = 0, shift = 6 }, { input = 1, shift = 7 }]\n", Err (PlanRule 25 2))
    ∷ (codes "version = 2\nperiod = 7\nshift = [{ input = 3, shift = 6 }, { input = 3, shift = 0 }]\n", Err (PlanRule 25 2))
    -- each version has its own key of gates
    ∷ (codes "group = [{ inputs = [0], gates = [[0, 5]] }]\n", Err (PlanRule 8 1))
    ∷ (codes "version = 2\ngroup = [{ inputs = [0], gate = [0, 5] }]\n", Err (PlanRule 8 1))
    ∷ (codes "version = 2\ngroup = [{ inputs = [0], gates = [[0, 5], [4, 6]] }]\n", Err (PlanRule 10 1))
    ∷ (codes "group = [{ inputs = [0] }]\nimage = [{ group = 1, width = 1, height = 1, dwell = 1, line = 1, serpentine = true }]\n", Err (PlanRule 19 1))
    ∷ (codes "version = 2\ngroup = [{ inputs = [0] }]\nimage = [{ group = 1, width = 1, height = 1, dwell = 1, line = 1, serpentine = 1 }]\n", Err (PlanRule 20 1))
    -- a period alone
    ∷ (codes "version = 2\nperiod = 32768\n", Ok (record { order = orders.Drop; reserved = choices.Skip; records = 2 ^ 40; settle = 0; period = 32768; shifts = []; groups = []; parts = [] }))
    -- two gates that touch, two shifts, and an image with rows that run backwards
    ∷ (codes "version = 2\nperiod = 100\nshift = [{ input = 0, shift = 10 }, { input = 64, shift = 0 }]\ngroup = [{ inputs = [0], gates = [[0, 5], [5, 32768]] }]\nimage = [{ group = 1, width = 3, height = 2, dwell = 10, line = 1, serpentine = true }]\n", Ok (record { order = orders.Drop; reserved = choices.Skip; records = 2 ^ 40; settle = 0; period = 100; shifts = record { input = 0; shift = 10 } ∷ record { input = 64; shift = 0 } ∷ []; groups = record { inputs = 1; gates = (0, 5) ∷ (5, 32768) ∷ [] } ∷ []; parts = ImageSettings (record { group = 1; width = 3; height = 2; dwell = 10; line = 1; frame = None; stop = None; serpentine = true }) ∷ [] }))
    -- ## Settling
    ∷ (codes "version = 2\nsettle = 64\n", Ok (record { order = orders.Drop; reserved = choices.Skip; records = 2 ^ 40; settle = 64; period = 1; shifts = []; groups = []; parts = [] }))
    ∷ (codes "version = 2\nsettle = 65\n", Err (PlanRule 26 0))
    ∷ (codes "settle = 1\n", Err (PlanRule 1 0))
    -- ## Cubes
    ∷ (codes "version = 2\ngroup = [{ inputs = [0] }]\ncube = [{ group = 1, width = 2048, height = 2048, dwell = 10, line = 1, frame = 2, dwidth = 5, dbins = 16 }]\n", Ok (record { order = orders.Drop; reserved = choices.Skip; records = 2 ^ 40; settle = 0; period = 1; shifts = []; groups = record { inputs = 1; gates = [] } ∷ []; parts = CubeSettings (record { image = record { group = 1; width = 2048; height = 2048; dwell = 10; line = 1; frame = Some 2; stop = None; serpentine = false }; dwidth = 5; dbins = 16 }) ∷ [] }))
    ∷ (codes "version = 2\ngroup = [{ inputs = [0] }, { inputs = [1] }, { inputs = [2] }]\nfold = [{ groups = [1, 3], window = 1048576 }]\n", Ok (record { order = orders.Drop; reserved = choices.Skip; records = 2 ^ 40; settle = 0; period = 1; shifts = []; groups = record { inputs = 1; gates = [] } ∷ record { inputs = 2; gates = [] } ∷ record { inputs = 4; gates = [] } ∷ []; parts = FoldSettings (record { groups = 1 ∷ 3 ∷ []; window = 2 ^ 20 }) ∷ [] }))
    ∷ (codes "fold = []\n", Err (PlanRule 1 0))
    ∷ (codes "version = 2\ngroup = [{ inputs = [0] }]\nfold = [{ groups = [1, 1], window = 1 }]\n", Err (PlanRule 31 1))
    ∷ (codes "cube = []\n", Err (PlanRule 1 0))
    ∷ (codes "version = 2\ngroup = [{ inputs = [0] }]\ncube = [{ group = 1, width = 2048, height = 2048, dwell = 10, line = 1, dwidth = 1, dbins = 17 }]\n", Err (PlanRule 29 1))
    ∷ []

pub read_rows : map (λ (row : List ℕ × Result PlanView Fault). plan_answer row.0) plans ≡ map (λ (row : List ℕ × Result PlanView Fault). row.1) plans
unfolding plan_on_literals
read_rows = refl

-- The gate of a group is named before a shift.
pub mode_rows : map (fits T2) ((of_one_group [] (record { input = 0; shift = 10 } ∷ [])) ∷ (of_one_group ((0, 5) ∷ (13, 14) ∷ []) (record { input = 0; shift = 10 } ∷ [])) ∷ (of_one_group [] []) ∷ [])
    ≡ Err (PlanMode Shift 1 T2) ∷ Err (PlanMode Gate 1 T2) ∷ Ok tt ∷ []
unfolding fits
mode_rows = refl
