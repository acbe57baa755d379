-- What a trace without end prints of the events that it is given, and how many bins it has by their counts.
use Rattle.std.specs.{Prelude.{ℕ, Bool, ◌+◌, ◌-◌, ◌/◌, ◌==◌, ◌&&◌, nat_le, max, List, [], ◌++◌, map, fold, count_by, codes, decimal, if◌then◌else◌, sum_by}, List.{range_with_len, flat_map}}
use Rattle.{tally_base.specs.{declared.event.Event.Event, Events.{is_photon, is_in}, Settings.TraceView, Tally.History}, count_trace.specs.TraceCounts.{in_trace_bin, count_before}}

-- a bin of this count or more is counted in one number, whatever its count
abbrev pub frequency_limit : ℕ
frequency_limit = 1024

-- it is a photon of the group, and not before the origin
abbrev pub is_binned : TraceView → Event × ℕ → Bool
is_binned set x = is_photon x.0 && (is_in x.1 set.group && nat_le set.origin x.0.time)

-- the number of the bin of a time
abbrev pub bin_at : TraceView → ℕ → ℕ
bin_at set time = (time - set.origin) / set.width

-- how many bins there are up to the last that isn't empty
abbrev pub span : TraceView → History → ℕ
span set h = fold (λ n x. if is_binned set x then max n (bin_at set x.0.time + 1) else n) 0 h

-- the line of a bin and its count. An empty bin has no line.
abbrev pub bin_line : ℕ → ℕ → List ℕ
bin_line bin count = if count == 0 then [] else decimal bin ++ codes " " ++ decimal count ++ codes "\n"

-- the lines of the first bins
abbrev pub bin_lines : TraceView → ℕ → History → List ℕ
bin_lines set n h = flat_map (λ b. bin_line b (in_trace_bin set b h)) (range_with_len 0 n)

-- the lines of the bins before the last that isn't empty
abbrev pub closed_lines : TraceView → History → List ℕ
closed_lines set h = bin_lines set (span set h - 1) h

-- the counts of the first bins
abbrev pub counts : TraceView → ℕ → History → List ℕ
counts set n h = map (λ b. in_trace_bin set b h) (range_with_len 0 n)

-- how many of the counts are c
abbrev pub frequency : List ℕ → ℕ → ℕ
frequency all c = count_by (λ n. n == c) all

-- how many of the counts have no number of their own
abbrev pub above : List ℕ → ℕ
above all = count_by (λ n. nat_le frequency_limit n) all

-- the line of a count and of how many bins have it. A count that no bin has, has no line.
abbrev pub frequency_line : ℕ → ℕ → List ℕ
frequency_line c bins = if bins == 0 then [] else codes "frequency " ++ decimal c ++ codes " " ++ decimal bins ++ codes "\n"

-- the lines of the counts below n
abbrev pub frequency_lines : List ℕ → ℕ → List ℕ
frequency_lines all n = flat_map (λ c. frequency_line c (frequency all c)) (range_with_len 0 n)

-- the lines of all counts that have a number of their own
unfoldable pub frequencies_text : List ℕ → List ℕ
frequencies_text all = frequency_lines all frequency_limit

-- the line of what came before the origin, and that of the bins of a greater count
abbrev pub before_line : ℕ → List ℕ
before_line before = codes "before " ++ decimal before ++ codes "\n"

abbrev pub above_line : ℕ → List ℕ
above_line many = codes "above " ++ decimal many ++ codes "\n"

-- how often each count came
abbrev pub summary_text : List ℕ → ℕ → List ℕ
summary_text all before = before_line before ++ frequencies_text all ++ above_line (above all)

abbrev pub first_line : TraceView → List ℕ
first_line set = codes "trace 1 origin " ++ decimal set.origin ++ codes " width " ++ decimal set.width ++ codes "\n"

-- what is printed before the end: the first line, and the lines of all bins but the last that isn't empty
abbrev pub open_text : TraceView → History → List ℕ
open_text set h = first_line set ++ closed_lines set h

-- the whole text: the first line, the lines of all bins, and how often each count came
abbrev pub whole_text : TraceView → History → List ℕ
whole_text set h = first_line set ++ bin_lines set (span set h) h ++ summary_text (counts set (span set h) h) (count_before set h)

-- how many of the counts have a number of their own
abbrev pub in_all_frequencies : List ℕ → ℕ
in_all_frequencies all = sum_by (λ c. frequency all c) (range_with_len 0 frequency_limit)
