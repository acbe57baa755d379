-- How a correlation is printed.
use Rattle.std.specs.Prelude.{◌++◌, codes, decimal, [], ℕ, ◌+◌}
use Rattle.{tally_base.specs.Settings.CorrelationView, tau_cascade.specs.Correlation.{correlation, skipped_lags, lag_count}, table_out.specs.Printed.{Printed, pair_line}}

-- a lag of a level, the first of them at place 0
abbrev pub lag_at : CorrelationView → ℕ → ℕ → ℕ
lag_at set level place = skipped_lags set level + 1 + place

unfoldable pub correlation_printed : CorrelationView → Printed
correlation_printed set = record {
  word = codes "correlation";
  settings = codes " lags " ++ decimal set.lags ++ codes " levels " ++ decimal set.levels;
  rows = set.levels;
  columns = lag_count set;
  cell = λ level place h. pair_line level (lag_at set level place) (correlation set level (lag_at set level place) h);
  rest = λ h. [];
}
