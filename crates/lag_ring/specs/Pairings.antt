-- What a clause sees of the lists of bins that were paired.
use Rattle.std.specs.{Prelude.{ℕ, refl}, Coded.{Coded, code_by, coded×, coded_ℕ}}

-- how many bins the lists had together that were paired, and those of which a window was begun
pub record Paired : Type 0 where
  pub lists : ℕ
  pub windows : ℕ

abbrev pub paired_by : ℕ → ℕ → Paired
paired_by lists windows = record { lists = lists; windows = windows }

abbrev pub paired_code : Coded Paired
paired_code = code_by (ℕ × ℕ) (coded× coded_ℕ coded_ℕ) (λ p. (p.lists, p.windows)) (λ p. paired_by p.0 p.1) (λ _. refl)
