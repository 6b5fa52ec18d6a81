-- Numbers with decimals, in parts of a unit.
use Rattle.std.specs.Prelude.{ℕ, ◌≡◌, ◌*◌, ◌/◌, ◌^◌, ◌<◌, min, List, length}
use Rattle.lx_spec.specs.Numerals.{number_of, whole_part, decimals}
use Rattle.lx_lex.specs.declared.decimal.Decimal.{Decimal}
use Rattle.lx_lex.specs.declared.digits.TheConstants.{TOO_GREAT}

-- 1, 10, 100 ..
abbrev pub IsPowerOfTen : ℕ → Type 0
IsPowerOfTen unit = (p : ℕ) × (unit ≡ 10 ^ p)

-- what a text of a number with decimals comes to
pub record IsDecimal (unit : ℕ) (text : List ℕ) (d : Decimal) : Type 0 where
  pub whole : d.whole ≡ min (number_of (whole_part text)) TOO_GREAT
  pub digits : d.digits ≡ length (whole_part text)
  pub part : d.part ≡ number_of (decimals text) * unit / 10 ^ length (decimals text)
  pub step : d.step ≡ unit / 10 ^ length (decimals text)
  pub less : d.part < unit
