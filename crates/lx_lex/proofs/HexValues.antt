-- The table of hexadecimal digits.
use Rattle.lx_lex.proofs.Imports.{◌≡◌, ℕ, ◌<◌, ◌≤◌, Some, None, refl, ap, sym, ◌∙◌, arith, map, get_or, unwrap_or}
use Rattle.lx_lex.proofs.Imports.{range_with_len, get_or-map-range_with_len, hex_value}
use Rattle.std.specs.Prelude.{Option}
use Rattle.lx_lex.proofs.HexLevels.{hex_digit}
use Rattle.lx_lex.specs.declared.hex.TheConstants.{VALUES}

values_are : VALUES ≡ map (λ b. unwrap_or (hex_value b) 16) (range_with_len 0 256)
values_are = refl

value_at : (b : ℕ) → b < 256 → get_or VALUES b 0 ≡ unwrap_or (hex_value b) 16
value_at b lt = ap (λ vs. get_or vs b 0) values_are
    ∙ get_or-map-range_with_len (λ b. unwrap_or (hex_value b) 16) 0 256 b b 0 lt (omega arith)

some_of : (o : Option ℕ) (v : ℕ) → v ≡ unwrap_or o 16 → v < 16 → o ≡ Some v
some_of (Some x) v is low = ap Some (sym is)
some_of None v is low = absurd (omega (arith, is))

none_of : (o : Option ℕ) (v : ℕ) → ((x : ℕ) → o ≡ Some x → x < 16) → v ≡ unwrap_or o 16 → 16 ≤ v → o ≡ None
none_of (Some x) v low is high = let under : x < 16 = low x refl in absurd (omega (arith, is))
none_of None v low is high = refl

-- a value below 16 in the table is that of the digit
pub digit_value : (b v : ℕ) → b < 256 → v ≡ get_or VALUES b 0 → v < 16 → Some v ≡ hex_value b
digit_value b v lt is low = sym (some_of (hex_value b) v (is ∙ value_at b lt) low)

pub no_value : (b v : ℕ) → b < 256 → v ≡ get_or VALUES b 0 → 16 ≤ v → None ≡ hex_value b
no_value b v lt is high = sym (none_of (hex_value b) v (λ x e. (hex_digit b e).1) (is ∙ value_at b lt) high)
