-- Whether bytes are one line, told by runs of them.
use Rattle.lx_embed.proofs.Imports.{◌≡◌, ◌≤◌, ◌<◌, ◌∷◌, [], ℕ, suc, Bool, true, false, not, List, length}
use Rattle.lx_embed.proofs.Imports.{refl, sym, ap, ◌∙◌, arith}
use Rattle.std.specs.Prelude.{◌||◌, ◌&&◌, ◌==◌, slice_index}
use Rattle.std.specs.List.{list_any}
use Rattle.std.proofs.Common.{⊎_elim}
use Rattle.std.proofs.lemmas.Bool.{cases_lt}
use Rattle.std.proofs.lemmas.List.Folds.{list_any_at}
use Rattle.lx_embed.specs.Answered.{is_bare}
use Rattle.lx_embed.specs.LineEnds.{ends_line, TellsEnd}

-- a run from the first byte on, and one that begins where it ends, or before
pub runs_on : (bytes : List ℕ) (a b : Bool) (j k l n : ℕ) → k ≤ j → j ≤ n → l ≡ n → TellsEnd bytes 0 j a → TellsEnd bytes k l b
    → TellsEnd bytes 0 n (a || b)
runs_on bytes true b j k l n x y z s t = let within = s.2 in (s.0, s.1, omega (arith, within, y), s.3)
runs_on bytes false true j k l n x y z s t = let within = t.2 in (t.0, omega arith, omega (arith, within, z), t.3)
runs_on bytes false false j k l n x y z s t =
    λ m low high. ⊎_elim (λ lt. s m low lt) (λ le. t m (omega (arith, le, x)) (omega (arith, high, z))) (cases_lt m j)

regrouped : (p q a b : Bool) → (p || a) || (q || b) ≡ (p || q) || (a || b)
regrouped true q a b = refl
regrouped false true true b = refl
regrouped false true false b = refl
regrouped false false a b = refl

either_any : (bytes : List ℕ) → list_any (λ b. b == 10) bytes || list_any (λ b. b == 13) bytes ≡ list_any ends_line bytes
either_any [] = refl
either_any (byte ∷ bytes) =
    regrouped (byte == 10) (byte == 13) (list_any (λ b. b == 10) bytes) (list_any (λ b. b == 13) bytes)
    ∙ ap (λ rest. ends_line byte || rest) (either_any bytes)

neither : (a b : Bool) → not (a || b) ≡ not a && not b
neither true b = refl
neither false b = refl

none_ends : (bytes : List ℕ) → ((k : ℕ) → k < length bytes → ends_line (slice_index bytes k) ≡ false) → list_any ends_line bytes ≡ false
none_ends [] none = refl
none_ends (byte ∷ bytes) none =
    ap (λ first. first || list_any ends_line bytes) (none 0 (omega arith)) ∙ none_ends bytes (λ k within. none (suc k) (omega (arith, within)))

any_is : (bytes : List ℕ) (b : Bool) → TellsEnd bytes 0 (length bytes) b → list_any ends_line bytes ≡ b
any_is bytes true told = list_any_at ends_line bytes told.0 0 told.2 told.3
any_is bytes false told = none_ends bytes (λ k within. told k (omega arith) within)

-- what is told of all bytes is whether they are one line
pub bare_is : (bytes : List ℕ) (b : Bool) → TellsEnd bytes 0 (length bytes) b → not b ≡ is_bare bytes
bare_is bytes b told =
    ap not (sym (any_is bytes b told) ∙ sym (either_any bytes)) ∙ neither (list_any (λ b. b == 10) bytes) (list_any (λ b. b == 13) bytes)
