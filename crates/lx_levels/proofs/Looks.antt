-- The levels at a number, read from its look.
use Rattle.lx_levels.proofs.Imports.{◌≡◌, ℕ, ◌+◌, ◌<◌, List, Option, Some, None, IfSome, option_map_or, arith, get_or, refl, ◌∙◌, sym, Show, tracked}
use Rattle.lx_levels.proofs.Imports.{Sheet, level_of}
use Rattle.lx_sheet.specs.SheetMeaning.{RowsStandFor}

in_look : {R : Type 0} (now : R → List ℕ) (sheet : Sheet) (n k : ℕ) (look : Option R)
    → IfSome look (λ row. (i : ℕ) → i < sheet.channels → get_or (now row) i 0 ≡ level_of sheet n (i + 1))
    → (look ≡ None → (c : ℕ) → level_of sheet n c ≡ 0) → k < sheet.channels
    → option_map_or (λ row. get_or (now row) k 0) look 0 ≡ level_of sheet n (k + 1)
in_look now sheet n k None levels none within = sym (none refl (k + 1))
in_look now sheet n k (Some row) levels none within = levels k within

-- of a sheet that stands for a show these are the tracked levels
pub tracked_in_look : {R : Type 0} (now : R → List ℕ) (show : Show) (sheet : Sheet) (n k : ℕ) (look : Option R)
    → IfSome look (λ row. (i : ℕ) → i < sheet.channels → get_or (now row) i 0 ≡ level_of sheet n (i + 1))
    → (look ≡ None → (c : ℕ) → level_of sheet n c ≡ 0) → RowsStandFor show sheet → k < show.channels
    → option_map_or (λ row. get_or (now row) k 0) look 0 ≡ tracked show n (k + 1)
tracked_in_look now show sheet n k look levels none stands within =
    in_look now sheet n k look levels none (omega (arith, stands.channels, within)) ∙ stands.columns (k + 1) n
