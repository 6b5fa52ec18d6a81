-- Lines of the second list.
use Rattle.std.specs.Prelude.{◌≡◌, ℕ, true, List}
use Rattle.lx_spec.specs.Text.{rest_after}
use Rattle.lx_spec.specs.TwoLists.{is_for_second}

-- the text is for the second list, and this is its rest
pub record IsRestFor (text rest : List ℕ) : Type 0 where
  pub second : is_for_second text ≡ true
  pub is : rest ≡ rest_after text 1
