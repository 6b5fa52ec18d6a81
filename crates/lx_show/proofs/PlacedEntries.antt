-- What an entry placed into a sorted list leaves: what is found there, its length, and a second placing.
use Rattle.lx_show.proofs.Imports.{ℕ, List, Some, None, Option, IsTrue, option_map_or, entry_at, has_entry, placed, changed, has_placed}

-- what is there stays there where an entry is changed
pub has_changed : {A : Type 0} (key : A → ℕ) (n m : ℕ) (change : A → A) (xs : List A) → IsTrue (has_entry key m xs)
    → IsTrue (has_entry key m (changed key n change xs))
has_changed {A} key n m change xs there =
    elim (entry_at key n xs) as (λ (o : Option A). IsTrue (has_entry key m (option_map_or (λ x. placed key (change x) xs) o xs)))
    [ None ↦ there | Some x ↦ has_placed key m (change x) xs there ]
