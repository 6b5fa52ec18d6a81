-- A record that begins: a new one, or one that was in the show, in whose place a bare one stands.
use Rattle.lx_reader.proofs.Imports.{◌≡◌, ℕ, true, cond, List, Option, Some, refl, ap, ◌∙◌, sym, subst, IsTrue, ◌||◌, is_some, length, nat_lt}
use Rattle.lx_reader.proofs.Imports.{AllByRecursion, CUES, IsStrictlySorted, entry_at, has_entry, placed, Cue, entry_at-placed_here, entry_number}
use Rattle.lx_reader.proofs.Imports.{found_valid, placed_again, placed_same, with_entry}

-- the record that stood where a bare one of the number was put
module _ {A : Type 0} (key : A → ℕ) (n : ℕ) (xs : List A) {x : A} {o : Option A} (found : o ≡ entry_at key n xs) (is : o ≡ Some x) where
  pub number_there : key x ≡ n
  number_there = entry_number key n xs x (sym found ∙ is)

  pub valid_there : (P : A → Type 0) → AllByRecursion P xs → P x
  valid_there P all = found_valid P key n xs x all (sym found ∙ is)

  -- put back it leaves the records as they were
  pub put_back : (new : ℕ → A) (bare : A) {ys : List A} → IsStrictlySorted key xs → key bare ≡ n → ys ≡ placed key bare xs
      → placed key x ys ≡ with_entry key new n xs
  put_back new bare sorted number left =
      ap (placed key x) left ∙ placed_again key bare x xs (number_there ∙ sym number)
      ∙ placed_same key x xs sorted (ap (λ k. entry_at key k xs) number_there ∙ sym found ∙ is)
      ∙ sym (ap (λ (o : Option A). cond (is_some o) xs (placed key (new n) xs)) (sym found ∙ is))

-- the bare cue is there
pub room_kept : (bare : Cue) (n : ℕ) (xs ys : List Cue) → bare.number ≡ n → ys ≡ placed (λ c. c.number) bare xs
    → IsTrue (has_entry (λ c. c.number) n ys || nat_lt (length ys) CUES)
room_kept bare n xs ys number left =
    let there : has_entry (λ c. c.number) n ys ≡ true =
    ap (has_entry (λ c. c.number) n) left ∙ ap is_some (entry_at-placed_here (λ c. c.number) n bare xs number) in
    subst (λ b. IsTrue (b || nat_lt (length ys) CUES)) (sym there) refl
