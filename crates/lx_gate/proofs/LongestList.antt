-- The longer of two lists.
use Rattle.lx_gate.proofs.Imports.{◌≡◌, ◌<◌, ◌≤◌, true, false, inl, inr, List, length, ltb, arith, nat_tests, IsPrefix, Command, longest}
use Rattle.lx_gate.proofs.Imports.{IsChained}
use Rattle.std.proofs.lemmas.Bool.{cases_lt}
use Rattle.lx_gate.proofs.Prefixes.{prefix_self, prefix_shorter, prefix_length}

pub longest_second : (xs ys : List Command) → length xs < length ys → longest xs ys ≡ ys
longest_second xs ys h = let t : ltb (length xs) (length ys) ≡ true = grind (arith, nat_tests) in rw t

longest_first : (xs ys : List Command) → length ys ≤ length xs → longest xs ys ≡ xs
longest_first xs ys h = let t : ltb (length xs) (length ys) ≡ false = grind (arith, nat_tests) in rw t

-- a list and a prefix of it
pub chained_before : (xs ys : List Command) → IsPrefix ys xs → IsChained xs ys
chained_before xs ys p =
    let is : longest xs ys ≡ xs = longest_first xs ys (prefix_length ys xs p) in
    record { first = rw is (prefix_self xs); second = rw is p }

chained_after : (xs ys : List Command) → length xs < length ys → IsPrefix xs ys → IsChained xs ys
chained_after xs ys less p =
    let is : longest xs ys ≡ ys = longest_second xs ys less in
    record { first = rw is p; second = rw is (prefix_self ys) }

-- two prefixes of one list
pub chained : (xs ys zs : List Command) → IsPrefix xs zs → IsPrefix ys zs → IsChained xs ys
chained xs ys zs p q = elim (cases_lt (length xs) (length ys)) [
  | inl less ↦ chained_after xs ys less (prefix_shorter xs ys zs p q (omega (arith, less)))
  | inr more ↦ chained_before xs ys (prefix_shorter ys xs zs q p more)
]
