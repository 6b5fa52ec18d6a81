-- Members in proportion stay valid.
use Rattle.std.proofs.Common.{ℕ, ◌*◌, ◌<◌, ◌≤◌, List, [], ◌∷◌, map, arith}
use Rattle.std.specs.List.{AllByRecursion}
use Rattle.std.proofs.Math.Nat.{mul-le-mul_right}
use Rattle.lx_base.specs.Numbers.{scaled}
use Rattle.lx_spec.specs.declared.Member.{Member}
use Rattle.lx_spec.specs.EditedShow.{in_proportion}
use Rattle.lx_spec.specs.SortedList.{IsStrictlySorted}
use Rattle.lx_spec.specs.Show.{ValidMember, ValidMembers}

-- a level in proportion to a level is one
pub scaled-level : (a b : ℕ) → a ≤ 255 → b ≤ 255 → scaled a b ≤ 255
scaled-level a b le le' =
    let most : a * b ≤ 255 * b = mul-le-mul_right b le in
    omega (arith, most)

in_proportion-each : (channels level : ℕ) (members : List Member) → level ≤ 255 → AllByRecursion (ValidMember channels) members
    → AllByRecursion (ValidMember channels) (map (in_proportion level) members)
in_proportion-each channels level [] le all = tt
in_proportion-each channels level (m ∷ members) le all =
    (record { chan = all.0.chan; level = scaled-level m.level level all.0.level le }, in_proportion-each channels level members le all.1)

above-in_proportion : (n level : ℕ) (members : List Member) → AllByRecursion (λ m. n < m.chan) members
    → AllByRecursion (λ m. n < m.chan) (map (in_proportion level) members)
above-in_proportion n level [] all = tt
above-in_proportion n level (m ∷ members) all = (all.0, above-in_proportion n level members all.1)

in_proportion-sorted : (level : ℕ) (members : List Member) → IsStrictlySorted (λ m. m.chan) members
    → IsStrictlySorted (λ m. m.chan) (map (in_proportion level) members)
in_proportion-sorted level [] sorted = tt
in_proportion-sorted level (m ∷ members) sorted =
    (above-in_proportion m.chan level members sorted.0, in_proportion-sorted level members sorted.1)

pub in_proportion-valid : (channels level : ℕ) (members : List Member) → level ≤ 255 → ValidMembers channels members
    → ValidMembers channels (map (in_proportion level) members)
in_proportion-valid channels level members le valid =
    record { each = in_proportion-each channels level members le valid.each; sorted = in_proportion-sorted level members valid.sorted }
