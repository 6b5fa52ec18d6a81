-- The channels that are chosen one after the other.
use Rattle.lx_record.proofs.Imports.{◌≡◌, ℕ, ◌+◌, ◌-◌, ◌≤◌, ◌<◌, Bool, List, [], ◌∷◌, ◌++◌, map, sym, arith}
use Rattle.lx_record.proofs.Imports.{filter, if◌then◌else◌, AllByRecursion, range_with_len, Member, Show, untracked, kept_by}
use Rattle.lx_edit.proofs.Lists.{chosen_more, each_mapped, range_below}
use Rattle.lx_record.proofs.RecordedCues.{is_untracked}

-- a step through the channels, of which some are chosen with their levels
pub member_next : (test : ℕ → Bool) (level : ℕ → ℕ) {k c : ℕ} {old new : List Member} → 1 ≤ k
    → old ≡ map (λ x. record { chan = x; level = level x }) (filter test (range_with_len 1 (k - 1))) → c ≡ k
    → new ≡ old ++ (if test c then record { chan = c; level = level c } ∷ [] else [])
    → new ≡ map (λ x. record { chan = x; level = level x }) (filter test (range_with_len 1 (k + 1 - 1)))
member_next test level {k} least was here is =
    let at : ℕ → Member = λ x. record { chan = x; level = level x } in
    let length_is : k + 1 - 1 ≡ k - 1 + 1 = omega (arith, least) in
    rw (is, was, here, length_is) (sym (chosen_more test at 1 (k - 1) k (omega (arith, least))))

-- they are channels of the show
pub untracked_within : (levels : ℕ → ℕ) (show : Show) (n : ℕ)
    → AllByRecursion (λ (m : Member). m.chan ≤ show.channels) (untracked levels show n)
untracked_within levels show n = each_mapped (λ c. c < show.channels + 1) (λ (m : Member). m.chan ≤ show.channels) _ _
    (λ c less. omega (arith, less)) (kept_by (λ c. c < show.channels + 1) (is_untracked levels show n) _
    (range_below 1 show.channels (show.channels + 1) (omega arith)))
