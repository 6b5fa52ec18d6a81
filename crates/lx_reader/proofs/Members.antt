-- The levels of a line: the greatest of their channels, and their moves.
use Rattle.lx_reader.proofs.Imports.{ℕ, ◌≤◌, List, [], ◌∷◌, map, IsTrue, arith, fold, max, AllByRecursion, CHANNELS, Member, Part, has_entry}
use Rattle.lx_reader.proofs.Imports.{ValidMember, ValidMove, moves_of}

-- what is made of the entries of a list has what follows from theirs
pub all_map : {A B : Type 0} {P : A → Type 0} (Q : B → Type 0) {f : A → B} (xs : List A) → ((x : A) → P x → Q (f x)) → AllByRecursion P xs
    → AllByRecursion Q (map f xs)
all_map Q [] each all = tt
all_map Q (x ∷ xs) each all = (each x all.0, all_map Q xs each all.1)

-- the greatest of the channels
abbrev pub greatest_of : ℕ → List Member → ℕ
greatest_of n members = fold max n (map (λ m. m.chan) members)

pub greatest_least : (n : ℕ) (chans : List ℕ) → n ≤ fold max n chans
greatest_least n [] = omega arith
greatest_least n (c ∷ chans) = let rest : max n c ≤ fold max (max n c) chans = greatest_least (max n c) chans in omega arith

pub greatest_most : (n : ℕ) (members : List Member) → n ≤ CHANNELS → AllByRecursion (ValidMember CHANNELS) members
    → greatest_of n members ≤ CHANNELS
greatest_most n [] most valid = most
greatest_most n (m ∷ ms) most valid =
    let here : m.chan ≤ CHANNELS = valid.0.chan.most in greatest_most (max n m.chan) ms (omega arith) valid.1

pub greatest_each : (n : ℕ) (members : List Member) → AllByRecursion (ValidMember CHANNELS) members
    → AllByRecursion (ValidMember (greatest_of n members)) members
greatest_each n [] valid = tt
greatest_each n (m ∷ ms) valid =
    let least : 1 ≤ m.chan = valid.0.chan.least in
    let rest : max n m.chan ≤ greatest_of (max n m.chan) ms = greatest_least (max n m.chan) (map (λ m. m.chan) ms) in (
      record { chan = record { least = least; most = omega arith }; level = valid.0.level },
      greatest_each (max n m.chan) ms valid.1,
    )

-- the levels as moves in a part of a cue
pub moves_valid : (channels p : ℕ) (parts : List Part) (members : List Member) → IsTrue (has_entry (λ part. part.number) p parts)
    → AllByRecursion (ValidMember channels) members → AllByRecursion (ValidMove channels parts) (moves_of p members)
moves_valid channels p parts members there valid =
    all_map _ members (λ m h. record { chan = h.chan; part = there; level = h.level }) valid
