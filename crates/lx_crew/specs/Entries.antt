-- Entries, and those of one operator.
use Rattle.std.specs.Prelude.{◌≡◌, ℕ, ◌+◌, ◌==◌, ◌<◌, Bool, true, false, ◌||◌, List, [], ◌∷◌, take, length}
use Rattle.std.specs.List.{filter}
use Rattle.lx_base.specs.declared.TheConstants.{LINE_BYTES}
use Rattle.lx_crew.specs.declared.entry.Message.{Message}
use Rattle.lx_crew.specs.declared.entry.LineText.{LineText}
use Rattle.lx_crew.specs.declared.entry.Sent.{Sent}
use Rattle.lx_crew.specs.declared.entry.Sent.TheVariants.{Line, LongLine, End, ReadFault, InputTooLong}

-- the bytes of a line
abbrev pub text_in : LineText → List ℕ
text_in l = take l.len l.bytes

-- the entries of the operator at a place, in order
abbrev pub of_place : ℕ → List Message → List Message
of_place place entries = filter (λ (e : Message). e.place == place) entries

-- numbered from n without a gap
abbrev pub Numbered : ℕ → List Message → Type 0
Numbered n [] = Unit {0}
Numbered n (e ∷ es) = (e.number ≡ n) × Numbered (n + 1) es

-- no line, but how an operator's lines ended
abbrev pub is_last : Sent → Bool
is_last (Line l) = false
is_last LongLine = false
is_last End = true
is_last ReadFault = true
is_last InputTooLong = true

-- a last entry is among them
abbrev pub has_last : List Message → Bool
has_last [] = false
has_last (e ∷ es) = is_last e.sent || has_last es

-- the entry has this line
abbrev pub HasText : Sent → List ℕ → Type 0
HasText (Line l) text = text_in l ≡ text
HasText LongLine text = LINE_BYTES < length text
HasText End text = ⊥
HasText ReadFault text = ⊥
HasText InputTooLong text = ⊥

-- entries of the operator at a place, numbered from n, that have these lines
abbrev pub HaveLines : ℕ → ℕ → List Message → List (List ℕ) → Type 0
HaveLines place n [] [] = Unit {0}
HaveLines place n [] (l ∷ ls) = ⊥
HaveLines place n (e ∷ es) [] = ⊥
HaveLines place n (e ∷ es) (l ∷ ls) = (e.place ≡ place) × ((e.number ≡ n) × (HasText e.sent l × HaveLines place (n + 1) es ls))
