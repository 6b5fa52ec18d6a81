-- The fields of a line, taken from the front of its tokens.
use Rattle.std.specs.Prelude.{ℕ, ◌≡◌, ◌<◌, ◌%◌, ◌==◌, IfOk, IfSome, MatchOption, MatchResult, Bool, Option, Some, None, Result, Ok, Err, List, [], ◌∷◌, ◌++◌, length, if◌then◌else◌}
use Rattle.lx_base.specs.declared.TheConstants.{CHANNELS, DIMMERS}
use Rattle.lx_spec.specs.declared.Bad.{Bad}
use Rattle.lx_spec.specs.declared.Bad.TheVariants.{Shape, Range}
use Rattle.lx_spec.specs.declared.Member.{Member}
use Rattle.lx_spec.specs.declared.PatchRow.{PatchRow}
use Rattle.lx_spec.specs.declared.TextFault.{TextFault}
use Rattle.lx_spec.specs.declared.Word.{Word}
use Rattle.lx_spec.specs.declared.TextFault.TheVariants.{BadNumber, OutOfRange, ShortList}
use Rattle.lx_spec.specs.Limits.{desk_limits}
use Rattle.lx_spec.specs.FirstRefusal.{◌>>=◌}
use Rattle.lx_spec.specs.FirstWord.{word_of}
use Rattle.lx_spec.specs.Numerals.{read_level, read_time, read_whole}
use Rattle.lx_spec.specs.Fields.{pairs, triples, number, next, delay_at, is_page_one}

-- the fault of a token
abbrev pub token_fault : ℕ → Bad → TextFault
token_fault i Shape = BadNumber i
token_fault i Range = OutOfRange i

-- the fault of a token in a list, which may also be short
abbrev pub fault_in : ℕ → Bad → Bool → TextFault
fault_in i bad whole = if whole then token_fault i bad else ShortList i

-- the levels of a line, or its fault
abbrev pub all_pairs : ℕ → List (List ℕ) → Result (List Member) TextFault
all_pairs i tokens = if length tokens % 2 == 0 then pairs desk_limits i tokens else Err (ShortList i)

-- the patch rows of a line, or its fault
abbrev pub all_triples : ℕ → List (List ℕ) → Result (List PatchRow) TextFault
all_triples i tokens = if length tokens % 3 == 0 then triples desk_limits i tokens else Err (ShortList i)

-- the list with these entries before it
abbrev pub onto : {A E : Type 0} → List A → Result (List A) E → Result (List A) E
onto front (Ok more) = Ok (front ++ more)
onto front (Err fault) = Err fault

-- the first entry of a list was taken, none at its end; a fault is that of the whole list
abbrev pub IsNext : {A : Type 0} → (List (List ℕ) → Result (List A) TextFault) → List (List ℕ) → List (List ℕ) → Result (Option A) TextFault
    → Type 0
IsNext list old new result =
    MatchResult result (λ o. MatchOption o (old ≡ []) (λ x. list old ≡ onto (x ∷ []) (list new))) (λ fault. list old ≡ Err fault)

-- so fewer tokens are left
abbrev pub TakesSome : {A : Type 0} → List (List ℕ) → List (List ℕ) → Result (Option A) TextFault → Type 0
TakesSome old new result = IfOk result (λ o. IfSome o (λ x. length new < length old))

-- the number that comes next
abbrev pub next_number : ℕ → (List ℕ → Result ℕ Bad) → List (List ℕ) → Result ℕ TextFault
next_number i read rest = do
  token ← next i rest
  number i (read token)

-- the time that comes next and the delay after it
abbrev pub next_times : ℕ → List (List ℕ) → Result (ℕ × ℕ) TextFault
next_times i [] = Err (ShortList i)
next_times i (token ∷ rest) = do
  time ← number i (read_time token)
  delay ← delay_at i rest
  Ok (time, delay)

-- the number of the record that a line begins; none where it is of another page
abbrev pub record_number : ℕ → (List ℕ → Result ℕ Bad) → List (List ℕ) → Result (Option ℕ) TextFault
record_number i read [] = Err (ShortList i)
record_number i read (token ∷ page) = if is_page_one page then (number i (read token) >>= (λ n. Ok (Some n))) else Ok None

-- a channel's token and a level's token, which are this member, and then the others
pub record FirstIsMember (all : List (List ℕ)) (m : Member) (others : List (List ℕ)) : Type 0 where
  pub chan_token : List ℕ
  pub level_token : List ℕ
  pub chan : read_whole 1 CHANNELS chan_token ≡ Ok m.chan
  pub level : read_level level_token ≡ Ok m.level
  pub first : all ≡ chan_token ∷ level_token ∷ others

-- a channel's token, a dimmer's token and a level's token, which are this row, and then the others
pub record FirstIsRow (all : List (List ℕ)) (row : PatchRow) (others : List (List ℕ)) : Type 0 where
  pub chan_token : List ℕ
  pub dimmer_token : List ℕ
  pub level_token : List ℕ
  pub chan : read_whole 1 CHANNELS chan_token ≡ Ok row.chan
  pub dimmer : read_whole 1 DIMMERS dimmer_token ≡ Ok row.dimmer
  pub level : read_level level_token ≡ Ok row.level
  pub first : all ≡ chan_token ∷ dimmer_token ∷ level_token ∷ others

-- a token that is this word, and then the others
pub record FirstIsWord (all : List (List ℕ)) (word : Word) (others : List (List ℕ)) : Type 0 where
  pub token : List ℕ
  pub is_word : word_of token ≡ word
  pub first : all ≡ token ∷ others

-- a page's token, which is page 1 or not, and then the others
pub record FirstIsPage (all : List (List ℕ)) (one : Bool) (others : List (List ℕ)) : Type 0 where
  pub token : List ℕ
  pub is_one : is_page_one (token ∷ []) ≡ one
  pub first : all ≡ token ∷ others
