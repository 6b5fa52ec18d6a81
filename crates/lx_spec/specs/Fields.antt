-- The numbers and lists of a line of a show text, or the fault of its leftmost bad token. The line's number is i.
use Rattle.std.specs.Prelude.{ℕ, ◌%◌, ◌==◌, Bool, true, Some, Result, Ok, Err, List, [], ◌∷◌, length, codes, is_ok, if◌then◌else◌}
use Rattle.lx_spec.specs.declared.Member.{Member}
use Rattle.lx_spec.specs.declared.PatchRow.{PatchRow}
use Rattle.lx_spec.specs.declared.Bad.{Bad}
use Rattle.lx_spec.specs.declared.Bad.TheVariants.{Shape, Range}
use Rattle.lx_spec.specs.declared.TextFault.{TextFault}
use Rattle.lx_spec.specs.declared.TextFault.TheVariants.{BadNumber, OutOfRange, ShortList}
use Rattle.lx_spec.specs.FirstRefusal.{◌>>=◌}
use Rattle.lx_spec.specs.Limits.{Limits}
use Rattle.lx_spec.specs.Text.{is_word}
use Rattle.lx_spec.specs.Numerals.{read_whole, read_time, read_level}
use Rattle.lx_spec.specs.Entry.{Section, NoRecord, Skipping, Entry, Skipped, Begins, HasChannels, Patches, HasLevels}

abbrev pub number : ℕ → Result ℕ Bad → Result ℕ TextFault
number i (Ok n) = Ok n
number i (Err Shape) = Err (BadNumber i)
number i (Err Range) = Err (OutOfRange i)

-- the next token, which must be there
abbrev pub next : ℕ → List (List ℕ) → Result (List ℕ) TextFault
next i [] = Err (ShortList i)
next i (token ∷ rest) = Ok token

-- an entry of one number
abbrev pub numbered : ℕ → (ℕ → Entry) → (List ℕ → Result ℕ Bad) → List (List ℕ) → Result Entry TextFault
numbered i entry read rest = do
  token ← next i rest
  n ← number i (read token)
  Ok (entry n)

-- a time, and its delay, which is 0 where there is none
abbrev pub delay_at : ℕ → List (List ℕ) → Result ℕ TextFault
delay_at i [] = Ok 0
delay_at i (token ∷ rest) = number i (read_time token)

abbrev pub times : ℕ → (ℕ → ℕ → Entry) → List (List ℕ) → Result Entry TextFault
times i entry [] = Err (ShortList i)
times i entry (token ∷ rest) = do
  time ← number i (read_time token)
  delay ← delay_at i rest
  Ok (entry time delay)

-- pairs of a channel and a level
abbrev pub pairs : Limits → ℕ → List (List ℕ) → Result (List Member) TextFault
pairs limits i [] = Ok []
pairs limits i (c ∷ []) = Err (ShortList i)
pairs limits i (c ∷ l ∷ rest) = do
  chan ← number i (read_whole 1 limits.channels c)
  level ← number i (read_level l)
  more ← pairs limits i rest
  Ok (record { chan = chan; level = level } ∷ more)

abbrev pub levels : Limits → ℕ → List (List ℕ) → Result Entry TextFault
levels limits i rest = do
  members ← if length rest % 2 == 0 then pairs limits i rest else Err (ShortList i)
  Ok (HasLevels members)

-- triples of a channel, a dimmer and a level
abbrev pub triples : Limits → ℕ → List (List ℕ) → Result (List PatchRow) TextFault
triples limits i [] = Ok []
triples limits i (c ∷ []) = Err (ShortList i)
triples limits i (c ∷ e ∷ []) = Err (ShortList i)
triples limits i (c ∷ e ∷ l ∷ rest) = do
  chan ← number i (read_whole 1 limits.channels c)
  dimmer ← number i (read_whole 1 limits.dimmers e)
  level ← number i (read_level l)
  more ← triples limits i rest
  Ok (record { dimmer = dimmer; chan = chan; level = level } ∷ more)

-- a line without a page is of page 1
abbrev pub is_page_one : List (List ℕ) → Bool
is_page_one [] = true
is_page_one (page ∷ more) = is_ok (read_whole 1 1 page)

abbrev pub patch_entry : Limits → ℕ → List (List ℕ) → Result Entry TextFault
patch_entry limits i [] = Err (ShortList i)
patch_entry limits i (page ∷ rest) =
    if is_page_one (page ∷ []) then (do
      rows ← if length rest % 3 == 0 then triples limits i rest else Err (ShortList i)
      Ok (Patches rows))
    else Ok (Skipped (Some NoRecord))

abbrev pub channels_entry : Limits → ℕ → List (List ℕ) → Result Entry TextFault
channels_entry limits i [] = Ok (Skipped (Some NoRecord))
channels_entry limits i (what ∷ rest) =
    if is_word (codes "CHANNELS") what then numbered i HasChannels (read_whole 1 limits.channels) rest else Ok (Skipped (Some NoRecord))

-- the cue, group or submaster of a number and a page
abbrev pub record_entry : ℕ → (ℕ → Section) → (List ℕ → Result ℕ Bad) → List (List ℕ) → Result Entry TextFault
record_entry i section read [] = Err (ShortList i)
record_entry i section read (token ∷ page) =
    if is_page_one page then numbered i (λ n. Begins (section n)) read (token ∷ []) else Ok (Skipped (Some Skipping))
