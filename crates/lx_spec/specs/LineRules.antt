-- What a line of a show text says: of eight rules the first that fits is taken.
use Rattle.std.specs.Prelude.{ℕ, Bool, true, false, ◌&&◌, ◌||◌, ◌==◌, not, nat_lt, Some, None, Result, Ok, Err, List, [], ◌∷◌, length}
use Rattle.std.specs.Prelude.{codes, is_none, if◌then◌else◌}
use Rattle.std.specs.List.{list_any}
use Rattle.lx_base.specs.declared.TheConstants.{LINE_BYTES, PARTS, GROUPS, SUBS}
use Rattle.lx_spec.specs.declared.Word.{Word}
use Rattle.lx_spec.specs.declared.Word.TheVariants as words
use Rattle.lx_spec.specs.declared.TextFault.{TextFault}
use Rattle.lx_spec.specs.declared.TextFault.TheVariants.{NoIdent, OutOfRange, NotInRecord, LineTooLong}
use Rattle.lx_spec.specs.FirstRefusal.{◌>>=◌}
use Rattle.lx_spec.specs.Text.{tokens, rest_after, is_word, label_of}
use Rattle.lx_spec.specs.Numerals.{read_whole, read_time, read_cue_no}
use Rattle.lx_spec.specs.FirstWord.{word_of, is_inner}
use Rattle.lx_spec.specs.Facts.{Facts}
use Rattle.lx_spec.specs.Fields.{numbered, times, levels, patch_entry, channels_entry, record_entry}
use Rattle.lx_spec.specs.Entry.{Section, NoRecord, InCue, InGroup, InSub, Skipping, cue_in, Entry, Nothing, Skipped, Identifies, Begins}
use Rattle.lx_spec.specs.Entry.{ClearsAll, NamesPart, HasUp, HasDown, Follows, Links, IsLabelled, Blocks, Asserts, Ends}

-- 1. A line that is too long is a fault.
abbrev pub is_too_long : List ℕ → Bool
is_too_long line = nat_lt LINE_BYTES (length line)

-- 2. A blank line, which has no token, says nothing. The other rules go by the first word.
-- 3. A manufacturer's own line, which begins with two dollars, is skipped; in a cue `$$BLOCK` and `$$ASSERT` aren't such lines.
abbrev pub is_makers_line : Section → Word → Bool
is_makers_line section words.TwoDollars = true
is_makers_line section words.Block = is_none (cue_in section)
is_makers_line section words.Assert = is_none (cue_in section)
is_makers_line section other = false

-- 4. A manufacturer's own record, which begins with one dollar, is skipped.
abbrev pub is_makers_record : Word → Bool
is_makers_record words.OneDollar = true
is_makers_record other = false

-- 5. A line of an unknown word is skipped.
abbrev pub is_unknown : Word → Bool
is_unknown words.Unknown = true
is_unknown other = false

-- 6. Any other line but IDENT, MANUFACTURER and CONSOLE is a fault where no IDENT line stands before it.
abbrev pub is_unidentified : Bool → Word → Bool
is_unidentified identified words.Ident = false
is_unidentified identified words.Maker = false
is_unidentified identified other = not identified

-- 7. What belongs within a record that is skipped is skipped.
abbrev pub is_skipping : Section → Bool
is_skipping Skipping = true
is_skipping other = false

abbrev pub is_passed_over : Section → Word → Bool
is_passed_over section word = is_inner word && is_skipping section

-- 8. Else the word decides. The last fault is that of a new cue for which there is no room.
abbrev pub if_few : Facts → Entry → Result Entry TextFault
if_few facts (Begins (InCue n)) =
    let has_room = list_any (λ m. m == n) facts.cues || nat_lt (length facts.cues) facts.limits.cues in
    if has_room then Ok (Begins (InCue n)) else Err (OutOfRange facts.number)
if_few facts other = Ok other

abbrev pub is_next : List ℕ → List (List ℕ) → Bool
is_next word [] = false
is_next word (token ∷ rest) = is_word word token

-- a line that begins a record or ends one
abbrev pub outer_entry : Facts → Word → List (List ℕ) → Result Entry TextFault
outer_entry facts words.Ident rest = if is_next (codes "3:0") rest then Ok Identifies else Err (NoIdent facts.number)
outer_entry facts words.Maker rest = Ok (Begins NoRecord)
outer_entry facts words.Clear rest = Ok (if is_next (codes "ALL") rest then ClearsAll else Skipped (Some NoRecord))
outer_entry facts words.Set rest = channels_entry facts.limits facts.number rest
outer_entry facts words.Patch rest = patch_entry facts.limits facts.number rest
outer_entry facts words.Cue rest = record_entry facts.number InCue (read_cue_no facts.limits) rest >>= if_few facts
outer_entry facts words.Group rest = record_entry facts.number InGroup (read_whole 1 GROUPS) rest
outer_entry facts words.Sub rest = record_entry facts.number InSub (read_whole 1 SUBS) rest
outer_entry facts words.EndData rest = Ok Ends
outer_entry facts other rest = Ok (Skipped None)

abbrev pub cue_entry : Facts → List ℕ → Word → List (List ℕ) → Result Entry TextFault
cue_entry facts line words.Chan rest = levels facts.limits facts.number rest
cue_entry facts line words.Part rest = numbered facts.number NamesPart (read_whole 1 PARTS) rest
cue_entry facts line words.Up rest = times facts.number HasUp rest
cue_entry facts line words.Down rest = times facts.number HasDown rest
cue_entry facts line words.FollowOn rest = numbered facts.number Follows read_time rest
cue_entry facts line words.Link rest = numbered facts.number Links (read_cue_no facts.limits) rest
cue_entry facts line words.Text rest = Ok (IsLabelled (label_of (rest_after line 1)))
cue_entry facts line words.Block rest = Ok Blocks
cue_entry facts line words.Assert rest = Ok Asserts
cue_entry facts line other rest = Ok (Skipped None)

-- in a group or submaster
abbrev pub members_entry : Facts → List ℕ → Word → List (List ℕ) → Result Entry TextFault
members_entry facts line words.Chan rest = levels facts.limits facts.number rest
members_entry facts line words.Text rest = Ok (IsLabelled (label_of (rest_after line 1)))
members_entry facts line other rest = Ok (Skipped None)

-- outside of all records
abbrev pub stray_entry : Facts → Word → Result Entry TextFault
stray_entry facts words.Text = Ok (Skipped None)
stray_entry facts other = Err (NotInRecord facts.number)

-- a line that belongs within a record, by its section
abbrev pub inner_entry : Section → Facts → List ℕ → Word → List (List ℕ) → Result Entry TextFault
inner_entry (InCue n) facts line word rest = cue_entry facts line word rest
inner_entry (InGroup g) facts line word rest = members_entry facts line word rest
inner_entry (InSub s) facts line word rest = members_entry facts line word rest
inner_entry NoRecord facts line word rest = stray_entry facts word
inner_entry Skipping facts line word rest = Ok (Skipped None)

-- by the first word and the tokens after it
abbrev pub entry_by_word : Facts → List ℕ → Word → List (List ℕ) → Result Entry TextFault
entry_by_word facts line word rest =
    if is_makers_line facts.section word then Ok (Skipped None)
    else if is_makers_record word then Ok (Skipped (Some Skipping))
    else if is_unknown word then Ok (Skipped None)
    else if is_unidentified facts.identified word then Err (NoIdent facts.number)
    else if is_passed_over facts.section word then Ok (Skipped None)
    else if is_inner word then inner_entry facts.section facts line word rest
    else outer_entry facts word rest

abbrev pub entry_by_tokens : Facts → List ℕ → List (List ℕ) → Result Entry TextFault
entry_by_tokens facts line [] = Ok Nothing
entry_by_tokens facts line (first ∷ rest) = entry_by_word facts line (word_of first) rest

abbrev pub entry_of : Facts → List ℕ → Result Entry TextFault
entry_of facts line = if is_too_long line then Err (LineTooLong facts.number) else entry_by_tokens facts line (tokens line)
