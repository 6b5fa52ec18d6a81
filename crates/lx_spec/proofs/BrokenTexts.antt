-- Show texts with a fault, and texts that look as if they had one, by computation.
use Rattle.lx_spec.proofs.Imports.{◌≡◌, ℕ, replicate, List, [], ◌∷◌, ◌++◌, map, refl, codes, Moves, check_output, sheet_output}
use Rattle.std.specs.Fmt.{digits}
use Rattle.lx_spec.proofs.ScriptTexts.{barred}

-- what a check says of the lines between bars, and what it is to say
abbrev AllSaid : List ℕ → List (List ℕ × List ℕ) → Type 0
AllSaid first rows = map (λ r. check_output Moves (barred (first ++ r.0))) rows ≡ map (λ r. barred (codes "show " ++ r.1)) rows

-- an IDENT line is wanted, of this version
idents : AllSaid [] ((codes "CUE 1", codes "NoIdent 1") ∷ (codes "IDENT 2:0", codes "NoIdent 1") ∷ [])
unfolding digits
idents = refl

-- faults of lines under an IDENT line
faults : AllSaid (codes "IDENT 3:0|") (
    -- a level outside of any record
    (codes "CHAN 1@50", codes "NotInRecord 2") ∷
    -- a triple without its level
    (codes "PATCH 1 1<1", codes "ShortList 2") ∷
    -- a dimmer above the last
    (codes "PATCH 1 1<20000@50", codes "OutOfRange 2") ∷
    -- a cue number with too many decimals; no cue has the number 0
    (codes "CUE 2.5555", codes "BadNumber 2") ∷ (codes "CUE 0", codes "OutOfRange 2") ∷
    -- a time with 60 seconds
    (codes "CUE 1|UP 1:60", codes "OutOfRange 3") ∷
    -- of several faults in a line the leftmost is told
    (codes "CUE 1|CHAN 1@101 x@5", codes "OutOfRange 3") ∷
    -- a part above the last
    (codes "CUE 1|PART 10", codes "OutOfRange 3") ∷
    -- a level above 100 percent
    (codes "PATCH 1 1<1@FL|CUE 1|UP 0|CHAN 1@101", codes "OutOfRange 5") ∷
    -- a channel without its level, and one that is no number
    (codes "PATCH 1 1<1@FL|CUE 1|UP 0|CHAN 1@", codes "ShortList 5") ∷
    (codes "PATCH 1 1<1@FL|CUE 1|UP 0|CHAN x@5", codes "BadNumber 5") ∷
    -- a line may have 4,096 bytes and no more
    (replicate 4097 120, codes "LineTooLong 2") ∷
    [])
unfolding digits
faults = refl

-- what is no fault
read_well : AllSaid (codes "IDENT 3:0|") (
    -- an empty list of levels, and page-1 patches without triples
    (codes "CUE 1|CHAN|PATCH 1|ENDDATA", codes "cues 1 channels 512 skipped 0 first 0") ∷
    -- a cue of another page and what stands in it is skipped; its page alone is looked at
    (codes "CUE 1 2|CHAN x|PART 77|TEXT a|CUE 3 01|ENDDATA", codes "cues 1 channels 512 skipped 4 first 2") ∷
    -- in a group the words of a cue are skipped unread
    (codes "GROUP 1|PART 77|UP x|$$BLOCK|CHAN 9@5|ENDDATA", codes "cues 0 channels 512 skipped 3 first 3") ∷
    -- CLEAR ALL forgets cues and channels, and not how many lines were skipped
    (codes "SET CHANNELS 24|FLY|CUE 1|CHAN 900@5|CLEAR ALL|CUE 2|ENDDATA", codes "cues 1 channels 512 skipped 1 first 3") ∷
    -- a channel that is named is one of the show
    (codes "SET CHANNELS 24|PATCH 1 30<1@50 2<1@50|ENDDATA", codes "cues 0 channels 30 skipped 0 first 0") ∷
    [])
unfolding digits
read_well = refl

-- a label takes the rest of its line, without one separator and then blanks; elsewhere a comment is left out
comments_in_labels : sheet_output Moves
    (barred (codes "IDENT 3:0|CUE 1|TEXT !x|CHAN 1@50 ! warm|CUE 2|TEXT@ ,a  b ! c |CUE 3|TEXT a|TEXT  |ENDDATA"))
    ≡ barred (codes "cue 1 track 1 1 !x|row 1 1=128|cue 2 track 1 0 ,a  b ! c |row 2 1=128|cue 3 track 1 0|row 3 1=128")
unfolding digits
comments_in_labels = refl
