-- What the lines of each record put into a show: a row of the patch, a group or submaster, and a cue.
use Rattle.lx_text_laws.proofs.Imports.{◌≤◌, ◌≡◌, ℕ, ◌<◌, Bool, true, false, cond, ◌==◌, Option, Some, None, List, [], ◌∷◌, ◌++◌, map, max, filter}
use Rattle.lx_text_laws.proofs.Imports.{find, flat_map, fold, length, refl, IfSome, is_some, AllByRecursion, list_any, arith, ◌∙◌, sym, subst}
use Rattle.lx_text_laws.proofs.Imports.{append_assoc, append-nil, fold-append, eqb-true, cases_Bool, cases_eq, inl, inr, length-map, CHANNELS}
use Rattle.lx_text_laws.proofs.Imports.{CUE_MAX, CUES, Section, NoRecord, InCue, Part, Move, Member, PatchRow, Cue, MemberSet, Show, InRange, IsTime}
use Rattle.lx_text_laws.proofs.Imports.{IsLabel, ValidPart, ValidMove, ValidCue, ValidMember, ValidSet, ValidPatchRow, Begins, HasLevels, IsLabelled}
use Rattle.lx_text_laws.proofs.Imports.{Entry, channels_named, line, patch_text, label_text, member_text, move_text, part_text, block_text}
use Rattle.lx_text_laws.proofs.Imports.{assert_text, follow_text, link_text, cue_text, kept_by, passes, each, find_none, placed, has_entry}
use Rattle.lx_text_laws.proofs.Imports.{all_placed, state_after, cue_with, set_with, with_up, with_down, with_set, new_cue, new_part, new_set}
use Rattle.lx_text_laws.proofs.Imports.{eq_above, eq_true, eq_other}
use Rattle.lx_show.specs.ChangedEntry.{changed}
use Rattle.lx_spec.proofs.SortedLists.{below_seam, all_at_seam}
use Rattle.std.proofs.lemmas.Bool.{false≢true}
use Rattle.lx_text_laws.proofs.LineTexts.{Line, TakesLevels, level_reads, TakesLabel, label_reads, cue_reads, patch_reads, part_reads, up_reads}
use Rattle.lx_text_laws.proofs.LineTexts.{down_reads, follow_reads, link_reads, block_reads, assert_reads}
use Rattle.lx_text_laws.proofs.Passage.{stage, Takes, takes_none, ◌and◌, takes_line, last_placed, last_begun, last_changed, record_begins}
use Rattle.lx_text_laws.proofs.Passage.{record_says}
use Rattle.lx_reader.proofs.PlacedOver.{placed_alone}
use Rattle.lx_text_laws.proofs.SortedGroups.{last_of_each-grouped}

wider : {k c : ℕ} → InRange CHANNELS k → InRange k c → InRange CHANNELS c
wider all one = record { least = one.least; most = omega (arith, one.most, all.most) }

-- a row of the patch
pub row_takes : {k : ℕ} (show : Show) (done : List PatchRow) (row : PatchRow) → InRange CHANNELS k → ValidPatchRow k row
    → AllByRecursion (λ x. x.dimmer < row.dimmer) done → (s : Section) (p : ℕ)
    → Takes k (record show { patch = done }) s p (patch_text row) (record show { patch = done ++ row ∷ [] }) NoRecord 1
row_takes {k} show done row range valid low s p =
    takes_line (patch_reads {l = row.level} (wider range valid.chan) valid.dimmer valid.level) (valid.chan.most, tt)
    (λ i count j. stage k (max count row.chan) (record show { patch = last_placed (λ x. x.dimmer) done row low j }) NoRecord 1)

-- A group or submaster, as it stands in the show.
abbrev set_of : ℕ → List ℕ → List Member → MemberSet
set_of n label members = record { number = n; label = label; members = members }

module _ {k limit : ℕ} (put : List MemberSet → Show) (section : ℕ → Section) (done : List MemberSet) (set : MemberSet)
    (range : InRange CHANNELS k) (valid : ValidSet limit k set) (low : AllByRecursion (λ x. x.number < set.number) done)
    (labels : (cs : List ℕ) → TakesLabel (section set.number) 1 cs) (levels : (cs : List ℕ) → TakesLevels (section set.number) 1 cs)
    (changes_label : (label : List ℕ) (i count : ℕ) (xs : List MemberSet)
    → state_after i (IsLabelled label) (stage k count (put xs) (section set.number) 1)
    ≡ stage k count (put (changed (λ x. x.number) set.number (set_with (IsLabelled label)) xs)) (section set.number) 1)
    (changes_level : (m : Member) (i count : ℕ) (xs : List MemberSet)
    → state_after i (HasLevels (m ∷ [])) (stage k count (put xs) (section set.number) 1)
    ≡ stage k (max count m.chan) (put (changed (λ x. x.number) set.number (set_with (HasLevels (m ∷ []))) xs)) (section set.number) 1) where
  abbrev holds : List ℕ → List Member → Show
  holds label members = put (done ++ set_of set.number label members ∷ [])

  label_takes : (label : List ℕ) → IsLabel label
      → Takes k (holds [] []) (section set.number) 1 (label_text label) (holds label []) (section set.number) 1
  label_takes [] own = takes_none
  label_takes (b ∷ label) own =
      record_says (λ x. x.number) done (set_of set.number [] []) low put section
      (set_with (IsLabelled (b ∷ label))) refl (label_reads {label = b ∷ label} (labels _) own) tt (changes_label (b ∷ label))

  members_take : (label : List ℕ) (so_far members : List Member) → AllByRecursion (ValidMember k) members
      → Takes k (holds label so_far) (section set.number) 1 (flat_map member_text members)
      (holds label (all_placed (λ m. m.chan) members so_far)) (section set.number) 1
  members_take label so_far [] all = takes_none
  members_take label so_far (m ∷ members) all =
      record_says (λ x. x.number) done (set_of set.number label so_far) low put section
      (set_with (HasLevels (m ∷ []))) refl (level_reads {l = m.level} (levels _) (wider range all.0.chan) all.0.level)
      (all.0.chan.most, tt) (changes_level m)
      and members_take label (placed (λ m. m.chan) m so_far) members all.1

  pub set_takes : {words : List (List ℕ)} (s : Section) (p : ℕ)
      → Line s p (map (λ cue. cue.number) (put done).cues) words (Begins (section set.number))
      → ((i count : ℕ) → state_after i (Begins (section set.number)) (stage k count (put done) s p)
      ≡ stage k count (put (with_set set.number done)) (section set.number) 1)
      → Takes k (put done) s p (line words ++ label_text set.label ++ flat_map member_text set.members) (put (done ++ set ∷ []))
      (section set.number) 1
  set_takes {words} s p says begins =
      subst (λ ms. Takes k (put done) s p (line words ++ label_text set.label ++ flat_map member_text set.members) (holds set.label ms)
      (section set.number) 1) (sym (placed_alone (λ m. m.chan) set.members set.members [] valid.members.sorted refl refl))
      (record_begins (λ x. x.number) done (new_set set.number) low put section says begins
      and label_takes set.label valid.label and members_take set.label [] set.members valid.members.each)

-- A cue, as it stands in the show.
has_part : (p : ℕ) (parts : List Part) → is_some (find (λ x. x.number == p) parts) ≡ list_any (λ x. p == x.number) parts
has_part p [] = refl
has_part p (part ∷ parts) = elim (cases_eq part.number p) [
  | inl is ↦ rw (eq_true part.number p is, eq_true p part.number (sym is))
  | inr other ↦ rw (eq_other part.number p other, eq_other p part.number (λ is. other (sym is))) (has_part p parts)
]

-- part 1 comes first
first_is_one : (part : Part) (parts : List Part) → ValidPart part → AllByRecursion (λ x. part.number < x.number) parts
    → is_some (find (λ x. x.number == 1) (part ∷ parts)) ≡ true → part.number ≡ 1
first_is_one part parts valid above there =
    let least = valid.number.least in
    let none = find_none (λ x. x.number == 1) parts (each (λ x. part.number < x.number) _ _
    (λ x low. eq_above x.number 1 (omega (arith, low, least))) above) in
    elim (cases_Bool (part.number == 1)) [
      | inl is ↦ eqb-true part.number 1 is
      | inr is ↦ let odd = rw (is, none) at there in absurd (false≢true odd)
    ]

abbrev last_part : ℕ → List Part → ℕ
last_part q [] = q
last_part q (part ∷ parts) = last_part part.number parts

module _ (show : Show) (done : List Cue) (cue : Cue) where
  abbrev holds_cue : Cue → Show
  holds_cue it = record show { cues = done ++ it ∷ [] }

  -- before its parts, and with these parts and moves
  abbrev bare : Bool → Bool → List ℕ → Option ℕ → Option ℕ → Cue
  bare block asserted label follow link = record (new_cue cue.number) {
    block = block;
    asserted = asserted;
    label = label;
    follow = follow;
    link = link;
  }

  abbrev filled : List Part → List Move → Cue
  filled parts moves = record cue { parts = parts; moves = moves }

  abbrev moves_of_parts : List Part → List Move
  moves_of_parts parts = flat_map (λ part. filter (λ m. m.part == part.number) cue.moves) parts

  abbrev TakesOn : ℕ → Cue → ℕ → List ℕ → Cue → ℕ → Type 0
  TakesOn k old p text new p' = Takes k (holds_cue old) (InCue cue.number) p text (holds_cue new) (InCue cue.number) p'

  abbrev TakesHead : ℕ → Cue → List ℕ → Cue → Type 0
  TakesHead k old text new = TakesOn k old 1 text new 1

  module _ {k : ℕ} (range : InRange CHANNELS k) (valid : ValidCue k cue) (low : AllByRecursion (λ x. x.number < cue.number) done) where
    -- one more line of it
    says : {p p' : ℕ} {words : List (List ℕ)} {e : Entry} (it : Cue) → AllByRecursion (λ x. x.number < it.number) done
        → Line (InCue it.number) p (map (λ cue. cue.number) (done ++ it ∷ [])) words e → AllByRecursion (λ c. c ≤ k) (channels_named e)
        → ((i count : ℕ) (xs : List Cue) → state_after i e (stage k count (record show { cues = xs }) (InCue it.number) p)
        ≡ stage k (fold max count (channels_named e)) (record show { cues = changed (λ x. x.number) it.number (cue_with p e) xs })
        (InCue it.number) p')
        → Takes k (holds_cue it) (InCue it.number) p (line words) (holds_cue (cue_with p e it)) (InCue it.number) p'
    says {p = p} {e = e} it low line most after =
        record_says (λ x. x.number) done it low (λ cues. record show { cues = cues }) InCue (cue_with p e) refl line most after

    block_takes : (b : Bool) → TakesHead k (bare false false [] None None) (block_text b) (bare b false [] None None)
    block_takes true = says (bare false false [] None None) low block_reads tt (λ i count xs. refl)
    block_takes false = takes_none

    assert_takes : (b a : Bool) → TakesHead k (bare b false [] None None) (assert_text a) (bare b a [] None None)
    assert_takes b true = says (bare b false [] None None) low assert_reads tt (λ i count xs. refl)
    assert_takes b false = takes_none

    label_of_cue : (b a : Bool) (label : List ℕ) → IsLabel label
        → TakesHead k (bare b a [] None None) (label_text label) (bare b a label None None)
    label_of_cue b a [] own = takes_none
    label_of_cue b a (c ∷ label) own =
        says (bare b a [] None None) low (label_reads {label = c ∷ label} (λ i line rest. refl) own) tt (λ i count xs. refl)

    follow_takes : (b a : Bool) (label : List ℕ) (follow : Option ℕ) → IfSome follow IsTime
        → TakesHead k (bare b a label None None) (follow_text follow) (bare b a label follow None)
    follow_takes b a label None time = takes_none
    follow_takes b a label (Some t) time = says (bare b a label None None) low (follow_reads {t = t} time) tt (λ i count xs. refl)

    link_takes : (b a : Bool) (label : List ℕ) (follow link : Option ℕ) → IfSome link (InRange CUE_MAX)
        → TakesHead k (bare b a label follow None) (link_text link) (bare b a label follow link)
    link_takes b a label follow None number = takes_none
    link_takes b a label follow (Some n) number = says (bare b a label follow None) low (link_reads number) tt (λ i count xs. refl)

    moves_take : (parts : List Part) (p : ℕ) (so_far moves : List Move) → AllByRecursion (ValidMove k cue.parts) moves
        → AllByRecursion (λ m. (m.part == p) ≡ true) moves
        → TakesOn k (filled parts so_far) p (flat_map move_text moves) (filled parts (all_placed (λ m. m.chan) moves so_far)) p
    moves_take parts p so_far [] all own = takes_none
    moves_take parts p so_far (m ∷ moves) all own =
        subst (λ q. TakesOn k (filled parts so_far) p (move_text m) (filled parts (placed (λ m. m.chan) (record m { part = q }) so_far)) p)
        (sym (eqb-true m.part p own.0))
        (says (filled parts so_far) low (level_reads {l = m.level} (λ i line rest. refl) (wider range all.0.chan) all.0.level)
        (all.0.chan.most, tt) (λ i count xs. refl))
        and moves_take parts p (placed (λ m. m.chan) m so_far) moves all.1 own.1

    -- a part is opened, and its lines say the rest of it
    part_takes : (front parts : List Part) (part : Part) (more : List Part) (q : ℕ) (so_far : List Move) → cue.parts ≡ front ++ part ∷ more
        → cond (has_entry (λ x. x.number) part.number parts) parts (placed (λ x. x.number) (new_part part.number) parts)
        ≡ front ++ new_part part.number ∷ []
        → TakesOn k (filled parts so_far) q (part_text cue.moves part)
        (filled (front ++ part ∷ []) (all_placed (λ m. m.chan) (filter (λ m. m.part == part.number) cue.moves) so_far)) part.number
    part_takes front parts part more q so_far is opens =
        let p = part.number in
        let v = all_at_seam ValidPart front more part (rw is at valid.parts) in
        let below = below_seam (λ x. x.number) front more part (rw is at valid.parts_sorted) in
        let up = with_up part.up part.up_delay in
        let down = with_down part.down part.down_delay in
        let opened = rw opens at (says {p = q} (filled parts so_far) low (part_reads v.number) tt (λ i count xs. refl)) in
        let raised = rw (last_changed (λ x. x.number) front (new_part p) below up refl) at
        (says {p = p} (filled (front ++ new_part p ∷ []) so_far) low (up_reads {t = part.up} {d = part.up_delay} v.up v.up_delay) tt
        (λ i count xs. refl)) in
        let lowered = rw (last_changed (λ x. x.number) front (up (new_part p)) below down refl) at
        (says {p = p} (filled (front ++ up (new_part p) ∷ []) so_far) low
        (down_reads {t = part.down} {d = part.down_delay} v.down v.down_delay) tt (λ i count xs. refl)) in
        opened and raised and lowered
        and moves_take (front ++ part ∷ []) p so_far (filter (λ m. m.part == p) cue.moves) (kept_by _ _ cue.moves valid.moves)
        (passes (λ m. m.part == p) cue.moves)

    parts_take : (front parts : List Part) (part : Part) (more : List Part) (q : ℕ) (so_far : List Move) → cue.parts ≡ front ++ part ∷ more
        → cond (has_entry (λ x. x.number) part.number parts) parts (placed (λ x. x.number) (new_part part.number) parts)
        ≡ front ++ new_part part.number ∷ []
        → TakesOn k (filled parts so_far) q (flat_map (part_text cue.moves) (part ∷ more))
        (filled cue.parts (all_placed (λ m. m.chan) (moves_of_parts (part ∷ more)) so_far)) (last_part part.number more)
    parts_take front parts part [] q so_far is opens = simp (is, append-nil) (part_takes front parts part [] q so_far is opens)
    parts_take front parts part (next ∷ more) q so_far is opens =
        let now = front ++ part ∷ [] in
        let some = filter (λ m. m.part == part.number) cue.moves in
        let then : cue.parts ≡ now ++ next ∷ more = is ∙ sym (append_assoc front (part ∷ []) (next ∷ more)) in
        let below = below_seam (λ x. x.number) now more next (rw then at valid.parts_sorted) in
        rw (fold-append (λ ys x. placed (λ m. m.chan) x ys) so_far some (moves_of_parts (next ∷ more)))
        (part_takes front parts part (next ∷ more) q so_far is opens
        and parts_take now now next more part.number (all_placed (λ m. m.chan) some so_far) then
        (last_begun (λ x. x.number) now (new_part next.number) below))

    all_parts : (parts : List Part) → cue.parts ≡ parts
        → TakesOn k (filled (new_part 1 ∷ []) []) 1 (flat_map (part_text cue.moves) parts)
        (filled cue.parts (all_placed (λ m. m.chan) (moves_of_parts parts) [])) (last_part 1 parts)
    all_parts [] is = absurd (false≢true (rw is at valid.first_part))
    all_parts (part ∷ more) is =
        let one = first_is_one part more (rw is at valid.parts).0 (rw is at valid.parts_sorted).0 (rw is at valid.first_part) in
        parts_take [] (new_part 1 ∷ []) part more 1 [] is (rw one refl)

    pub cue_takes : (s : Section) (p : ℕ) → length done < CUES
        → Takes k (record show { cues = done }) s p (cue_text cue) (record show { cues = done ++ cue ∷ [] }) (InCue cue.number)
        (last_part 1 cue.parts)
    cue_takes s p room =
        let moves = last_of_each-grouped (λ m. m.chan) (λ part m. m.part == part.number) cue.moves cue.parts valid.moves_sorted
        (each (ValidMove k cue.parts) _ _ (λ m v. sym (has_part m.part cue.parts) ∙ v.part) valid.moves) in
        rw moves at
        (record_begins (λ x. x.number) done (new_cue cue.number) low (λ cues. record show { cues = cues }) InCue {s = s} {p = p}
        (cue_reads valid.number (omega (arith, room, length-map done (λ x. x.number)))) (λ i count. refl)
        and block_takes cue.block and assert_takes cue.block cue.asserted and label_of_cue cue.block cue.asserted cue.label valid.label
        and follow_takes cue.block cue.asserted cue.label cue.follow valid.follow
        and link_takes cue.block cue.asserted cue.label cue.follow cue.link valid.link and all_parts cue.parts refl)
