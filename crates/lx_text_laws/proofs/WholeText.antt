-- The whole text of a show reads back.
use Rattle.lx_text_laws.proofs.Imports.{cases_Bool, ◌≡◌, ℕ, zero, suc, ◌≤◌, ◌==◌, Ok, List, [], ◌∷◌, ◌++◌, length, codes, decimal, refl, onto_first}
use Rattle.lx_text_laws.proofs.Imports.{arith, ap, ◌∙◌, sym, append-nil, max, NoRecord, InGroup, InSub, Moves, desk_limits, length-map, first_lines}
use Rattle.lx_text_laws.proofs.Imports.{cut_lines, without_cr, lines_of, Show, Valid, ValidCue, ValidGroup, ValidSub, ValidPatchRow, Identifies}
use Rattle.lx_text_laws.proofs.Imports.{reads_lines, lines_read, line, spaced, patch_text, group_text, sub_text, cue_text, show_text, inl, inr}
use Rattle.lx_text_laws.proofs.Imports.{read_ended, are_read}
use Rattle.lx_text_laws.specs.RoundTrip.{ReadsBack}
use Rattle.lx_text_laws.proofs.Passage.{reached_none, reached_line, Rests, record_adds, each_adds}
use Rattle.lx_text_laws.proofs.LineTexts.{channels_reads, group_reads, sub_reads}
use Rattle.lx_text_laws.proofs.ShowEntries.{row_takes, set_takes, cue_takes}

-- all lines of a text are all its bytes
onto_first-count : (b : ℕ) (parts : List (List ℕ)) → length (onto_first b parts) ≡ max 1 (length parts)
onto_first-count b [] = refl
onto_first-count b (part ∷ parts) = omega arith

pub all_lines : (k : ℕ) (bytes : List ℕ) → length (cut_lines bytes) ≤ k → first_lines k bytes ≡ bytes
all_lines k [] few = refl
all_lines zero (b ∷ bs) few = elim (cases_Bool (b == 10)) [
  | inl is ↦ absurd (omega (arith, rw is at few))
  | inr is ↦ absurd (omega (arith, rw is at few, onto_first-count b (cut_lines bs)))
]
all_lines (suc k) (b ∷ bs) few = elim (cases_Bool (b == 10)) [
  | inl is ↦ rw is (ap (λ v. b ∷ v) (all_lines k bs (omega (arith, rw is at few))))
  | inr is ↦ rw is (ap (λ v. b ∷ v) (all_lines (suc k) bs (omega (arith, rw is at few, onto_first-count b (cut_lines bs)))))
]

-- the lines before the records
begun : (show : Show) → Valid show
    → Rests show.channels (line (codes "IDENT" ∷ codes "3:0" ∷ []) ++ line (codes "SET" ∷ codes "CHANNELS" ∷ decimal show.channels ∷ []))
    (record show { cues = []; groups = []; subs = []; patch = [] })
begun show valid =
    let ident = reached_line {e = Identifies} reached_none (spaced (codes "IDENT" ∷ codes "3:0" ∷ [])) refl refl refl in
    let says = channels_reads {cs = []} valid.channels in
    record {
      section = NoRecord;
      part = 1;
      stands = record {
        count = 1;
        most = valid.channels.least;
        reached = reached_line ident (spaced (codes "SET" ∷ codes "CHANNELS" ∷ decimal show.channels ∷ [])) says.stays_all
            (says.is ident.number) says.goes_on;
      };
    }

pub reads_back : (show : Show) → Valid show → ReadsBack show
reads_back show valid =
    let k = show.channels in
    let text = show_text show in
    let patch = each_adds (ValidPatchRow k) (λ row. row.dimmer) (λ rows. record show { cues = []; groups = []; subs = []; patch = rows })
    patch_text show.patch valid.patch valid.patch_sorted
    (λ done row v low few. record_adds (row_takes (record show { cues = []; groups = []; subs = [] }) done row valid.channels v low)) in
    let groups = each_adds (ValidGroup k) (λ g. g.number) (λ sets. record show { cues = []; subs = []; groups = sets }) group_text show.groups
    valid.groups valid.groups_sorted (λ done g v low few. record_adds (λ s p.
    set_takes (λ sets. record show { cues = []; subs = []; groups = sets }) InGroup done g valid.channels v low (λ cs i line rest. refl)
    (λ cs i line rest. refl) (λ label i count xs. refl) (λ m i count xs. refl) s p (group_reads v.number) (λ i count. refl))) in
    let subs = each_adds (ValidSub k) (λ s. s.number) (λ sets. record show { cues = []; subs = sets }) sub_text show.subs
    valid.subs valid.subs_sorted (λ done g v low few. record_adds (λ s p.
    set_takes (λ sets. record show { cues = []; subs = sets }) InSub done g valid.channels v low (λ cs i line rest. refl)
    (λ cs i line rest. refl) (λ label i count xs. refl) (λ m i count xs. refl) s p (sub_reads v.number) (λ i count. refl))) in
    let cues = each_adds (ValidCue k) (λ c. c.number) (λ cues. record show { cues = cues }) cue_text show.cues valid.cues valid.cues_sorted
    (λ done cue v low few. record_adds (λ s p. cue_takes show done cue valid.channels v low s p (omega (arith, few, valid.few_cues)))) in
    let rests = cues.adds _ (subs.adds _ (groups.adds _ (patch.adds _ (begun show valid)))) in
    let reached = rests.stands.reached in
    let all = read_ended reached.so_far Moves (codes "ENDDATA") valid.channels.least refl refl in
    let cut : lines_of text ≡ reached.lines ++ codes "ENDDATA" ∷ [] = reached.cut (line (codes "ENDDATA" ∷ [])) in
    let wanted = ap lines_read cut ∙ (rw append-nil at (all.wanted [])) ∙ sym (ap length cut) in
    let same : max rests.stands.count k ≡ k = omega (arith, rests.stands.most) in
    record {
      reading = ap (reads_lines desk_limits Moves) cut ∙ are_read all
          ∙ (λ j. Ok (record { show = record show { channels = same j }; skipped = 0; first_skipped = 0 }));
      lines = wanted;
      bytes = all_lines (lines_read (lines_of text)) text (omega (arith, wanted, length-map (cut_lines text) without_cr));
    }
