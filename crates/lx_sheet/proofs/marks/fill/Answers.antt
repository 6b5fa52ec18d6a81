use Rattle.lx_sheet.proofs.Imports.{◌≡◌, ◌≢◌, ℕ, ◌<◌, List, length, get_or, set, ◌∙◌, inl, inr, arith, cases_eq, get_or-set_same, word_place}
use Rattle.lx_sheet.proofs.MarkWords.{place_within, word_other}
use Rattle.lx_sheet.proofs.marks.fill.Goals as goal

pub loop-group-preserved : goal.loop-group-preserved
loop-group-preserved c =
    let groups : ℕ = c.args.groups in
    let row : ℕ = c.args.row in
    let group : ℕ = c.loop-group.group in
    let word : ℕ = c.args.word in
    let words : List ℕ = c.loop-group.words in
    let at : c.place_of.result ≡ word_place groups row group = c.place_of.ensures in
    let next : List ℕ = set words c.place_of.result word in
    let other : (r g : ℕ) → g < groups → (r ≡ row → g ≢ group) → get_or next (word_place groups r g) 0 ≡ get_or words
    (word_place groups r g) 0 =
    λ r g low apart. rw at (word_other groups words row group word r g c.loop-group-test.true low apart) in
    record {
      here = λ g less. elim (cases_eq g group) [
        | inl e ↦ rw (e, ← at) (get_or-set_same words c.place_of.result word 0
            (rw at (place_within groups row group (length words) c.loop-group-test.true (omega arith))))
        | inr apart ↦ other row g (omega arith) (λ _ e. apart e) ∙ c.loop-group.invariant.here g (omega arith)
      ];
      others = λ r g apart low. other r g low (λ e _. apart e) ∙ c.loop-group.invariant.others r g apart low;
    }
