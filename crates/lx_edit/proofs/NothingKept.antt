-- Cue only, where the cue above decides the one channel that a move changes: nothing has to be kept there.
use Rattle.lx_edit.proofs.Imports.{◌≡◌, ℕ, Bool, true, false, cond, List, [], ◌∷◌, Some, None, refl, ◌∙◌, sym, ap, inl, inr}
use Rattle.lx_edit.proofs.Imports.{map, Option, IfSome, filter, is_some, not, ◌==◌, ◌||◌, option_map_or, cases_eq, Move, IsStrictlySorted, Cue, Show}
use Rattle.lx_edit.proofs.Imports.{cue_above, decides, tracked, with_cue, with_moves, cue_only, channels_of, entry_at-placed_other}
use Rattle.lx_edit.proofs.Imports.{placed_same, FoundCue, changed_show, with_move}
use Rattle.lx_edit.proofs.KeptLevels.{above_there, cue_only_is, level_differs, unchanged}
use Rattle.lx_edit.proofs.SameLists.{sorted_exchanged}

-- the cue above placed again leaves the changed show
pub above_again : (show : Show) (n : ℕ) (new : Option Cue) (above : Cue) → IsStrictlySorted (λ x. x.number) show.cues
    → IfSome new (λ cue. cue.number ≡ n) → cue_above show n ≡ Some above → with_cue (changed_show show n new) above ≡ changed_show show n new
above_again show n new above sorted number is =
    let key : Cue → ℕ = λ x. x.number in
    ap (λ (cues : List Cue). record (changed_show show n new) { cues = cues }) (placed_same key above (changed_show show n new).cues
    (sorted_exchanged key n new show.cues sorted) (above_there show n new above sorted number is))

none_pass : {A : Type 0} (test : A → Bool) → ((x : A) → test x ≡ false) → (xs : List A) → filter test xs ≡ []
none_pass test all [] = refl
none_pass test all (x ∷ xs) = rw (all x) (none_pass test all xs)

kept_step : (show : Show) (n : ℕ) (cue : Cue) (entry : Move) (o : Option Cue) → FoundCue show n cue → cue_above show n ≡ o
    → IfSome o (λ above. decides above entry.chan ≡ true)
    → cue_only true show n (with_cue show (with_move cue entry)) ≡ with_cue show (with_move cue entry)
kept_step show n cue entry None here is apart = cue_only_is show n (Some (with_move cue entry)) None here.number is
kept_step show n cue entry (Some above) here is apart =
    let new : Option Cue = Some (with_move cue entry) in
    let after : Show = with_cue show (with_move cue entry) in
    let none = none_pass (λ c. not (tracked show above.number c == tracked after above.number c)) (λ c. elim (cases_eq c entry.chan) [
      | inl at ↦ rw (level_differs new c here here.number is, at, apart) refl
      | inr other ↦ unchanged new c here here.number is (ap (λ (o : Option Move).
          cond (cue.block || is_some o) (Some (option_map_or (λ m. m.level) o 0)) None)
          (entry_at-placed_other (λ (m : Move). m.chan) c entry cue.moves (λ h. other (sym h))))
    ]) (channels_of show) in
    cue_only_is show n new (Some above) here.number is
    ∙ ap (λ (cs : List ℕ). with_cue after (with_moves above
    (map (λ c. record { chan = c; part = 1; level = tracked show above.number c }) cs))) none
    ∙ above_again show n new above here.valid_show.cues_sorted here.number is

-- so the edit is the same as without the cue above
pub nothing_kept : (show : Show) (n : ℕ) (cue : Cue) (entry : Move) → FoundCue show n cue
    → IfSome (cue_above show n) (λ above. decides above entry.chan ≡ true)
    → cue_only true show n (with_cue show (with_move cue entry)) ≡ with_cue show (with_move cue entry)
nothing_kept show n cue entry here apart = kept_step show n cue entry (cue_above show n) here refl apart
