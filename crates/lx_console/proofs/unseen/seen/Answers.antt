use Rattle.lx_console.proofs.Imports.{◌≡◌, ℕ, ◌⊎◌, inl, inr, false, List, sym, subst, ap, ◌∙◌, Option, take, IsSomeAnd, entries_above, Cue}
use Rattle.lx_console.proofs.Imports.{has_chan, IsUnseen, decided_at}
use Rattle.lx_console.proofs.Apart.{unseen_by}
use Rattle.lx_console.proofs.unseen.seen.Goals as goal

pub returns : goal.returns
returns c = λ x range out.
    let later : c.above-later.result.now ≡ entries_above (λ cue. cue.number) c.in-Some.n c.args.show.now.cues = c.above-later.ensures
    ∙ ap (λ k. entries_above (λ (cue : Cue). cue.number) k c.cues.result.now) c.get.ensures.value
    ∙ ap (λ (cues : List Cue). entries_above (λ cue. cue.number) c.in-Some.n cues) c.cues.ensures.cues in
    elim (c.undecided.ensures x range out) as (λ e. (has_chan c.args.chans.now x ≡ false)
    ⊎ IsSomeAnd c.args.placed (λ n. IsUnseen c.args.show.now c.args.playback.now n x)) [
      | inl clean ↦ inl clean
      | inr by ↦ inr (subst (λ (o : Option ℕ). IsSomeAnd o (λ n. IsUnseen c.args.show.now c.args.playback.now n x)) (sym c.in-Some.is)
          (unseen_by c.args.show.now c.args.playback.now c.in-Some.n c.in-Some-first_from.first x c.min.result
          c.in-Some-first_from.ensures.base c.in-Some-first_from.ensures.runs
          (subst (λ (cues : List Cue). decided_at (take c.min.result cues) c.in-Some-first_from.first x) later by)))
    ]
