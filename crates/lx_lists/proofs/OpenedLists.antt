-- Both lists as they are opened.
use Rattle.lx_lists.proofs.Imports.{◌≡◌, sym, ap, ◌∙◌, Show, Kept, opened, first_show, second_show, StandsFor, Output, IsFilled, AreKept}
use Rattle.lx_lists.proofs.KeptLists.{both}

pub opened_channels : (show one other : Show) (first second : Kept) → one ≡ first_show show → other ≡ second_show show
    → StandsFor (opened one) first → StandsFor (opened other) second → second.show.channels ≡ first.show.channels
opened_channels show one other first second is is' stands stands' =
    ap (λ (k : Kept). k.show.channels) stands'.same ∙ ap (λ (s : Show). s.channels) is' ∙ sym (ap (λ (s : Show). s.channels) is)
    ∙ sym (ap (λ (k : Kept). k.show.channels) stands.same)

pub opened_kept : (show one other : Show) (first second : Kept) (output : Output) → one ≡ first_show show → other ≡ second_show show
    → StandsFor (opened one) first → StandsFor (opened other) second → IsFilled (both first second) output
    → AreKept (both first second) output
opened_kept show one other first second output is is' stands stands' filled = record {
  desks = record { first = opened one; second = opened other };
  stand = record { first = stands; second = stands' };
  moments = ap (λ (k : Kept). k.playback.moment) stands'.same ∙ sym (ap (λ (k : Kept). k.playback.moment) stands.same);
  channels = opened_channels show one other first second is is' stands stands';
  filled = filled;
}
