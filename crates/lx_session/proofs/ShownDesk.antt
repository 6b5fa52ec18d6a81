-- The frame line and the saved show of a console.
use Rattle.lx_session.proofs.Imports.{◌≡◌, ℕ, List, [], ap, ◌∙◌, Desk, frame, frame_text, Show, show_text, Kept, StandsFor}

pub frame_shown : (d : Desk) (console : Kept) (m u : ℕ) (slots : List ℕ) → StandsFor d console → m ≡ console.playback.moment
    → slots ≡ frame d u → frame_text [] m u slots ≡ frame_text [] d.playback.moment u (frame d u)
frame_shown d console m u slots stands at is =
    ap (λ n. frame_text [] n u slots) (at ∙ ap (λ k. k.playback.moment) stands.same) ∙ ap (frame_text [] d.playback.moment u) is

pub show_saved : (d : Desk) (console : Kept) (show : Show) → StandsFor d console → show ≡ console.show → show_text show ≡ show_text d.show
show_saved d console show stands is = ap show_text (is ∙ ap (λ k. k.show) stands.same)
