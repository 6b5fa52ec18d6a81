-- The slots of two lists are the frames of the two desks.
use Rattle.lx_lists.proofs.Imports.{◌≡◌, ℕ, ◌-◌, ◌*◌, ◌≤◌, max, List, [], ap, arith, ◌∙◌, subst, SLOTS, UNIVERSES, UNIVERSE_SLOTS}
use Rattle.lx_lists.proofs.Imports.{scaled, contribution, dimmer_value, Kept, kept, TwoDesks, out_of_two, frame_of_two, frame_text, IsTable, universe, TwoKept}
use Rattle.lx_lists.proofs.Imports.{TwoStand, out_of_both}
use Rattle.lx_console.proofs.AllRuns.{over_all, part}

outputs : (s : TwoDesks) (t : TwoKept) → TwoStand s t → out_of_both t ≡ out_of_two s
outputs s t stand =
    let kept_ones : out_of_both t ≡ out_of_both (record { first = kept s.first; second = kept s.second }) =
    λ i. out_of_both (record { first = stand.first.same i; second = stand.second.same i }) in
    let all : out_of_both (record { first = kept s.first; second = kept s.second }) ≡ out_of_two s =
    λ i c. scaled (max (max (over_all s.first stand.first.rest c i) (over_all s.second stand.second.rest c i))
    (contribution s.first.show s.first.faders c)) s.first.master in
    kept_ones ∙ all

pub frame_of_both : (s : TwoDesks) (t : TwoKept) (slots : List ℕ) (u : ℕ) → TwoStand s t
    → IsTable SLOTS (dimmer_value t.first.show.patch (out_of_both t)) slots → 1 ≤ u → u ≤ UNIVERSES → universe u slots ≡ frame_of_two s u
frame_of_both s t slots u stand table least most =
    let of_first : IsTable SLOTS (dimmer_value s.first.show.patch (out_of_both t)) slots =
    subst (λ (k : Kept). IsTable SLOTS (dimmer_value k.show.patch (out_of_both t)) slots) stand.first.same table in
    part SLOTS (UNIVERSE_SLOTS * (u - 1)) UNIVERSE_SLOTS (dimmer_value s.first.show.patch (out_of_two s)) slots
    (subst (λ (outs : ℕ → ℕ). IsTable SLOTS (dimmer_value s.first.show.patch outs) slots) (outputs s t stand) of_first) (omega arith)

-- the line of a frame of both
pub frame_shown : (s : TwoDesks) (t : TwoKept) (m u : ℕ) (slots : List ℕ) → TwoStand s t → m ≡ t.first.playback.moment
    → slots ≡ frame_of_two s u → frame_text [] m u slots ≡ frame_text [] s.first.playback.moment u (frame_of_two s u)
frame_shown s t m u slots stand moment shown =
    ap (λ (n : ℕ). frame_text [] n u slots) (moment ∙ ap (λ (k : Kept). k.playback.moment) stand.first.same)
    ∙ ap (frame_text [] s.first.playback.moment u) shown
