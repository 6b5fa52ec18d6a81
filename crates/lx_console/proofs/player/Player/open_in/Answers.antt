use Rattle.lx_console.proofs.Imports.{ℕ, List, ap, replicate, ◌∙◌, SUBS, Playback, kept-opened}
use Rattle.lx_console.proofs.player.Player.open_in.Goals as goal

pub returns-clause-stands : goal.returns-clause-stands
returns-clause-stands g c =
    let faders = c.in_ok-rack.ensures.faders in
    let playback = c.in_ok-playback.ensures.playback in
    record {
      same = ap (λ (levers : List ℕ). record { show = c.args.show; playback = c.in_ok-playback.playback; faders = levers; master = 255 })
          faders ∙ ap (λ (p : Playback). record { show = c.args.show; playback = p; faders = replicate SUBS 0; master = 255 }) playback;
      rest = kept-opened c.args.show;
    }
