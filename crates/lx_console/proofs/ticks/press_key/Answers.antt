use Rattle.lx_console.proofs.Imports.{run_made}
use Rattle.lx_console.proofs.RunChanges.{stands_before, not_both}
use Rattle.lx_console.proofs.ticks.press_key.Goals as goal

pub after_key-requires-clause-started : goal.after_key-requires-clause-started
after_key-requires-clause-started c = λ started. stands_before c.args.key
    (record { playback = c.press.new.self; run = run_made c.args.playback.now c.in_ok-pressed.pressed }) c.in_ok-pressed.ensures.ok
    (λ same. not_both c.in_ok-pressed.pressed.settled started (c.in_ok-pressed.ensures.settled.1 same)) c.requires.levels
