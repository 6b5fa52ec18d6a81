use Rattle.lx_workers.proofs.playing.play_in.Given as goal

abbrev pub ghosts-play_over : goal.ghosts-play_over
ghosts-play_over g a = record { show = a.console.now.show; book = a.history.seen.book }
