use Rattle.lx_sheet.proofs.Imports.{◌+◌, ◌-◌, ◌/◌, ◌%◌, ◌*◌, ◌<◌, ◌≤◌, ℕ, List, min, vec_len, ap, arith, ◌==◌, bit_at, mul-le-mul_right, take_all}
use Rattle.lx_sheet.proofs.Imports.{bit_of, group_of, word_place}
use Rattle.lx_sheet.specs.Marks.{has_mark}
use Rattle.lx_sheet.specs.WordPlaces.{words_over}
use Rattle.lx_sheet.proofs.BlockReach.{grown}
use Rattle.lx_sheet.proofs.marks.Marks.reach.Goals as goal

pub returns-in-Ok-clause-same : goal.returns-in-Ok-clause-same
unfolding has_mark
returns-in-Ok-clause-same c = λ row chan.
    let old : List ℕ = c.args.self.now.words.items in
    let more : ℕ = c.words_of-end.result - vec_len c.args.self.now.words in
    rw (c.in-Ok.ensures.items, take_all c.words_of-end.result old (omega (arith, c.args.self.now.words.ok)))
    (ap (λ w. bit_at w (bit_of chan) == 1) (grown old more (word_place c.args.self.now.groups row (group_of chan))))

-- the words of a row stand in those of more rows
reaches : (rows groups row : ℕ) → row < rows → (row / 64 + 1) * groups * 64 ≤ words_over rows groups
reaches rows groups row less = omega (arith, mul-le-mul_right {m = row / 64 + 1} {n = rows / 64 + min 1 (rows % 64)} groups (omega arith))

pub returns-else-len-end-clause-reach : goal.returns-else-len-end-clause-reach
returns-else-len-end-clause-reach c = λ row less. omega
    (arith, reaches c.args.rows c.args.self.now.groups row less, c.words_of-end.ensures, c.len.ensures, c.args.self.now.words.ok)

pub returns-in-Ok-clause-reach : goal.returns-in-Ok-clause-reach
returns-in-Ok-clause-reach c = λ row less. omega
    (arith, reaches c.args.rows c.args.self.now.groups row less, c.words_of-end.ensures, c.in-Ok.ensures.len, c.resize.new.self.ok)
