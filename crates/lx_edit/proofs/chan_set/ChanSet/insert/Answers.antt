use Rattle.lx_edit.proofs.Imports.{◌<◌, ◌-◌, ◌/◌, ◌∙◌, ap, length, ℕ, rules, ◌==◌, ◌||◌, has_chan}
use Rattle.lx_edit.proofs.ChanBits.{has_chan-with, is_chan-in}
use Rattle.lx_edit.proofs.chan_set.ChanSet.insert.Goals as goal

pub returns : goal.returns
returns c =
    let words = c.args.self.now.words in
    let n = c.get-place.result in
    let within : (n - 1) / 64 < length words = search rules in
    λ x. has_chan-with words n x (is_chan-in n c.get-place.ensures.least c.get-place.ensures.most) within
    ∙ ap (λ (k : ℕ). x == k || has_chan c.args.self.now x) c.get-place.ensures.value
