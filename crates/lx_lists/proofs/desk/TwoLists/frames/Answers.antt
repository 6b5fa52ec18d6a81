use Rattle.lx_lists.proofs.Imports.{ℕ, List, sym, subst, SLOTS, dimmer_value, IsTable, TwoKept, out_of_both}
use Rattle.lx_patch.proofs.Frames.{patched}
use Rattle.lx_lists.proofs.TwoFrames.{frame_of_both}
use Rattle.lx_lists.proofs.KeptLists.{both}
use Rattle.lx_lists.proofs.desk.TwoLists.frames.Goals as goal

slots : (c : goal.After-slots)
    → IsTable SLOTS (dimmer_value c.args.self.now.first.show.patch (out_of_both c.args.self.now)) c.slots.result.now
slots c =
    let t : TwoKept = both c.self.inside.first c.self.inside.second in
    let kept = c.self.inside.output.kept in
    let filled = c.self.invariant.filled in
    subst (λ (xs : List ℕ). IsTable SLOTS (dimmer_value c.args.self.now.first.show.patch (out_of_both c.args.self.now)) xs)
    (sym c.slots.ensures)
    (subst (λ (t : TwoKept). IsTable SLOTS (dimmer_value t.first.show.patch (out_of_both t)) kept.slots.items) c.self.view_is
    (patched t.first.show (out_of_both t) kept.outs.items kept.slots.items filled.rows filled.outs filled.slots))

pub returns-clause-slots : goal.returns-clause-slots
returns-clause-slots c = slots c

pub returns-clause-frames : goal.returns-clause-frames
returns-clause-frames c = λ s u stand least most. frame_of_both s c.args.self.now c.slots.result.now u stand (slots c) least most
