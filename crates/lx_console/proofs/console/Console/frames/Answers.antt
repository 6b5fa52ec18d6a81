use Rattle.lx_console.proofs.Imports.{List, ℕ, sym, subst, SLOTS, dimmer_value, Kept, IsTable, patched, out_now}
use Rattle.lx_console.proofs.AllRuns.{frame_of_all}
use Rattle.lx_console.proofs.console.Console.frames.Goals as goal

slots : (c : goal.After-slots) → IsTable SLOTS (dimmer_value c.args.self.now.show.patch (out_now c.args.self.now)) c.slots.result.now
slots c =
    let k : Kept = c.self.inside.player in
    let output = c.self.inside.output in
    let filled = c.self.invariant in
    subst (λ (xs : List ℕ). IsTable SLOTS (dimmer_value c.args.self.now.show.patch (out_now c.args.self.now)) xs) (sym c.slots.ensures)
    (subst (λ (k : Kept). IsTable SLOTS (dimmer_value k.show.patch (out_now k)) output.slots.items) c.self.view_is
    (patched k.show (out_now k) output.outs.items output.slots.items filled.rows filled.outs_stand filled.slots_stand))

pub returns-clause-slots : goal.returns-clause-slots
returns-clause-slots c = slots c

pub returns-clause-frames : goal.returns-clause-frames
returns-clause-frames c = λ d u stands. frame_of_all d c.args.self.now c.slots.result.now u stands (slots c)
