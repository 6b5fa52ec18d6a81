use Rattle.lx_desk.proofs.Imports.{ℕ, ◌+◌, ◌-◌, refl, flat_map, range_with_len, Puts-then, Puts-stops, Puts-is, made_patch}
use Rattle.lx_desk.proofs.MadeInputs.{range_more, range_around}
use Rattle.lx_desk.proofs.generator.put_patch.Goals as goal

pub loop-before-preserved : goal.loop-before-preserved
loop-before-preserved g c = Puts-is (Puts-then c.loop-before.invariant c.in_ok-put_patched.ensures)
    (range_more made_patch c.loop-before.before _ refl)

pub returns-in_err-put_patched : goal.returns-in_err-put_patched
returns-in_err-put_patched g c =
    let k : ℕ = c.loop-before.before in
    Puts-is (Puts-stops (flat_map made_patch (range_with_len (1 + (k + 1)) (512 - (k + 1))))
    (Puts-then c.loop-before.invariant c.in_err-put_patched.ensures) c.from_residual.ensures)
    (range_around made_patch k 512 _ c.loop-before-test.true refl)
