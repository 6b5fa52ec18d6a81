use Rattle.lx_script.proofs.Imports.{decimal, Puts-is, Puts-then, Puts-stops, count_words}
use Rattle.lx_script.proofs.Texts.{head_is}
use Rattle.lx_script.proofs.frame.put_head.Goals as goal

pub returns-in_err-put_count_and : goal.returns-in_err-put_count_and
returns-in_err-put_count_and g c =
    Puts-is (Puts-then c.in_ok-put_start.ensures (Puts-stops (decimal c.args.universe) c.in_err-put_count_and.ensures
    c.from_residual-in_err-put_count_and.ensures))
    (head_is (count_words c.args.count) c.args.m c.args.universe)
