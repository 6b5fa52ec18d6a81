use Rattle.lx_sheet.proofs.Imports.{ap, arith, ◌==◌, bit_at, with_items_is, bit_of, group_of}
use Rattle.lx_sheet.specs.Marks.{has_mark}
use Rattle.lx_sheet.proofs.marks.Marks.write.Goals as goal

pub returns-clause-here : goal.returns-clause-here
unfolding has_mark
returns-clause-here c = λ chan least most is.
    rw (with_items_is c.args.self.now.words c.write_row.new.words (omega arith))
    (ap (λ b. b == 1) (c.write_row.ensures.here chan least most is))

pub returns-clause-others : goal.returns-clause-others
unfolding has_mark
returns-clause-others c = λ row chan apart least most.
    rw (with_items_is c.args.self.now.words c.write_row.new.words (omega arith))
    (ap (λ w. bit_at w (bit_of chan) == 1)
    ((rw c.deref_mut.ensures.value at c.write_row.ensures.others) row (group_of chan) apart (omega (arith, least, most))))
