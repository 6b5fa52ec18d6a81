use Rattle.lx_desk.proofs.Imports.{refl, fault_text}
use Rattle.lx_reader.specs.declared.fault.ShowFault.TheVariants as shows
use Rattle.lx_desk.specs.declared.desk.Status.TheVariants as status
use Rattle.lx_desk.proofs.Finishing.{refuses_text, refuses_other}
use Rattle.lx_desk.proofs.refuse.refuse.Goals as goal

pub returns-in-Text : goal.returns-in-Text
returns-in-Text g c =
    rw c.in-Text.is (refuses_text (c.finish.ensures 0 c.args.output.now (fault_text c.in-Text.fault) c.put_fault.ensures))

pub returns-in-ReadFault : goal.returns-in-ReadFault
returns-in-ReadFault g c = rw c.in-ReadFault.is (refuses_other shows.ReadFault status.ReadFault refl)

pub returns-in-InputTooLong : goal.returns-in-InputTooLong
returns-in-InputTooLong g c = rw c.in-InputTooLong.is (refuses_other shows.InputTooLong status.InputTooLong refl)

pub returns-in-Memory : goal.returns-in-Memory
returns-in-Memory g c = rw c.in-Memory.is (refuses_other shows.Memory status.Memory refl)
