use Rattle.lx_script.proofs.undo_reply.put_undo_fault.Goals as goal

pub returns-in-NothingToUndo : goal.returns-in-NothingToUndo
returns-in-NothingToUndo g c = rw c.in-NothingToUndo.is c.put_all.ensures

pub returns-in-NothingToRedo : goal.returns-in-NothingToRedo
returns-in-NothingToRedo g c = rw c.in-NothingToRedo.is c.put_all-in-NothingToRedo.ensures
