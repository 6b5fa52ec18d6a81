use Rattle.lx_script.proofs.Imports.{sym}
use Rattle.lx_script.proofs.reply.put_refused.Goals as goal

pub returns-in-AbsentCue : goal.returns-in-AbsentCue
returns-in-AbsentCue g c = rw c.in-AbsentCue.is c.put_of_cue.ensures

pub returns-in-AbsentPart : goal.returns-in-AbsentPart
returns-in-AbsentPart g c = rw (c.in-AbsentPart.is, sym c.get.ensures.value) c.put_in_cue.ensures

pub returns-in-AbsentChannel : goal.returns-in-AbsentChannel
returns-in-AbsentChannel g c = rw (c.in-AbsentChannel.is, sym c.get-in-AbsentChannel.ensures.value) c.put_of_number.ensures

pub returns-in-AbsentMove : goal.returns-in-AbsentMove
returns-in-AbsentMove g c = rw (c.in-AbsentMove.is, sym c.get-in-AbsentMove.ensures.value) c.put_in_cue-in-AbsentMove.ensures

pub returns-in-AbsentGroup : goal.returns-in-AbsentGroup
returns-in-AbsentGroup g c = rw (c.in-AbsentGroup.is, sym c.get-in-AbsentGroup.ensures.value) c.put_of_number-in-AbsentGroup.ensures

pub returns-in-AbsentSub : goal.returns-in-AbsentSub
returns-in-AbsentSub g c = rw (c.in-AbsentSub.is, sym c.get-in-AbsentSub.ensures.value) c.put_of_number-in-AbsentSub.ensures

pub returns-in-AbsentDimmer : goal.returns-in-AbsentDimmer
returns-in-AbsentDimmer g c = rw (c.in-AbsentDimmer.is, sym c.get-in-AbsentDimmer.ensures.value) c.put_of_number-in-AbsentDimmer.ensures

pub returns-in-CueLimit : goal.returns-in-CueLimit
returns-in-CueLimit g c = rw c.in-CueLimit.is c.put_all.ensures

pub returns-in-BasePart : goal.returns-in-BasePart
returns-in-BasePart g c = rw c.in-BasePart.is c.put_all-in-BasePart.ensures

pub returns-in-NoCueAfter : goal.returns-in-NoCueAfter
returns-in-NoCueAfter g c = rw c.in-NoCueAfter.is c.put_of_cue-in-NoCueAfter.ensures

pub returns-in-NoCueBefore : goal.returns-in-NoCueBefore
returns-in-NoCueBefore g c = rw c.in-NoCueBefore.is c.put_of_cue-in-NoCueBefore.ensures

pub returns-in-PlaybackFull : goal.returns-in-PlaybackFull
returns-in-PlaybackFull g c = rw c.in-PlaybackFull.is c.put_all-in-PlaybackFull.ensures

pub returns-in-TickLimit : goal.returns-in-TickLimit
returns-in-TickLimit g c = rw c.in-TickLimit.is c.put_of_number-in-TickLimit.ensures

pub returns-in-Memory : goal.returns-in-Memory
returns-in-Memory g c = rw c.in-Memory.is c.put_all-in-Memory.ensures
