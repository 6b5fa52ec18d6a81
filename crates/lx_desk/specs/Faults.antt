-- The status of a session that ended, and of a show that couldn't be read.
use Rattle.std.specs.Prelude.{Result, Ok, Err}
use Rattle.lx_io.specs.declared.sink.SinkFault.{SinkFault}
use Rattle.lx_io.specs.declared.sink.SinkFault.TheVariants as sinks
use Rattle.lx_session.specs.declared.fault.SessionFault.{SessionFault}
use Rattle.lx_session.specs.declared.fault.SessionFault.TheVariants.{ReadFault, WriteFault, InputTooLong, Memory}
use Rattle.lx_desk.specs.declared.desk.Status.{Status}
use Rattle.lx_desk.specs.declared.desk.Status.TheVariants as status

abbrev pub status_for : {A : Type 0} → Result A SessionFault → Status
status_for (Ok x) = status.Ok
status_for (Err ReadFault) = status.ReadFault
status_for (Err WriteFault) = status.WriteFault
status_for (Err InputTooLong) = status.InputTooLong
status_for (Err Memory) = status.Memory

-- and of a fault of the output
abbrev pub status_of_sink : SinkFault → Status
status_of_sink sinks.Failed = status.WriteFault
status_of_sink sinks.Memory = status.Memory
