-- The sink's fault, as the session's.
use Rattle.lx_io.specs.declared.sink.SinkFault.{SinkFault}
use Rattle.lx_io.specs.declared.sink.SinkFault.TheVariants as sink
use Rattle.lx_session.specs.declared.fault.SessionFault.{SessionFault}
use Rattle.lx_session.specs.declared.fault.SessionFault.TheVariants.{WriteFault, Memory}

-- the sink's fault, as the session's
abbrev pub fault_of : SinkFault → SessionFault
fault_of sink.Failed = WriteFault
fault_of sink.Memory = Memory
