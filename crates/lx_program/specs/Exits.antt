-- The exit status of the program.
use Rattle.std.specs.Prelude.{ℕ}
use Rattle.lx_desk.specs.declared.desk.Status.{Status}
use Rattle.lx_desk.specs.declared.desk.Status.TheVariants as status

abbrev pub exit_status : Status → ℕ
exit_status status.Ok = 0
exit_status status.ShowRefused = 1
exit_status status.Usage = 2
exit_status status.ReadFault = 3
exit_status status.WriteFault = 4
exit_status status.Memory = 5
exit_status status.InputTooLong = 6
-- `main` plays live instead
exit_status status.Live = 2
