-- A handle may go to another thread: what it leads to may, and so may the right to free it.
use mir.Raw.{raw}
use Rattle.lx_host.proofs.Imports.{full_share, Exit, unchanged, leaves, hidden, under, RattleType, lone, Ptr, block_ptr, null_ptr, lies_at, exits_of, shape}
use Rattle.lx_host.proofs.Imports.{fields, to, Option, None, Some, handle_owns}
use base.Shift.{Keyless}
use denote.Param.Send.{IsSend, Quiet, AllSend, part_keyless, owning_send, struct_send, sendable}
use Rattle.std.proofs.Crossing.{frees}
use Rattle.lx_embed.specs.contracts.desk.HostDesk as Host
use Rattle.lx_embed.proofs.desk.HostDesk.TheSendSync.{the_send as host}
use Rattle.lx_host.specs.contracts.handle.Handle.{the_row, the_type}

quiet : {D X : Type 0} (to : D → X) (e : Exit X) → Quiet e → Quiet (hidden (under to e))
quiet to unchanged q = λ x w. tt
quiet to (leaves L l S s r₀) q = λ d. q (to d)

lies : (R : RattleType) → IsSend R → (p : Ptr) (x : R.Denot) → Keyless (lies_at R full_share p x)
lies R s (block_ptr b o) x = part_keyless R s full_share x b o
lies R s null_ptr x = tt

keyless : (p : Ptr) (held : Option Host.the_row.Denot) → Keyless (handle_owns p held)
keyless p (Some x) = λ heap. (lies Host.the_row host p x, frees.frees heap (raw (lone Host.the_row.mir)) p)
keyless p None = tt

pub send : IsSend the_row
send =
    let all : AllSend (fields the_type) = (search sendable, tt) in
    owning_send the_type all (λ d. keyless d.at d.held)
    (λ k. quiet (to the_type) (exits_of k (fields the_type)) ((struct_send (shape the_type) all).leaving k))
