-- What a handle owns.
use Rattle.std.specs.Prelude.{Option, Some, None}
use base.Fml.{Fml, ftrue, fex}
use base.Stored.{Coded}
use denote.RawPtr.{Ptr}
use Rattle.std.specs.Box.Ownership.{box_owns}
use Rattle.std.specs.contracts.alloc.Global as Heap
use Rattle.std.specs.contracts.impls.GlobalAllocator.TheImpl.{ghosts}
use Rattle.std.specs.contracts.option.Option.{the_row as option_row}
use Rattle.lx_embed.specs.declared.desk.HostDesk.{HostDesk}
use Rattle.lx_embed.specs.contracts.desk.HostDesk.{the_row as host_row}

abbrev pub held_coded : Coded (Option HostDesk)
held_coded = (option_row host_row).coded

-- the box, which the heap has given
abbrev pub boxed : Ptr → HostDesk → Heap.the_row.Denot → Fml
boxed p x heap = box_owns (ghosts.dealloc_token heap) host_row p x

-- the box, where there is one
abbrev pub handle_owns : Ptr → Option HostDesk → Fml
handle_owns p (Some x) = fex Heap.the_row.Denot (boxed p x)
handle_owns p None = ftrue
