-- A handle may be sent: it owns nothing, or what a box of a thing that may be sent does.
use Rattle.std.proofs.Common.{Option, Some, None}
use Rattle.std.proofs.Crossing.{frees}
use Rattle.std.specs.Global.{Global}
use Rattle.std_alloc.proofs.SendSync.{quiet, lies}
use Rattle.std_heap.proofs.Global.TheSendSync as heap_crossing
use mir.Raw.{raw}
use base.Shift.{Keyless}
use denote.Memory.{lone}
use denote.Param.Send.{IsSend, AllSend, owning_send, struct_send, sendable}
use denote.RawPtr.{Ptr}
use denote.Struct.Struct.{exits_of}
use denote.Struct.Owning.{shape, fields, to}
use Rattle.store_handles.specs.Handles.{handle_owns}
use Rattle.store_handles.specs.contracts.held.Held as held
use Rattle.store_handles.specs.contracts.handle.Handle.{the_row, the_type}
use Rattle.store_handles.proofs.held.Held.TheSendSync.{the_send as held_send}

owned : (alloc : Global) (p : Ptr) (inside : Option held.the_row.Denot) → Keyless (handle_owns alloc p inside)
owned alloc p None = λ _. tt
owned alloc p (Some inside) = (lies held.the_row held_send p inside, frees.frees alloc (raw (lone held.the_row.mir)) p)

pub send : IsSend the_row
send =
    let all : AllSend (fields the_type) = (search sendable, (heap_crossing.the_field_send, tt)) in
    owning_send the_type all (λ handle. owned handle.alloc handle.at handle.held)
    (λ k. quiet (to the_type) (exits_of k (fields the_type)) ((struct_send (shape the_type) all).leaving k))
