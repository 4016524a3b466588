-- What a handle owns, and what it holds.
use base.Fml.{Fml, ftrue, fex}
use base.Stored.{Coded}
use denote.RawPtr.{Ptr, null_ptr}
use Rattle.std.specs.Box.Ownership.{box_owns}
use Rattle.std.specs.Coded.{coded_option}
use Rattle.std.specs.Prelude.{◌≡◌, Option, Some, None}
use Rattle.std.specs.Global.{Global}
use Rattle.std_heap.specs.contracts.GlobalAllocator.TheImpl.{ghosts}
use Rattle.store_handles.specs.contracts.held.Held.{the_row}

-- a handle that holds nothing is null, and one that holds something owns it as a box does
abbrev pub handle_owns : Global → Ptr → Option the_row.Denot → Fml
handle_owns alloc p None = fex (p ≡ null_ptr) (λ _. ftrue)
handle_owns alloc p (Some held) = box_owns (ghosts.dealloc_token alloc) the_row p held

abbrev pub held_coded : Coded (Option the_row.Denot)
held_coded = coded_option the_row.coded
