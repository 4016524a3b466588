-- A batch that is shared and can't be copied is left as it was.
use Rattle.std.proofs.Common.{◌≡◌, List, Option, Some, None, IsSome, refl, inl}
use Rattle.std.specs.Prelude.{Err}
use Rattle.graph_types.specs.declared.batches.NamedOp.{NamedOp}
use Rattle.graph_types.specs.declared.batches.PushError.TheVariants.{OutOfMemory}
use Rattle.store_handles.specs.declared.held.Held.{Held}
use Rattle.misteluk_c.specs.Held.{batch_in, Asks, TellsPush}

at : (op : NamedOp) (b : Option (List NamedOp)) (new : Held) → IsSome b → batch_in (Some new) ≡ b
    → Asks b 1 (λ ops. TellsPush op ops (Some new) 1)
at op None new some same = cc
at op (Some ops) new some same = (Err OutOfMemory, ops, same, refl, (refl, inl refl))

pub not_unshared : (op : NamedOp) (before new : Held) → IsSome (batch_in (Some before)) → batch_in (Some new) ≡ batch_in (Some before)
    → Asks (batch_in (Some before)) 1 (λ ops. TellsPush op ops (Some new) 1)
not_unshared op before new some same = at op (batch_in (Some before)) new some same
