-- What a store's receipts and refusals say where the desk behind the lock is not known.
use Rattle.std.proofs.{Common.{ℕ, List, arith}, lemmas.Grind.common_steps}
use Rattle.graph_types.specs.declared.batches.{NamedOp.NamedOp, Outcome.Outcome}
use Rattle.version_shelf.specs.Shelves.{ToldView}
use Rattle.store_steps.specs.Acceptances.{Accepts}
use Rattle.stream_store.specs.{Applying.IsReceipt, Kept.DeskState, Refusals.IsWithin, Stores.IsReceiptOf}

-- a receipt of a desk that accepted the batch within its limits
pub receipt_of : (old new : DeskState) (free : ℕ) (ops : List NamedOp) (number : ℕ) (results : List Outcome) (told : ToldView)
    → IsReceipt old ops new number results told → Accepts old.desk ops new.desk → IsWithin old.desk.last free ops
    → IsReceiptOf ops number results told
receipt_of old new free ops number results told receipt accepts within = grind (arith, common_steps)
