-- A batch that isn't planned is refused.
use Rattle.std.proofs.Common.{ℕ, ◌<◌, List, length, ◌≢◌, arith, refl}
use Rattle.graph_types.specs.{Refusals.IsLimitRefusal, declared.{batches.NamedOp.NamedOp, refusals.ApplyError.ApplyError}}
use Rattle.graph_types.specs.declared.refusals.ApplyError.TheVariants.{BatchLimit, NamesFull, KindsFull, PoolEmpty, OutOfMemory}
use Rattle.graph_version.specs.Versions.{VersionView, content}
use Rattle.desk.specs.Refusals.{Refuses, Attempt, IsAdmissible, BatchRefusal}
use Rattle.graph_types.specs.declared.refusals.ApplyError.TheVariants as refused

pub plan_refuses : (v : VersionView) (free : ℕ) (ops : List NamedOp) (e : ApplyError)
    → length v.batches < (content v).limits.batches → IsLimitRefusal e ops (content v) → Refuses v free ops e
plan_refuses v free ops BatchLimit few is = absurd is
plan_refuses v free ops NamesFull few is = (few, is)
plan_refuses v free ops KindsFull few is = (few, is)
plan_refuses v free ops (PoolEmpty needed left) few is = absurd is
plan_refuses v free ops OutOfMemory few is = tt

-- and none where it is admissible
pub not_refused : (a : Attempt) (e : ApplyError) → IsAdmissible a → BatchRefusal a e → e ≢ refused.OutOfMemory → ⊥
not_refused a refused.BatchLimit fits is known = omega (arith, fits.few, is)
not_refused a refused.NamesFull fits is known = fits.limits.0 is.1
not_refused a refused.KindsFull fits is known = fits.limits.1 is.1.0
not_refused a (refused.PoolEmpty n l) fits is known = omega (arith, fits.blocks, is.4)
not_refused a refused.OutOfMemory fits is known = known refl
