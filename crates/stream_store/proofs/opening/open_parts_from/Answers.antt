use Rattle.std.proofs.{Common.{◌≡◌, ap, subst, sym}, lemmas.Result.IfOk-weaker}
use Rattle.graph_version.specs.Rebased.{IsRebased}
use Rattle.store_steps.specs.Opening.{IsVersionZero, opened_desk}
use Rattle.stream_store.specs.Kept.{DeskState}
use Rattle.stream_store.proofs.opening.open_parts_from.Goals as goal

pub open_over-requires-2 : goal.open_over-requires-2
open_over-requires-2 g c =
    let kept = c.in_ok-kept.kept in (
      kept.last,
      subst (λ n. IsVersionZero n kept.last) c.blocks-2.ensures.number c.in_ok-kept.ensures.zero,
      subst (λ n. kept ≡ opened_desk n kept.last) c.blocks-2.ensures.number c.in_ok-kept.ensures.desk,
    )

pub returns-clause-rebased : goal.returns-clause-rebased
returns-clause-rebased g c =
    IfOk-weaker c.open_over-2.result _ _
    (λ r is. subst (IsRebased c.args.version.now) (sym (ap (λ (d : DeskState). d.desk.last) is)) c.in_ok-kept.ensures.rebased)
    c.open_over-2.ensures.desk
