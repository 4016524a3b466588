use Rattle.std.proofs.Common.{◌≡◌, ◌∙◌, ap, refl, subst, arith}
use Rattle.graph_version.{specs.Versions.empty_version_in, proofs.Empty.is_empty_version_in}
use Rattle.store_steps.specs.Opening.{opened_desk}
use Rattle.stream_store.proofs.opening.open_parts.Goals as goal

pub open_over-requires : goal.open_over-requires
open_over-requires g c =
    let limits = c.args.config.limits in (
      empty_version_in limits,
      record {
        version = is_empty_version_in limits c.blocks-2.ensures.limits.limits;
        alone = refl;
        within = λ k d h. absurd (omega arith);
      },
      subst (λ n. c.in_ok-open_within.field-0 ≡ opened_desk n (empty_version_in limits)) c.blocks-2.ensures.number
          (c.in_ok-open_within.ensures
          ∙ ap (λ l. opened_desk c.blocks-2.result (empty_version_in l)) c.limits.ensures.value),
    )
