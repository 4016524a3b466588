use Rattle.std.proofs.Common.{◌∙◌, ap, subst}
use Rattle.graph_version.specs.{Versions.VersionView, Kept.{IsSummary}, Rebased.rows_like}
use Rattle.graph_version.specs.Logs.{LogView, keeps_batches}
use Rattle.graph_version.proofs.Rebased.{LookLike, look_blocks, rebased_kept, rebased_is}
use Rattle.graph_version.specs.{Rows.row_of, Sharing.block_values}
use Rattle.graph_version.proofs.versions.Version.rebased.Goals as goal

pub invariant_of-result : goal.invariant_of-result
invariant_of-result c =
    let like : LookLike c.args.self.now (block_values c.args.blocks.items) c.in_ok-rows_over.field-0 = record {
      copies = c.requires;
      looks = λ s. c.in_ok-rows_over.ensures s
          ∙ (λ i. row_of (rows_like (c.self.view_is i).rows (block_values (c.as_slice.ensures.value i))) s);
    } in
    let kept = ap (λ (l : LogView). l.keeps) c.new.ensures ∙ c.keeps_batches.ensures
    ∙ ap keeps_batches (c.limits.ensures ∙ ap (λ (v : VersionView). v.opening.limits) c.self.view_is) in
    rebased_kept _ _ c.self.inside.names c.self.inside.kinds c.args.self.now (block_values c.args.blocks.items) _ _ _ _ _ _
    (subst (IsSummary c.self.inside.names c.self.inside.kinds c.self.inside.edges c.self.inside.batches.keeps) c.self.view_is
    c.self.invariant) kept
    c.in_ok-share.ensures c.in_ok-share-2.ensures (ap (λ (l : LogView). l.batches) c.new.ensures) like c.in_ok-as_opening.ensures

pub returns : goal.returns
returns c =
    let blocks = block_values c.args.blocks.items in
    let like : LookLike c.args.self.now blocks c.in_ok-rows_over.field-0 = record {
      copies = c.requires;
      looks = λ s. c.in_ok-rows_over.ensures s
          ∙ (λ i. row_of (rows_like (c.self.view_is i).rows (block_values (c.as_slice.ensures.value i))) s);
    } in
    record {
      rebased = rebased_is c.args.self.now blocks _ _ _ (ap (λ (l : LogView). l.batches) c.new.ensures) like
          c.in_ok-as_opening.ensures;
      blocks = look_blocks c.args.self.now blocks c.in_ok-rows_over.field-0 like;
    }
