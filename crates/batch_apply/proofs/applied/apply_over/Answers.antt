use Rattle.std.proofs.Common.{ℕ, length, refl, ap, ◌∙◌, subst, zip}
use Rattle.std.proofs.lemmas.{List.length-map, Result.IfOk-weaker}
use Rattle.edge_block.specs.Batches.{resolved}
use Rattle.graph_version.specs.{Rows.row_of, Batches.batch_value, Versions.{VersionView, content, layout_of}}
use Rattle.batch_shards.specs.RowBlocks.{shared_numbers}
use Rattle.batch_shards.proofs.ShardSizes.{needs_of}
use Rattle.batch_apply.specs.Gathered.{IsGathered, IsWorked}
use Rattle.batch_apply.proofs.Dealt.{dealt_ready}
use Rattle.batch_apply.proofs.applied.apply_over.{Given.Over, Goals.In_ok-all}
use Rattle.batch_apply.proofs.applied.apply_over.Goals as goal

pub work-requires-clause-long : goal.work-requires-clause-long
work-requires-clause-long g c κs within = ap length c.requires.plan.2.needs
    ∙ length-map c.args.plan.shards.items (needs_of (row_of c.args.version.now.rows))

pub work-requires-clause-ready : goal.work-requires-clause-ready
work-requires-clause-ready g c κs within = λ jobs dealt.
    let v : VersionView = c.args.version.now in
    let n : ℕ = c.requires.plan.0 in
    dealt_ready n (resolved (batch_value c.args.batch) (content v)) (layout_of v.rows) (row_of v.rows) 0 n
    c.args.plan.shards.items c.args.plan.needs.items jobs c.requires.plan.2.needs c.requires.plan.2.shards
    dealt

worked : (g : Over) (c : In_ok-all g) → IsWorked c.args.version.now (batch_value c.args.batch) c.args.plan.names c.args.plan.kinds
    (shared_numbers c.args.blocks.items) c.in_ok-all.all
worked g c = record {
  workers = c.requires.plan.0;
  some = c.requires.plan.1;
  plan = c.args.plan;
  planned = c.requires.plan.2;
  names_are = refl;
  kinds_are = refl;
  few = c.requires.few;
  short = c.requires.plan.2.few;
  gathered = subst (λ n. IsGathered (row_of c.args.version.now.rows) (zip c.args.plan.shards.items c.args.plan.needs.items)
      (shared_numbers c.args.blocks.items) n c.in_ok-all.all) c.requires.plan.2.operations c.in_ok-all.ensures;
  distinct = c.requires.distinct;
  unlisted = c.requires.unlisted;
}

pub finish-requires-clause-worked : goal.finish-requires-clause-worked
finish-requires-clause-worked g c = (shared_numbers c.args.blocks.items, worked g (goal.at.finish-requires-clause-worked g c).In_ok-all)

pub returns : goal.returns
returns g c = IfOk-weaker c.finish.result _ _ (λ a made. made (shared_numbers c.args.blocks.items)
    (worked g (goal.at.returns g c).In_ok-all)) c.finish.ensures
