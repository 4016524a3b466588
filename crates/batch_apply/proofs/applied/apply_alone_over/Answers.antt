use Rattle.std.proofs.Common.{ℕ, length, refl, ap, ◌∙◌, subst, zip, arith}
use Rattle.std.proofs.lemmas.{List.length-map, Result.IfOk-weaker}
use Rattle.edge_block.specs.Batches.{resolved}
use Rattle.graph_version.specs.{Rows.row_of, Batches.batch_value, Versions.{VersionView, content, layout_of}}
use Rattle.batch_shards.specs.RowBlocks.{shared_numbers}
use Rattle.batch_shards.proofs.ShardSizes.{needs_of}
use Rattle.batch_apply.specs.Gathered.{IsGathered, IsWorked}
use Rattle.batch_apply.proofs.Dealt.{dealt_ready}
use Rattle.batch_apply.proofs.applied.apply_alone_over.Goals.{In_ok-all}
use Rattle.batch_apply.proofs.applied.apply_alone_over.Goals as goal

pub work_alone-requires-clause-long : goal.work_alone-requires-clause-long
work_alone-requires-clause-long c = ap length c.requires.plan.needs
    ∙ length-map c.args.plan.shards.items (needs_of (row_of c.args.version.now.rows))

pub work_alone-requires-clause-ready : goal.work_alone-requires-clause-ready
work_alone-requires-clause-ready c = λ jobs dealt.
    let v : VersionView = c.args.version.now in
    let n : ℕ = 1 in
    dealt_ready n (resolved (batch_value c.args.batch) (content v)) (layout_of v.rows) (row_of v.rows) 0 n
    c.args.plan.shards.items c.args.plan.needs.items jobs c.requires.plan.needs c.requires.plan.shards
    dealt

worked : (c : In_ok-all) → IsWorked c.args.version.now (batch_value c.args.batch) c.args.plan.names c.args.plan.kinds
    (shared_numbers c.args.blocks.items) c.in_ok-all.all
worked c = record {
  workers = 1;
  some = omega arith;
  plan = c.args.plan;
  planned = c.requires.plan;
  names_are = refl;
  kinds_are = refl;
  few = c.requires.few;
  short = c.requires.plan.few;
  gathered = subst (λ n. IsGathered (row_of c.args.version.now.rows) (zip c.args.plan.shards.items c.args.plan.needs.items)
      (shared_numbers c.args.blocks.items) n c.in_ok-all.all) c.requires.plan.operations c.in_ok-all.ensures;
  distinct = c.requires.distinct;
  unlisted = c.requires.unlisted;
}

pub finish-requires-clause-worked : goal.finish-requires-clause-worked
finish-requires-clause-worked c = (shared_numbers c.args.blocks.items, worked (goal.at.finish-requires-clause-worked c).In_ok-all)

pub returns : goal.returns
returns c = IfOk-weaker c.finish.result _ _ (λ a made. made (shared_numbers c.args.blocks.items)
    (worked (goal.at.returns c).In_ok-all)) c.finish.ensures
