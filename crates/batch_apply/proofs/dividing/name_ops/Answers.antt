use Rattle.std.proofs.Common.{◌≤◌, arith, ap, sym, subst, ◌∙◌}
use Rattle.graph_types.specs.{Graph.Graph, Limits.LimitsView}
use Rattle.vertex_names.specs.Book.{Book}
use Rattle.edge_block.specs.Batches.{resolved_by}
use Rattle.graph_version.specs.{Versions.content}
use Rattle.graph_types.specs.{Refusals.IsLimitRefusal}
use Rattle.graph_types.proofs.Cases.{err_then}
use Rattle.graph_version.proofs.NumbersIn.{neither_limit}
use Rattle.batch_apply.specs.Plan.{Fits}
use Rattle.batch_apply.proofs.{Resolving.as_many_shown, Leaving.{names_book, kinds_book, plan_refused}}
use Rattle.batch_apply.proofs.dividing.name_ops.Goals as goal

-- the version's books are within their limits
pub resolve_batch-requires-clause-within : goal.resolve_batch-requires-clause-within
resolve_batch-requires-clause-within c = (
  subst Fits (sym (c.in_ok-names.ensures ∙ c.requires.names)) c.limits.ensures.version.small.names,
  subst Fits (sym (c.in_ok-kinds.ensures ∙ c.kinds.ensures)) c.limits.ensures.version.small.kinds,
)

pub resolve_batch-requires-clause-limit : goal.resolve_batch-requires-clause-limit
resolve_batch-requires-clause-limit c =
    subst (λ (b : Book). b.limit ≤ 64) (sym (c.in_ok-kinds.ensures ∙ c.kinds.ensures))
    (omega (arith, c.limits.ensures.version.small.limits.kinds))

pub returns-clause-few : goal.returns-clause-few
returns-clause-few c =
    let many = as_many_shown c.weight-most.result c.in_ok-ops.ops.items c.args.ops.now c.in_ok-names.names.names c.in_ok-kinds.kinds.names
    c.in_ok-ops.ensures.ops in
    omega (arith, many, c.requires.batch.few)

pub returns-clause-ops : goal.returns-clause-ops
returns-clause-ops c =
    let old_names = c.in_ok-names.ensures ∙ c.requires.names in
    let old_kinds = c.in_ok-kinds.ensures ∙ c.kinds.ensures in
    let most = c.weight-most.ensures.number ∙ ap (λ (l : LimitsView). l.weight) c.limits.ensures.limits in
    c.in_ok-ops.ensures.ops ∙ (λ i. resolved_by (most i) c.args.ops.now (old_names i).names (old_kinds i).names)

pub returns-clause-names : goal.returns-clause-names
returns-clause-names c =
    names_book c.args.ops.now (content c.args.version.now) c.in_ok-names.names c.resolve_batch.new.names
    (c.in_ok-names.ensures ∙ c.requires.names) c.in_ok-ops.ensures.names

pub returns-clause-kinds : goal.returns-clause-kinds
returns-clause-kinds c =
    kinds_book c.args.ops.now (content c.args.version.now) c.in_ok-kinds.kinds c.resolve_batch.new.kinds
    (c.in_ok-kinds.ensures ∙ c.kinds.ensures) c.in_ok-ops.ensures.kinds

pub returns-clause-limits : goal.returns-clause-limits
returns-clause-limits c =
    neither_limit c.args.ops.now (content c.args.version.now) c.resolve_batch.new.names c.resolve_batch.new.kinds
    (returns-clause-names c) (returns-clause-kinds c) c.in_ok-ops.ensures.within.0 c.in_ok-ops.ensures.within.1

pub returns-in_err-ops-clause-refused : goal.returns-in_err-ops-clause-refused
returns-in_err-ops-clause-refused c =
    let g : Graph = content c.args.version.now in
    err_then c.from_residual-in_err-ops.result (λ error. IsLimitRefusal error c.args.ops.now g) c.in_err-ops.field-0.0
    c.from_residual-in_err-ops.ensures.1
    (plan_refused c.in_err-ops.field-0.0 c.args.ops.now g c.in_ok-names.names c.in_ok-kinds.kinds
    (c.in_ok-names.ensures ∙ c.requires.names) (c.in_ok-kinds.ensures ∙ c.kinds.ensures) c.in_err-ops.ensures.refused)
