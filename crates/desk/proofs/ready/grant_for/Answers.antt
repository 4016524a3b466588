use Rattle.std.proofs.Common.{◌≤◌, ◌∙◌, List, length, refl, sym, ap, subst, count_by}
use Rattle.std.specs.{List.sum_by}
use Rattle.graph_types.specs.{Limits.most_operations, declared.batches.NamedOp.NamedOp}
use Rattle.graph_version.specs.{Batches.batch_value}
use Rattle.block_reclamation.specs.Status.{is_free, is_in_use}
use Rattle.graph_types.proofs.Cases.{err_then}
use Rattle.desk.specs.{Kept.desk_in, Refusals.{Refuses, RefusesGrant, asked}}
use Rattle.desk.proofs.Handing.{grant_within, desk_refuses, desk_admits}
use Rattle.desk.proofs.ready.grant_for.Goals as goal

pub grant_blocks-requires-clause-needs : goal.grant_blocks-requires-clause-needs
grant_blocks-requires-clause-needs c =
    let p = c.args.parts.now in
    subst (λ ops. sum_by (λ n. n) c.args.plan.needs.items ≤ asked ops (count_by is_in_use p.pool)) (sym c.deref.ensures)
    (grant_within (desk_in p) p.last c.requires.planned.0 (batch_value c.args.batch.now) c.args.plan
    c.requires.desk refl c.requires.planned.1)

pub grant_blocks-requires-clause-operations : goal.grant_blocks-requires-clause-operations
grant_blocks-requires-clause-operations c = c.requires.planned.1.planned.operations ∙ ap length (sym c.deref.ensures)

pub grant_blocks-requires-clause-few : goal.grant_blocks-requires-clause-few
grant_blocks-requires-clause-few c =
    subst (λ (ops : List NamedOp). length ops ≤ most_operations) (sym c.deref.ensures) c.requires.planned.1.planned.few

pub returns-in_err-numbers-clause-refused : goal.returns-in_err-numbers-clause-refused
returns-in_err-numbers-clause-refused c =
    let p = c.args.parts.now in
    let last = p.last in
    err_then c.from_residual-in_err-numbers.result (Refuses last (count_by is_free p.pool) (batch_value c.args.batch.now))
    c.in_err-numbers.field-0.0 c.from_residual-in_err-numbers.ensures.1
    (desk_refuses (desk_in p) last c.requires.planned.0 (batch_value c.args.batch.now) c.args.plan c.requires.desk refl
    c.requires.planned.1 c.in_err-numbers.field-0.0
    (subst (λ (ops : List NamedOp). RefusesGrant (asked ops (count_by is_in_use p.pool)) (count_by is_free p.pool)
    c.in_err-numbers.field-0.0) c.deref.ensures c.in_err-numbers.ensures.refused))

pub returns-clause-within : goal.returns-clause-within
returns-clause-within c =
    let p = c.args.parts.now in
    desk_admits (desk_in p) p.last c.requires.planned.0 (batch_value c.args.batch.now) c.args.plan
    c.requires.desk refl c.requires.planned.1
    (subst (λ (ops : List NamedOp). asked ops (count_by is_in_use p.pool) ≤ count_by is_free p.pool) c.deref.ensures
    c.in_ok-numbers.ensures.enough)
