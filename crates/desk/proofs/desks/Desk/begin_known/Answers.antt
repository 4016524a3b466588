use Rattle.std.proofs.Common.{List, sym, ap, subst, ◌∙◌, count_by}
use Rattle.graph_types.specs.declared.batches.NamedOp.{NamedOp}
use Rattle.graph_version.specs.{Batches.batch_value, Versions.{VersionView, content}}
use Rattle.block_reclamation.specs.Status.{is_free}
use Rattle.batch_apply.{proofs.Planned.plan_same, specs.Listed.IsKnown}
use Rattle.desk.specs.{Ready.GrantedView, Refusals.{Refuses, IsPlanned}}
use Rattle.desk.proofs.desks.Desk.begin_known.Goals.{In-Ok}
use Rattle.desk.proofs.desks.Desk.begin_known.Goals as goal

pub returns-in-Err-clause-refused : goal.returns-in-Err-clause-refused
returns-in-Err-clause-refused c =
    let free = count_by is_free c.args.self.pool in
    subst (λ (v : VersionView). Refuses v free (batch_value c.args.batch) c.in-Err.error)
    (c.deref.ensures ∙ c.last.ensures)
    (subst (λ (ops : List NamedOp). Refuses c.deref.result.now free ops c.in-Err.error) c.deref-2.ensures
    (c.in-Err.ensures.refused free))

planned : (c : In-Ok) → IsPlanned c.args.self.last 1 (batch_value c.args.batch) c.in-Ok.plan
planned c =
    subst (λ (v : VersionView). IsPlanned v 1 (batch_value c.args.batch) c.in-Ok.plan)
    (c.deref.ensures ∙ c.last.ensures)
    (subst (λ (ops : List NamedOp). IsPlanned c.deref.result.now 1 ops c.in-Ok.plan) c.deref-2.ensures c.in-Ok.ensures.planned)

pub grant-requires : goal.grant-requires
grant-requires c = record { planned = (1, planned (goal.at.grant-requires c).In-Ok) }

pub apply_alone_over-rewritten-requires-clause-plan : goal.apply_alone_over-rewritten-requires-clause-plan
apply_alone_over-rewritten-requires-clause-plan c =
    let load = c.in_ok-granted.ensures.load in
    plan_same 1 c.args.self.last c.last-2.result.now (batch_value c.args.batch) (batch_value c.in_ok-granted.load.batch) c.in-Ok.plan
    c.in_ok-granted.load.plan
    (sym (c.last-2.ensures ∙ ap (λ (g : GrantedView). g.old.last) c.in_ok-granted.ensures.granted)) (sym load.batch_is)
    (sym load.plan_is) (planned (goal.at.apply_alone_over-rewritten-requires-clause-plan c).In-Ok).planned

pub plan_next-requires : goal.plan_next-requires
plan_next-requires c =
    subst (λ (v : VersionView). IsKnown (content v).names c.deref-2.result.now c.args.known.now)
    (sym (c.deref.ensures ∙ c.last.ensures))
    (subst (λ (ops : List NamedOp). IsKnown (content c.args.self.last).names ops c.args.known.now) (sym c.deref-2.ensures)
    c.requires.known)
