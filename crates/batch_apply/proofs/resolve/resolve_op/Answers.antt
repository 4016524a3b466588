use Rattle.std.proofs.Common.{◌≡◌, ◌∙◌, ◌∷◌, ℕ, List, ap, subst}
use Rattle.graph_types.specs.{Parts.{Parts, OfEdge, parts_in, names_after, kinds_after}}
use Rattle.edge_block.specs.Batches.{AtKey, resolve_parts}
use Rattle.batch_apply.specs.{Plan.{known, ends_by, ends_made, kind_made, key_from, with_names, IsRefusal}}
use Rattle.batch_apply.proofs.{Names.names_refused, Resolving.{edge_names, edge_kinds, one_resolved}}
use Rattle.batch_apply.proofs.resolve.resolve_op.Goals.{In-OfEdge, After-as_str-target}
use Rattle.batch_apply.proofs.resolve.resolve_op.Goals as goal

-- the operation's parts, its texts as they were lent
abbrev edge : After-as_str-target → Parts
edge c = OfEdge c.in-OfEdge.change c.as_str-kind.result.now c.as_str-source.result.now c.as_str-target.result.now

parts : (c : After-as_str-target) → edge c ≡ parts_in c.args.most c.args.op.now
parts c =
    (λ i. OfEdge c.in-OfEdge.change (c.as_str-kind.ensures i) (c.as_str-source.ensures i) (c.as_str-target.ensures i))
    ∙ c.in-OfEdge.ensures.parts

names_are : (c : After-as_str-target) (names : List (List ℕ)) → ends_made c.makes_names-makes.result c.as_str-source.result.now
    c.as_str-target.result.now names ≡ names_after c.args.op.now names
names_are c =
    edge_names c.args.most c.args.op.now c.in-OfEdge.change c.as_str-kind.result.now c.as_str-source.result.now
    c.as_str-target.result.now c.makes_names-makes.result (parts c) c.makes_names-makes.ensures

kinds_are : (c : After-as_str-target) (kinds : List (List ℕ)) → kind_made c.makes_names-makes.result c.as_str-kind.result.now kinds
    ≡ kinds_after c.args.op.now kinds
kinds_are c =
    edge_kinds c.args.most c.args.op.now c.in-OfEdge.change c.as_str-kind.result.now c.as_str-source.result.now
    c.as_str-target.result.now c.makes_names-makes.result (parts c) c.makes_names-makes.ensures

pub returns-in-Err-clause-refused : goal.returns-in-Err-clause-refused
returns-in-Err-clause-refused c =
    let t = (goal.at.returns-in-Err-clause-refused c).After-as_str-target in
    c.names_refusal.ensures (c.args.op.now ∷ c.args.behind.now) c.args.names.now c.args.kinds.now
    (names_refused c.in-Err.error c.args.op.now c.args.behind.now c.args.names.now
    (subst (λ ns. IsRefusal c.in-Err.error c.args.names.now ns) (names_are t c.args.names.now.names) c.in-Err.ensures.refused))

pub returns-in-Ok-edge_kind-clause-op : goal.returns-in-Ok-edge_kind-clause-op
returns-in-Ok-edge_kind-clause-op c =
    let t = (goal.at.returns-in-Ok-edge_kind-clause-op c).After-as_str-target in
    let names : List (List ℕ) = names_after c.args.op.now c.args.names.now.names in
    let kinds : List (List ℕ) = kinds_after c.args.op.now c.args.kinds.now.names in
    let ends : c.in-Ok.ends ≡ ends_by names (edge t) =
    c.in-Ok.ensures.ends ∙ ap (λ ns. ends_by ns (edge t)) (names_are t c.args.names.now.names) in
    let kind = c.in-Ok-edge_kind.ensures.kind
    ∙ ap (λ ks. known ks c.as_str-kind.result.now) (kinds_are t c.args.kinds.now.names) in
    c.on_edge.ensures
    ∙ (λ i. AtKey (ends i).source (key_from (kind i) (ends i).source (ends i).target) c.in-OfEdge.change)
    ∙ one_resolved names kinds (edge t) ∙ ap (resolve_parts names kinds) (parts t)

pub returns-in-Err-edge_kind-clause-refused : goal.returns-in-Err-edge_kind-clause-refused
returns-in-Err-edge_kind-clause-refused c =
    let t = (goal.at.returns-in-Err-edge_kind-clause-refused c).After-as_str-target in
    c.kinds_refusal.ensures c.args.op.now c.args.names.now c.args.kinds.now
    (c.in-Ok.ensures.names ∙ ap (with_names c.args.names.now) (names_are t c.args.names.now.names))
    (subst (λ ks. IsRefusal c.in-Err-edge_kind.error c.args.kinds.now ks) (kinds_are t c.args.kinds.now.names)
    c.in-Err-edge_kind.ensures.refused)
