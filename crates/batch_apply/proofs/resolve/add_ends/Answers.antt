use Rattle.std.proofs.Common.{◌∙◌, ℕ, List, ap, sym}
use Rattle.std.proofs.lemmas.Option.{IfSome_then}
use Rattle.graph_types.specs.Step.{with_name}
use Rattle.vertex_names.specs.Book.{Book}
use Rattle.batch_apply.{specs.Plan.known, proofs.{Names.same_ends, Found.known_next}}
use Rattle.batch_apply.proofs.resolve.add_ends.Goals as goal

pub add_name-requires-2-clause-found : goal.add_name-requires-2-clause-found
add_name-requires-2-clause-found c =
    let target : List ℕ = c.args.target.now in
    IfSome_then c.args.found.target c.requires.found_target (λ t is.
    ap (λ (b : Book). known b.names target) c.in_ok-source.ensures.names
    ∙ known_next c.args.names.now.names c.args.source.now target t is)

pub returns-clause-ends : goal.returns-clause-ends
returns-clause-ends c =
    let names : List (List ℕ) = c.args.names.now.names in
    let source : List ℕ = c.args.source.now in
    let target : List ℕ = c.args.target.now in
    same_ends _ _ _ _
    (sym (known_next (with_name names source) target source c.in_ok-source.source c.in_ok-source.ensures.number))
    (sym (ap (λ (b : Book). known (with_name b.names target) target) (sym c.in_ok-source.ensures.names)
    ∙ c.in_ok-target.ensures.number))
