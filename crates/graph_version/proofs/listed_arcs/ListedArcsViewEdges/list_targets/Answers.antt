use Rattle.std.proofs.Common.{◌≡◌, ℕ, List, [], arith, map, drop, subst, sym, ap, ◌∙◌}
use Rattle.std.{specs.Prelude.◌↔◌, specs.Prelude.filter, specs.List.Contains, proofs.lemmas.List.drop_all}
use Rattle.graph_types.specs.Analyses.{LeadsTo}
use Rattle.graph_version.{specs.Listed.{along, all_edges, leaves_source, put_targets}, proofs.Arcs.{listed, put_is}}
use Rattle.graph_version.proofs.listed_arcs.ListedArcsViewEdges.list_targets.Goals as goal

pub returns : goal.returns
returns c =
    let count = c.args.self.now.count in
    let arcs = c.args.self.now.arcs.items in
    let source = c.args.source in
    let targets = c.loop-arc.targets.items in
    let whole : drop c.loop-arc.arc-index arcs ≡ [] = drop_all c.loop-arc.arc-index arcs (omega arith) in
    let is : targets ≡ map (λ (arc : ℕ × ℕ). arc.1) (filter (leaves_source count source) arcs) =
    sym (ap (λ (xs : List (ℕ × ℕ)). put_targets count source xs targets) whole) ∙ c.loop-arc.invariant
    ∙ put_is count source arcs [] in
    λ b. subst (λ (xs : List ℕ). Contains xs b ↔ LeadsTo all_edges (along count arcs) source b) (sym is)
    (listed count arcs source b)
