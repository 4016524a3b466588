use Rattle.std.proofs.Common.{◌≡◌, ◌∙◌, ◌++◌, ◌∷◌, [], ap, sym, subst, Some, nat_eq, length, arith}
use Rattle.std.specs.Prelude.{position, slice_get}
use Rattle.graph_types.specs.declared.ids.VertexId.{VertexId}
use Rattle.batch_apply.{specs.Shards.source_numbers, proofs.Places.{found_among, found_at, added_among, added_at}}
use Rattle.batch_apply.proofs.shards.place_among_few.Goals as goal

pub returns-in-Some-clause-sources : goal.returns-in-Some-clause-sources
returns-in-Some-clause-sources c = found_among c.args.source c.args.sources.now.items c.in-Some.place
    (ap (position (λ (s : VertexId). nat_eq c.args.source s.0)) (sym c.as_slice.ensures.value) ∙ sym c.find_source.ensures
    ∙ c.in-Some.is)

pub returns-in-Some-clause-place : goal.returns-in-Some-clause-place
returns-in-Some-clause-place c = found_at c.args.source c.args.sources.now.items c.in-Some.place
    (ap (position (λ (s : VertexId). nat_eq c.args.source s.0)) (sym c.as_slice.ensures.value) ∙ sym c.find_source.ensures
    ∙ c.in-Some.is)

pub returns-clause-sources : goal.returns-clause-sources
returns-clause-sources c = ap source_numbers c.in_ok-push.ensures.items
    ∙ added_among c.args.source c.args.sources.now.items
    (ap (position (λ (s : VertexId). nat_eq c.args.source s.0)) (sym c.as_slice.ensures.value) ∙ sym c.find_source.ensures
    ∙ c.in_default.is)

pub returns-clause-place : goal.returns-clause-place
returns-clause-place c =
    let last : length c.args.sources.now.items ≡ c.len-place.result = omega (arith, c.len-place.ensures, c.args.sources.now.ok.0) in
    rw c.in_ok-push.ensures.items (subst (λ n. slice_get (source_numbers (c.args.sources.now.items
    ++ (record { 0 = c.args.source }) ∷ [])) n ≡ Some c.args.source) last (added_at c.args.source c.args.sources.now.items))
