use Rattle.std.{proofs.Common.{◌≡◌, ◌++◌, ◌∷◌, ◌∙◌, [], ap, sym, arith}, specs.List.range_with_len}
use Rattle.graph_types.proofs.More.{range_more}
use Rattle.graph_levels.proofs.parts.own_parents.Goals as goal

pub loop-vertex-init : goal.loop-vertex-init
loop-vertex-init c = c.in_ok-parents.ensures.items

pub loop-vertex-preserved : goal.loop-vertex-preserved
loop-vertex-preserved c =
    c.in_ok-push.ensures.items ∙ ap (λ xs. xs ++ c.loop-vertex.vertex ∷ []) c.loop-vertex.invariant
    ∙ sym (range_more c.loop-vertex.vertex)

pub returns : goal.returns
returns c =
    let all : c.loop-vertex.vertex ≡ c.args.count = omega arith in c.loop-vertex.invariant ∙ ap (range_with_len 0) all
