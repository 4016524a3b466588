use Rattle.std.proofs.Common.{◌∙◌, ◌++◌, ◌∷◌, [], ℕ, List, ap, sym, subst}
use Rattle.graph_types.specs.declared.ids.Edge.{Edge}
use Rattle.opening_columns.proofs.RunLists.{AreSoFar, none_yet, one_run_more}
use Rattle.opening_columns.proofs.filling.run_lengths.Goals as goal

pub loop-rest-init : goal.loop-rest-init
loop-rest-init c =
    subst (AreSoFar c.args.edges.now c.args.edges.now) (sym c.new-lengths.ensures.items)
    (none_yet c.args.edges.now c.requires.rising c.requires.range)

pub loop-rest-preserved : goal.loop-rest-preserved
loop-rest-preserved c =
    let edges : List Edge = c.args.edges.now in
    let lengths : List ℕ = c.loop-rest.lengths.items in
    let n : ℕ = c.run_length.result in
    let e = c.run_length.ensures in
    subst (AreSoFar edges c.split_at.result.1.now)
    (sym (c.in_ok-push.ensures.items ∙ ap (λ (m : ℕ). lengths ++ m ∷ []) c.split_at.ensures.front_len))
    (subst (λ (r : List Edge). AreSoFar edges r (lengths ++ n ∷ [])) (sym c.split_at.ensures.back)
    (one_run_more edges c.loop-rest.rest.now lengths n c.loop-rest.invariant e.some e.within e.few e.alike e.most))
