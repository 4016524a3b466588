use Rattle.std.proofs.Common.{◌≡◌, ◌+◌, ◌==◌, ◌++◌, ◌∷◌, [], ℕ, cond, drop, get_or, set, arith, ap, sym, ◌∙◌}
use Rattle.std.proofs.lemmas.{Bool.{eq-eqb, ne_eqb}, List.{at_drop_all, at_drop_more}}
use Rattle.std.specs.declared.{vec.Vec.Vec, alloc.Global.Global}
use Rattle.graph_types.specs.Arcs.{at}
use Rattle.graph_cores.specs.Peel.{lowered}
use Rattle.graph_cores.proofs.peeling.lower.Goals as goal
use Rattle.graph_cores.proofs.peeling.lower.Goals.{then-degree-k+in_ok-push, else-degree-k}

pub bounds-degrees-vertex : goal.bounds-degrees-vertex
bounds-degrees-vertex c =
    let within = c.requires.within c.loop-neighbor.neighbor-index 0 c.loop-neighbor-test.true in
    let long = c.loop-neighbor.auto.degrees in omega arith

pub loop-neighbor-preserved : goal.loop-neighbor-preserved
loop-neighbor-preserved c =
    let k = c.args.k in
    let ns = c.args.neighbors.now in
    let i = c.loop-neighbor.neighbor-index in
    let degrees = c.loop-neighbor.degrees in
    let stack = c.loop-neighbor.stack.items in
    let n = get_or ns i 0 in
    let put : c.if-degree-k.stack.items ≡ cond (at degrees n == k + 1) (stack ++ n ∷ []) stack = elim c.if-degree-k.branch [
      | then-degree-k+in_ok-push w ↦ ap (λ (v : Vec ℕ Global). v.items) w.stack-is ∙ w.in_ok-push.ensures.items
          ∙ ap (λ b. cond b (stack ++ n ∷ []) stack) (sym (eq-eqb (at degrees n) (k + 1) w.if-degree-k.true))
      | else-degree-k w ↦ ap (λ (v : Vec ℕ Global). v.items) w.stack-is
          ∙ ap (λ b. cond b (stack ++ n ∷ []) stack) (sym (ne_eqb (at degrees n) (k + 1) w.if-degree-k.false))
    ] in
    (λ j. lowered k (drop (i + 1) ns) (set degrees n (c.saturating_sub.ensures j)) (put j))
    ∙ sym (at_drop_more (λ xs. lowered k xs degrees stack) ns i 0 c.loop-neighbor-test.true) ∙ c.loop-neighbor.invariant

pub returns : goal.returns
returns c =
    sym (at_drop_all (λ xs. lowered c.args.k xs c.loop-neighbor.degrees c.loop-neighbor.stack.items) c.args.neighbors.now
    c.loop-neighbor.neighbor-index c.loop-neighbor-test.false) ∙ c.loop-neighbor.invariant
