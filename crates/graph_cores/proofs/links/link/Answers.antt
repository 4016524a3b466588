use Rattle.std.proofs.Common.{◌≡◌, ◌<◌, ◌≤◌, ◌+◌, ◌++◌, ◌∷◌, [], ℕ, List, arith, length, get_or, take, subst, sym, ap, ◌∙◌}
use Rattle.std.proofs.{Common.{refl, vec_len, vec_capacity}, lemmas.List.take_all}
use Rattle.std.specs.declared.{alloc.Global.Global, vec.Vec.Vec}
use Rattle.graph_cores.{specs.Peel.both_ways, proofs.LinkSteps.{LinkedSoFar, both_push, linked, not_linked}}
use Rattle.graph_cores.proofs.links.link.Goals.{then-target-source, else-target-source}
use Rattle.graph_cores.proofs.links.link.Goals as goal

pub loop-target-preserved : goal.loop-target-preserved
loop-target-preserved c =
    let start = both_ways c.args.links.now.items in
    let before = both_ways c.loop-target.links.items in
    let s = c.args.source in
    let ts = c.args.targets.now in
    let i = c.loop-target.target-index in
    let t = get_or ts i 0 in
    let lt : i < length ts = omega arith in
    let linked_now : LinkedSoFar start s (take (i + 1) ts) (both_ways c.if-target-source.links.items) =
    elim c.if-target-source.branch [
      | then-target-source w ↦
          let e : both_ways c.if-target-source.links.items ≡ (before ++ (s, t) ∷ []) ++ (t, s) ∷ [] =
          ap (λ (x : Vec (ℕ × ℕ) Global). both_ways x.items) w.links-is ∙ ap both_ways w.push_reserved.ensures.items
          ∙ both_push c.loop-target.links.items s t in
          subst (LinkedSoFar start s (take (i + 1) ts)) (sym e)
          (linked start before s ts i lt c.loop-target.invariant.linked t refl w.if-target-source.true)
      | else-target-source w ↦
          subst (LinkedSoFar start s (take (i + 1) ts)) (sym (ap (λ (x : Vec (ℕ × ℕ) Global). both_ways x.items) w.links-is))
          (not_linked start before s ts i lt c.loop-target.invariant.linked t refl w.if-target-source.false)
    ] in
    let room = c.loop-target.invariant.room in
    let room_now : vec_len c.if-target-source.links + length ts ≤ vec_capacity c.if-target-source.links + (i + 1) =
    elim c.if-target-source.branch [
      | then-target-source w ↦
          let len = ap vec_len w.links-is ∙ w.push_reserved.ensures.len in
          let capacity = ap vec_capacity w.links-is ∙ w.push_reserved.ensures.capacity in
          omega arith
      | else-target-source w ↦
          let len = ap vec_len w.links-is in
          let capacity = ap vec_capacity w.links-is in
          omega arith
    ] in
    record { linked = linked_now; room = room_now }

pub returns : goal.returns
returns c =
    let ts = c.args.targets.now in
    subst (λ (xs : List ℕ). LinkedSoFar (both_ways c.args.links.now.items) c.args.source xs (both_ways c.loop-target.links.items))
    (take_all c.loop-target.target-index ts (omega arith)) c.loop-target.invariant.linked
