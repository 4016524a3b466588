use Rattle.std.proofs.Common.{◌<◌, arith, length, ◌∙◌}
use Rattle.graph_types.proofs.Walks.{then}
use Rattle.graph_levels.proofs.Trees.{up_is, halved_roots, halved_forest, halved_respects, halved_sound, halved_connects}
use Rattle.graph_levels.proofs.parts.find.Goals as goal

pub bounds-parents-parents : goal.bounds-parents-parents
bounds-parents-parents c =
    omega (arith, up_is c.loop-parents.parents c.loop-parents.vertex (omega arith) c.loop-parents.invariant.forest)

pub loop-parents-smaller : goal.loop-parents-smaller
loop-parents-smaller c = omega (
  arith,
  c.loop-parents-test.true,
  up_is c.loop-parents.parents c.loop-parents.vertex (omega arith) c.loop-parents.invariant.forest,
)

pub loop-parents-preserved : goal.loop-parents-preserved
loop-parents-preserved c =
    let ps = c.loop-parents.parents in
    let v = c.loop-parents.vertex in
    let i = c.loop-parents.invariant in
    let lt : v < length ps = omega arith in
    let u = up_is ps v lt i.forest in
    record {
      forest = halved_forest ps v lt i.forest;
      low = omega arith;
      coarser = λ label new.
          let h = halved_respects ps v label lt i.forest new in
          let before = i.coarser label h.0 in
          (before.0, before.1 ∙ h.1);
      roots = λ w root. halved_roots ps v w lt (i.roots w root);
      sound = λ f g sound.
          let before = i.sound f g sound in
          (halved_sound f g ps v lt i.forest before.0, then f g _ _ _ (halved_connects f g ps v lt i.forest before.0) before.1);
    }
