use Rattle.std.proofs.Common.{◌<◌, arith, length}
use Rattle.graph_levels.proofs.Trees.{up_is, halved_forest, halved_respects, halved_sound, halved_flat}
use Rattle.graph_levels.proofs.parts.flatten.Goals as goal

pub bounds-parents-parents : goal.bounds-parents-parents
bounds-parents-parents c =
    omega (arith, up_is c.loop-vertex.parents c.loop-vertex.vertex (omega arith) c.loop-vertex.invariant.forest)

pub loop-vertex-preserved : goal.loop-vertex-preserved
loop-vertex-preserved c =
    let ps = c.loop-vertex.parents in
    let v = c.loop-vertex.vertex in
    let i = c.loop-vertex.invariant in
    let lt : v < length ps = omega arith in
    record {
      forest = halved_forest ps v lt i.forest;
      flat = halved_flat ps v lt i.forest i.flat;
      coarser = λ label new. i.coarser label (halved_respects ps v label lt i.forest new).0;
      sound = λ f g sound. halved_sound f g ps v lt i.forest (i.sound f g sound);
    }
