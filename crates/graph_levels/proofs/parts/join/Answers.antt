use Rattle.std.proofs.Common.{◌<◌, arith, length, ◌∙◌, sym}
use Rattle.graph_types.proofs.{ArcTables.around, Walks.backward}
use Rattle.graph_levels.proofs.Trees.{forest_set, respects_linked, linked_same, sound_set}
use Rattle.graph_levels.proofs.parts.join.Goals as goal

pub returns-then-first-second : goal.returns-then-first-second
returns-then-first-second c =
    let ps = c.find-second.new.parents in
    let r = c.find-second.result in
    let lt : r < length ps = omega arith in
    record {
      forest = forest_set ps r c.find-first.result lt (omega arith) c.find-second.ensures.forest;
      coarser = λ label new.
          let mid = c.find-second.ensures.coarser label
          (respects_linked ps r c.find-first.result label lt c.find-second.ensures.root new) in
          let old = c.find-first.ensures.coarser label mid.0 in
          (old.0, old.1 ∙ sym (linked_same ps r c.find-first.result label lt new) ∙ sym mid.1);
      sound = λ f g sound j.
          let one = c.find-first.ensures.sound f g sound in
          let two = c.find-second.ensures.sound f g one.0 in
          sound_set f g ps r c.find-first.result lt (around f g _ _ _ _ one.1 two.1 j) two.0;
    }

pub returns-else-first-second : goal.returns-else-first-second
returns-else-first-second c =
    let ps = c.find-second.new.parents in
    let r = c.find-first.result in
    let lt : r < length ps = omega arith in
    record {
      forest = forest_set ps r c.find-second.result lt (omega arith) c.find-second.ensures.forest;
      coarser = λ label new.
          let root = c.find-second.ensures.roots r c.find-first.ensures.root in
          let mid = c.find-second.ensures.coarser label (respects_linked ps r c.find-second.result label lt root new) in
          let old = c.find-first.ensures.coarser label mid.0 in
          (old.0, old.1 ∙ linked_same ps r c.find-second.result label lt new ∙ sym mid.1);
      sound = λ f g sound j.
          let one = c.find-first.ensures.sound f g sound in
          let two = c.find-second.ensures.sound f g one.0 in
          sound_set f g ps r c.find-second.result lt (backward f g _ _ (around f g _ _ _ _ one.1 two.1 j)) two.0;
    }
