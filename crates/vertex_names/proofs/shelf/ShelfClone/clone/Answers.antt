use Rattle.std.specs.{Arc.arc_value, declared.sync.Arc.Arc, declared.alloc.Global.Global}
use Rattle.vertex_names.specs.declared.part.Part.{Part}
use Rattle.list_pieces.proofs.Shown.{zipped_map}
use Rattle.vertex_names.proofs.shelf.ShelfClone.clone.Goals as goal

pub returns : goal.returns
returns c = record {
  cases = rw (← c.self.view_is) (zipped_map (λ (p : Arc Part Global). arc_value {X = Part} p) _ _ c.in_ok-clone.ensures.cases.0);
}
