use Rattle.std.specs.{Arc.arc_value, declared.sync.Arc.Arc, declared.alloc.Global.Global}
use Rattle.vertex_names.specs.declared.shelf.Shelf.{Shelf}
use Rattle.list_pieces.proofs.Shown.{zipped_map}
use Rattle.vertex_names.proofs.index.HashIndex.share.Goals as goal

pub returns : goal.returns
returns c = rw (← c.self.view_is) (zipped_map (λ (s : Arc Shelf Global). arc_value {X = Shelf} s) _ _ c.in_ok-clone.ensures.cases.0)
