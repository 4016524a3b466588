use Rattle.std.proofs.lemmas.List.Elements.{same_from_all_zip}
use Rattle.vertex_names.proofs.chunk.ChunkClone.clone.Goals as goal

pub returns : goal.returns
returns c = record { cases = rw (← c.self.view_is) (same_from_all_zip _ _ _ c.in_ok-clone.ensures.cases.0 (λ x y same. same)) }
