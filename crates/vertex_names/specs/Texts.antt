-- Names in chunks of 256.
use Rattle.std.specs.{Prelude.{ℕ, List, flat_map}, Arc.arc_value, declared.{sync.Arc.Arc, alloc.Global.Global}}
use Rattle.list_pieces.specs.Pieces.{ArePieces}
use Rattle.vertex_names.specs.declared.chunk.Chunk.{Chunk}

abbrev pub names_in : Arc Chunk Global → List (List ℕ)
names_in c = arc_value {X = Chunk} c

abbrev pub in_chunks : List (Arc Chunk Global) → List (List ℕ)
in_chunks chunks = flat_map names_in chunks

-- the names stand in chunks of 256
abbrev pub AreChunks : List (Arc Chunk Global) → Type 0
AreChunks chunks = ArePieces 256 names_in chunks
