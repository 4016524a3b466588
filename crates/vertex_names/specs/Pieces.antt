-- Pieces of a part, each behind its lowest hash.
use Rattle.std.specs.{Prelude.{ℕ, List, map}, Arc.arc_value, declared.{sync.Arc.Arc, alloc.Global.Global}}
use Rattle.vertex_names.specs.declared.piece.Piece.{Piece}

abbrev pub piece_entries : Arc Piece Global → List (ℕ × ℕ)
piece_entries p = arc_value {X = Piece} p

abbrev pub pieces_of : List (ℕ × Arc Piece Global) → List (ℕ × List (ℕ × ℕ))
pieces_of pieces = map (λ p. (p.0, piece_entries p.1)) pieces
