-- A version 0 that begins with what another version holds, over copies of its blocks.
use Rattle.std.specs.Prelude.{◌≡◌, ◌≢◌, ℕ, List, [], ◌∷◌, map, length, take, drop, AllPairs}
use Rattle.edge_block.specs.Slots.{BlockView}
use Rattle.graph_version.specs.Rows.{blocks_of, numbers_of}
use Rattle.graph_version.specs.Versions.{VersionView, content, layout_of}

-- a block but for its number
abbrev pub unnumbered : BlockView → BlockView
unnumbered b = record b { number = 0 }

-- blocks of different numbers that otherwise are those of rows, in order of sources and rows
pub record AreCopies (rows : List (List BlockView)) (blocks : List BlockView) : Type 0 where
  pub same : map unnumbered blocks ≡ map unnumbered (blocks_of rows)
  pub apart : AllPairs ◌≢◌ (numbers_of blocks)

-- a list of blocks in rows, each of them as long as the one of these rows
abbrev pub rows_like : List (List BlockView) → List BlockView → List (List BlockView)
rows_like [] blocks = []
rows_like (row ∷ rows) blocks = take (length row) blocks ∷ rows_like rows (drop (length row) blocks)

-- it begins with the other version's content, has no batch yet, and its rows are laid out as the other version's
pub record IsRebased (v rebased : VersionView) : Type 0 where
  pub opening : rebased.opening ≡ content v
  pub batches : rebased.batches ≡ []
  pub rows : (source : ℕ) → layout_of rebased.rows source ≡ layout_of v.rows source
