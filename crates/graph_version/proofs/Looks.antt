-- A search of a row for an edge, block by block.
use Rattle.std.proofs.Common.{◌≡◌, ℕ, ◌<◌, true, List, [], ◌∷◌, length, get_or, map, take, Option, None, Some}
use Rattle.std.{proofs.Common.{refl, sym, ap, ◌∙◌, arith}, specs.{Option.{is_some, option_or}, declared.sync.Arc.Arc}}
use Rattle.std.{specs.{declared.alloc.Global.Global, FinMap.get}, proofs.lemmas.Grind.common_steps}
use Rattle.graph_types.specs.Graph.{Stamp}
use Rattle.edge_block.specs.{Slots.first_some, Lending.LentEdge, declared.blocks.Block.Block, Rows.{shape_of, block_at, row_at}}
use Rattle.edge_block.proofs.SlotTargets.{first_after}
use Rattle.graph_version.specs.{Rows.row_of, Sharing.block_value, Sharing.block_values}
use Rattle.graph_version.specs.{Versions.VersionView, Versions.content, Versions.IsVersion, Edges.lent_to, Lending.lent_at}

-- what a shared block has at a kind and a target
abbrev pub place_at : ℕ × ℕ → Arc Block Global → Option Stamp
place_at place block = block_at (shape_of (block_value block)) place

-- a row's shapes have what its blocks have
pub look_at : (place : ℕ × ℕ) (blocks : List (Arc Block Global))
    → row_at (map shape_of (block_values blocks)) place ≡ first_some (place_at place) blocks
look_at place [] = refl
look_at place (b ∷ blocks) = ap (option_or (place_at place b)) (look_at place blocks)

lent_some : (kind target : ℕ) (stamp : Option Stamp) (edge : LentEdge) → Some edge ≡ lent_to kind target stamp
    → is_some stamp ≡ true
lent_some kind target h2 edge same = grind (arith, common_steps)

lent_none : (kind target : ℕ) (stamp : Option Stamp) → None ≡ lent_to kind target stamp → stamp ≡ None
lent_none kind target h2 same = grind (arith, common_steps)

-- a block that lends no edge there has none there
pub none_there : (kind target : ℕ) (block : Arc Block Global) → None ≡ lent_to kind target (place_at (kind, target) block)
    → place_at (kind, target) block ≡ None
none_there kind target block same = lent_none kind target (place_at (kind, target) block) same

shown : (v : VersionView) (kind source target : ℕ) (blocks : List (Arc Block Global)) → IsVersion v
    → block_values blocks ≡ row_of v.rows source
    → get (content v).edges (record { kind = kind; source = source; target = target }) ≡ first_some (place_at (kind, target))
    blocks
shown v kind source target blocks is same = grind (arith, common_steps, look_at)

-- the first block that lends an edge there lends the content's
pub found_edge : (v : VersionView) (kind source target : ℕ) (blocks : List (Arc Block Global)) (i : ℕ) (d : Arc Block Global)
    (edge : LentEdge) → IsVersion v → block_values blocks ≡ row_of v.rows source
    → i < length blocks → first_some (place_at (kind, target)) (take i blocks) ≡ None
    → Some edge ≡ lent_to kind target (place_at (kind, target) (get_or blocks i d)) → Some edge ≡ lent_at v kind source target
found_edge v kind source target blocks i d edge is same lt none here =
    here ∙ ap (lent_to kind target) (sym (shown v kind source target blocks is same
    ∙ first_after (place_at (kind, target)) blocks i d lt none (lent_some kind target _ edge here)))

-- where no block lends one, the content has none
pub no_edge : (v : VersionView) (kind source target : ℕ) (blocks : List (Arc Block Global)) → IsVersion v
    → block_values blocks ≡ row_of v.rows source
    → first_some (place_at (kind, target)) blocks ≡ None → None ≡ lent_at v kind source target
no_edge v kind source target blocks is same none = grind (arith, common_steps, shown)
