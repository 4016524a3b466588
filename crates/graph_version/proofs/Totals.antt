-- How many edges rows have, and rows that look the same.
use Rattle.std.proofs.Common.{◌≡◌, ℕ, zero, suc, ◌+◌, ◌<◌, List, [], ◌∷◌, ◌++◌, length, get_or, take, refl, sym, ap}
use Rattle.std.proofs.{Common.{◌∙◌, arith, length-append}, lemmas.Grind.{flat_map-append, common_steps}}
use Rattle.std.{proofs.lemmas.List.length-map, specs.declared.{sync.Arc.Arc, alloc.Global.Global}}
use Rattle.edge_block.specs.{Slots.BlockView, Slots.entry_in, Slots.entries_of, Slots.edges_in, declared.blocks.Block.Block}
use Rattle.graph_version.specs.{Rows.row_of, Rows.blocks_of, Sharing.block_value, Sharing.block_values}
use Rattle.graph_version.specs.Edges.{edge_from, edges_in_block, edges_in_blocks}

abbrev pub count_in : List BlockView → ℕ
count_in blocks = length (edges_in_blocks blocks)

count-append : (a b : List BlockView) → count_in (a ++ b) ≡ count_in a + count_in b
count-append a b = ap length (flat_map-append edges_in_block a b) ∙ length-append (edges_in_blocks a) (edges_in_blocks b)

-- rows that look the same have the same blocks
pub same_blocks : (a b : List (List BlockView)) → ((s : ℕ) → row_of a s ≡ row_of b s) → blocks_of a ≡ blocks_of b
same_blocks [] [] same = refl
same_blocks [] (row ∷ b) same = same_blocks [] b (λ s. same (suc s)) ∙ ap (λ r. r ++ blocks_of b) (same 0)
same_blocks (row ∷ a) [] same = ap (λ r. r ++ blocks_of a) (same 0) ∙ same_blocks a [] (λ s. same (suc s))
same_blocks (row ∷ a) (next ∷ b) same = ap (λ r. r ++ blocks_of a) (same 0)
    ∙ ap (λ l. next ++ l) (same_blocks a b (λ s. same (suc s)))

pub count_one : (b : BlockView) → length (edges_in_block b) ≡ length (edges_in b.slots)
count_one b = length-map (entries_of b) edge_from ∙ length-map (edges_in b.slots) (entry_in b)

-- one block more
pub count_more : (blocks : List (Arc Block Global)) (i : ℕ) (d : Arc Block Global) → i < length blocks
    → count_in (block_values (take (i + 1) blocks)) ≡ count_in (block_values (take i blocks)) + length
    (edges_in (block_value (get_or blocks i d)).slots)
count_more [] i d lt = absurd (omega arith)
count_more (b ∷ blocks) zero d lt = grind (arith, common_steps, count-append, length-append, count_one)
count_more (b ∷ blocks) (suc i) d lt =
    let further : suc (i + 1) ≡ suc i + 1 = omega arith in
    let rest = count_more blocks i d (omega arith) in
    let one = count-append (block_value b ∷ []) (block_values (take (i + 1) blocks)) in
    let other = count-append (block_value b ∷ []) (block_values (take i blocks)) in
    ap (λ n. count_in (block_values (take n (b ∷ blocks)))) (sym further) ∙ omega (arith, rest, one, other)
