-- The numbers of shared blocks, cut in two and with one block more.
use Rattle.std.proofs.Common.{◌≡◌, ℕ, ◌+◌, ◌≤◌, Bool, List, [], ◌∷◌, ◌++◌, length, take, drop, count_by, refl, sym, ap, ◌∙◌}
use Rattle.std.proofs.{Common.arith, lemmas.{Grind.common_steps, List.{map-append, take-append-drop}}}
use Rattle.std.specs.declared.{alloc.Global.Global, sync.Arc.Arc}
use Rattle.graph_types.proofs.Sums.{count_by-append}
use Rattle.edge_block.specs.declared.blocks.Block.{Block}
use Rattle.batch_shards.specs.RowBlocks.{shared_numbers, block_of, shared_blocks}
use Rattle.graph_version.specs.Rows.{numbers_of}

-- the numbers of a list that is cut in two
pub cut_numbers : (m : ℕ) (all low high : List (Arc Block Global)) → low ≡ take m all → high ≡ drop m all
    → (q : ℕ → Bool) → count_by q (shared_numbers low) + count_by q (shared_numbers high) ≡ count_by q (shared_numbers all)
cut_numbers m all low high a b q =
    (λ i. count_by q (shared_numbers (a i)) + count_by q (shared_numbers (b i)))
    ∙ sym (count_by-append q (shared_numbers (take m all)) (shared_numbers (drop m all)))
    ∙ sym (ap (count_by q) (map-append (λ (b : Arc Block Global). (block_of b).number) (take m all) (drop m all)))
    ∙ ap (λ bs. count_by q (shared_numbers bs)) (take-append-drop m all)

pub numbers_mapped : (bs : List (Arc Block Global)) → numbers_of (shared_blocks bs) ≡ shared_numbers bs
numbers_mapped [] = refl
numbers_mapped (b ∷ bs) = ap (λ ns. (block_of b).number ∷ ns) (numbers_mapped bs)

-- as many blocks were granted as numbers
pub granted_many : (blocks : List (Arc Block Global)) (numbers : List ℕ) (n : ℕ) → shared_numbers blocks ≡ numbers
    → length numbers ≡ n → n ≤ length blocks
granted_many blocks numbers n same many = grind (arith, common_steps)

-- the numbers of blocks whose last one is taken off
pub last_number : (old bs : List (Arc Block Global)) (b : Arc Block Global) → old ≡ bs ++ b ∷ []
    → shared_numbers old ≡ shared_numbers bs ++ (block_of b).number ∷ []
last_number old bs b is = ap shared_numbers is ∙ map-append (λ (x : Arc Block Global). (block_of x).number) bs (b ∷ [])
