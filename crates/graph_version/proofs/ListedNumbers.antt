-- The numbers of blocks, also of shared ones.
use Rattle.std.proofs.Common.{◌≡◌, ℕ, ◌<◌, Bool, true, List, [], ◌∷◌, ◌==◌, All, count_by, refl, arith}
use Rattle.std.proofs.lemmas.{Grind.common_steps, List.Elements.{All-head, All-tail, All-cons}}
use Rattle.std.specs.List.{list_all}
use Rattle.graph_types.proofs.Times.{times}
use Rattle.edge_block.specs.Slots.{BlockView}
use Rattle.graph_version.specs.Rows.{numbers_of}

pub times_numbers : (m : ℕ) (bs : List BlockView) → times m (numbers_of bs) ≡ count_by (λ b. b.number == m) bs
times_numbers m bs = grind (arith, common_steps)

pub numbers_all : (p : ℕ → Bool) (bs : List BlockView) → All (λ b. p b.number ≡ true) bs → list_all p (numbers_of bs) ≡ true
numbers_all p [] all = refl
numbers_all p (b ∷ bs) all = rw (All-head (λ x. p x.number ≡ true) b bs all)
    (numbers_all p bs (All-tail (λ x. p x.number ≡ true) b bs all))

pub within_blocks : (blocks : ℕ) (bs : List BlockView) → All (λ n. n < blocks) (numbers_of bs) → All (λ b. b.number < blocks) bs
within_blocks blocks [] within = λ k d h. absurd (omega arith)
within_blocks blocks (b ∷ bs) within =
    All-cons (λ (x : BlockView). x.number < blocks) b bs (All-head (λ n. n < blocks) b.number (numbers_of bs) within)
    (within_blocks blocks bs (All-tail (λ n. n < blocks) b.number (numbers_of bs) within))
