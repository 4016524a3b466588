use Rattle.std.proofs.Common.{◌≡◌, ◌+◌, ◌++◌, ◌∷◌, ◌||◌, not, [], ℕ, List, Bool, true, false, cond, map, count_by, sym, ap, ◌∙◌}
use Rattle.std.proofs.{Common.arith, Common.rules, lemmas.List.map-append}
use Rattle.std.specs.{Option.is_some, Option.option_to_list, Prelude.Some, declared.sync.Arc.Arc, declared.alloc.Global.Global}
use Rattle.graph_types.proofs.Sums.{count_by-append}
use Rattle.edge_block.specs.{declared.blocks.Block.Block, Rows.{shape_of, touch}}
use Rattle.batch_shards.specs.RowBlocks.{block_of, open_of, had_here, shared_numbers, own_here}
use Rattle.batch_shards.specs.declared.row_blocks.RowBlock.{RowBlock}
use Rattle.batch_shards.proofs.row_blocks.RowBlock.own.Goals as goal

-- a block with the same edges stands in the place of one that the batch had not touched
owned : (h : RowBlock) (b : Arc Block Global) (before : Arc Block Global) → h.touched ≡ false
    → shape_of (block_of b) ≡ shape_of (block_of h.block)
    → open_of (let g : RowBlock = record { block = b; touched = true; before = Some before } in g)
    ≡ touch (λ slots. slots) (open_of h)
owned h b before fresh same =
    let had : true ≡ (not h.touched || is_some h.before) = ap (λ t. not t || is_some h.before) (sym fresh) in
    λ i. record { shape = same i; touched = true; had = had i }

had_before : (h : RowBlock) → h.touched ≡ false → had_here h ≡ block_of h.block ∷ []
had_before h untouched = ap (λ t. cond t (map block_of (option_to_list h.before)) (block_of h.block ∷ [])) untouched

-- the fresh block's number is the row's now
one_taken : (q : ℕ → Bool) (h : RowBlock) (own : Arc Block Global) (fresh rest : List (Arc Block Global)) (number : ℕ)
    → h.touched ≡ false → fresh ≡ rest ++ own ∷ [] → number ≡ (block_of own).number
    → count_by q (number ∷ []) + count_by q (shared_numbers rest) ≡ count_by q (own_here h) + count_by q (shared_numbers fresh)
one_taken q h own fresh rest number untouched split same =
    let number_of : Arc Block Global → ℕ = λ b. (block_of b).number in
    let none : count_by q (own_here h) ≡ 0 =
    ap (λ t. count_by q (cond t ((block_of h.block).number ∷ []) [])) untouched in
    let parts : count_by q (shared_numbers fresh) ≡ count_by q (shared_numbers rest) + count_by q (shared_numbers (own ∷ [])) =
    ap (λ l. count_by q (shared_numbers l)) split ∙ ap (count_by q) (map-append number_of rest (own ∷ []))
    ∙ count_by-append q (shared_numbers rest) (shared_numbers (own ∷ [])) in
    let one : count_by q (number ∷ []) ≡ count_by q (shared_numbers (own ∷ [])) = ap (λ n. count_by q (n ∷ [])) same in
    omega (arith, none, parts, one)

pub returns-clause-touched : goal.returns-clause-touched
returns-clause-touched c =
    let h : RowBlock = c.args.self.now in
    let same : shape_of (block_of c.replace-before.new.dest) ≡ shape_of (block_of h.block) = search rules in
    record {
      shown = owned h c.replace-before.new.dest c.replace-before.result c.if-self.false same;
      source = search rules;
    }

pub returns-clause-keeps : goal.returns-clause-keeps
returns-clause-keeps c =
    let h : RowBlock = c.args.self.now in
    let split : c.args.fresh.now.items ≡ c.pop.new.self.items ++ c.in-Some.own ∷ [] = search rules in
    let same : (block_of c.replace-before.new.dest).number ≡ (block_of c.in-Some.own).number = search rules in
    record {
      had = ap (λ (b : Arc Block Global). block_of b ∷ []) c.replace-before.ensures.value ∙ sym (had_before h c.if-self.false);
      numbers = λ q. one_taken q h c.in-Some.own c.args.fresh.now.items c.pop.new.self.items _ c.if-self.false split same;
      few = search rules;
    }
