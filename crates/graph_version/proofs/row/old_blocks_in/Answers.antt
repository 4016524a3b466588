use Rattle.std.proofs.{Common.{◌≡◌, ◌∷◌, ◌++◌, ◌+◌, [], ℕ, Bool, List, cond, take, ap, sym, ◌∙◌, arith}, lemmas.List.map-append}
use Rattle.std.{proofs.lemmas.List.{take_more, Sums.sum_by_push}, specs.declared.{sync.Arc.Arc, alloc.Global.Global}}
use Rattle.edge_block.specs.{Slots.BlockView, Slots.has_before, declared.blocks.Block.Block}
use Rattle.graph_version.specs.{Sharing.{block_value, block_values}, Ages.old_blocks}
use Rattle.graph_version.proofs.row.old_blocks_in.Goals.{then-has_before, else-has_before}
use Rattle.graph_version.proofs.row.old_blocks_in.Goals as goal

pub loop-block-preserved : goal.loop-block-preserved
loop-block-preserved c =
    let row : List (Arc Block Global) = c.args.blocks.now in
    let k : ℕ = c.loop-block.block-index in
    let block : Arc Block Global = c.block-item.result in
    let step : take (k + 1) row ≡ take k row ++ block ∷ [] =
    take_more row k block (omega arith) ∙ ap (λ (b : Arc Block Global). take k row ++ b ∷ []) (sym c.block-item.is) in
    let one = sum_by_push (λ (b : BlockView). cond (has_before c.args.time b.slots) 1 0) (block_values (take k row)) (block_value
    block) in
    let pushed : block_values (take k row ++ block ∷ []) ≡ block_values (take k row) ++ block_value block ∷ [] =
    map-append block_value (take k row) (block ∷ []) in
    let more : old_blocks c.args.time (block_values (take (k + 1) row))
    ≡ old_blocks c.args.time (block_values (take k row)) + cond (has_before c.args.time (block_value block).slots) 1 0 =
    ap (λ l. old_blocks c.args.time (block_values l)) step ∙ ap (old_blocks c.args.time) pushed ∙ one in
    let same : c.has_before.result ≡ has_before c.args.time (block_value block).slots =
    c.has_before.ensures ∙ ap (λ (b : BlockView). has_before c.args.time b.slots) c.deref.ensures in
    let told : old_blocks c.args.time (block_values (take (k + 1) row)) ≡ c.loop-block.count + cond c.has_before.result 1 0 =
    more ∙ ap (λ (n : ℕ). n + cond (has_before c.args.time (block_value block).slots) 1 0) (sym c.loop-block.invariant)
    ∙ ap (λ (b : Bool). c.loop-block.count + cond b 1 0) (sym same) in
    elim c.if-has_before.branch [
      | then-has_before w ↦
          let t : old_blocks c.args.time (block_values (take (k + 1) row)) ≡ c.loop-block.count + 1 =
          told ∙ ap (λ (b : Bool). c.loop-block.count + cond b 1 0) w.if-has_before.true in
          rw w.count-is (sym t)
      | else-has_before w ↦
          let f : old_blocks c.args.time (block_values (take (k + 1) row)) ≡ c.loop-block.count + 0 =
          told ∙ ap (λ (b : Bool). c.loop-block.count + cond b 1 0) w.if-has_before.false in
          let same_count : c.loop-block.count + 0 ≡ c.loop-block.count = omega arith in
          rw w.count-is (sym (f ∙ same_count))
    ]
