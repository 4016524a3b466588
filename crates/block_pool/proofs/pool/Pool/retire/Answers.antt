use Rattle.std.proofs.Common.{◌≡◌, ◌∙◌, sym, ap, subst, true}
use Rattle.std.specs.Arc.{arc_value}
use Rattle.edge_block.specs.declared.blocks.Block.{Block}
use Rattle.block_reclamation.specs.Status.{is_free}
use Rattle.block_pool.specs.{Pools.is_used_at, Kept.statuses}
use Rattle.block_pool.proofs.Tallies.{born_at}
use Rattle.block_pool.proofs.pool.Pool.retire.Goals as goal

pub set-requires-clause-room : goal.set-requires-clause-room
set-requires-clause-room c =
    let n = c.self.inside.numbers in
    let number = c.number-number.result in
    let same : number ≡ (arc_value {X = Block} c.args.block).number =
    c.number-number.ensures ∙ ap (λ (b : Block). b.number) c.deref.ensures in
    let at = born_at (statuses n) number
    (subst (λ ps. is_used_at ps number ≡ true) (sym c.self.view_is)
    (subst (λ k. is_used_at c.args.self.now k ≡ true) (sym same) c.requires)) in
    c.self.invariant.2 number at.0 (ap is_free at.1.1)
