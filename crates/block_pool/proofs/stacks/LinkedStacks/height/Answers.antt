use Rattle.std.proofs.Common.{◌∙◌, length, sym, ap}
use Rattle.block_pool.{specs.Chains.chain_of, proofs.Links.shown, proofs.Links.length-chain}
use Rattle.block_pool.proofs.stacks.LinkedStacks.height.Goals as goal

pub returns : goal.returns
returns c =
    let s = c.index.result.now in
    let below = c.self.inside.below.items in
    let is = shown c.self.inside.below.rooms below c.self.inside.stacks.items c.args.self.now c.self.view_is c.args.stack s c.requires in
    sym (ap length (is.1 ∙ ap (chain_of below) (sym c.index.ensures)) ∙ length-chain below s.top s.height)
