use Rattle.std.proofs.Common.{◌∙◌, ◌∷◌, length, sym, ap, arith}
use Rattle.block_pool.{specs.Chains.{below_top, chain_of}, proofs.Links.{shown, length-chain, chain_top}}
use Rattle.block_pool.proofs.stacks.LinkedStacks.top.Goals as goal

pub returns : goal.returns
returns c =
    let s = c.index.result.now in
    let below = c.self.inside.below.items in
    let is = shown c.self.inside.below.rooms below c.self.inside.stacks.items c.args.self.now c.self.view_is c.args.stack s c.requires.stack in
    let this = is.1 ∙ ap (chain_of below) (sym c.index.ensures) in
    let some = ap length this in
    let long = length-chain below s.top s.height in
    this ∙ chain_top below s.top s.height (omega (arith, some, long, c.requires.some)) ∙ ap (λ ns. s.top ∷ below_top ns) (sym this)
