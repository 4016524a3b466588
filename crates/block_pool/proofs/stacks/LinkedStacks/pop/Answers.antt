use Rattle.std.proofs.{Common.◌<◌, Common.length, Common.arith, lemmas.List.get_or_read}
use Rattle.std.proofs.lemmas.Grind.{common_steps}
use Rattle.block_pool.{proofs.Links.shown, proofs.Links.length-chain, proofs.Links.popped}
use Rattle.block_pool.proofs.{Links.top_within, Links.popped_within, stacks.LinkedStacks.pop.Goals.After-index-old}
use Rattle.block_pool.proofs.stacks.LinkedStacks.pop.Goals as goal

-- the stack is one of those kept, and its top is one of the numbers
top : (c : After-index-old) → (c.args.stack < length c.self.inside.stacks.items) × (0 < c.index-old.result.now.height)
    × (c.index-old.result.now.top < length c.self.inside.below.items)
top c = grind (arith, common_steps, shown, length-chain, top_within)

pub get-top-requires : goal.get-top-requires
get-top-requires c = let is = top (goal.at.get-top-requires c).After-index-old in omega (arith, is.2)

pub invariant_of-self : goal.invariant_of-self
invariant_of-self c =
    let s = c.index-old.result.now in
    let below = c.self.inside.below.items in
    let is = top (goal.at.invariant_of-self c).After-index-old in
    popped_within c.self.inside.below.rooms below c.self.inside.stacks.items c.self.invariant c.args.stack s c.get-top.result c.index-old.ensures is.0
    is.1 (get_or_read below s.top c.get-top.result is.2 c.get-top.ensures 0)

pub returns : goal.returns
returns c =
    let s = c.index-old.result.now in
    let below = c.self.inside.below.items in
    let is = top (goal.at.returns c).After-index-old in
    popped c.self.inside.below.rooms below c.self.inside.stacks.items c.args.self.now c.self.view_is c.args.stack s c.get-top.result c.index-old.ensures
    c.requires.stack is.1 (get_or_read below s.top c.get-top.result is.2 c.get-top.ensures 0)
