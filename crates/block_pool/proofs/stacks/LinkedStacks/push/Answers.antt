use Rattle.std.proofs.Common.{◌∙◌, length, sym, ap, subst, arith}
use Rattle.block_pool.{specs.Chains.{Stacks, AreAbsent, chain_of}, proofs.Links.{shown, length-chain, pushed, pushed_within}}
use Rattle.block_pool.proofs.stacks.LinkedStacks.push.Goals as goal

pub overflow_add-old : goal.overflow_add-old
overflow_add-old c =
    let s = c.index-old.result.now in
    let below = c.self.inside.below.items in
    let is = shown c.self.inside.below.rooms below c.self.inside.stacks.items c.args.self.now c.self.view_is c.args.stack s c.requires.stack in
    let high = ap length (is.1 ∙ ap (chain_of below) (sym c.index-old.ensures)) in
    let long = length-chain below s.top s.height in
    let bound = ap (λ (v : Stacks). v.bound) c.self.view_is in
    omega (arith, high, long, bound, c.requires.room, c.self.invariant.few)

pub invariant_of-self : goal.invariant_of-self
invariant_of-self c =
    let s = c.index-old.result.now in
    let below = c.self.inside.below.items in
    let stacks = c.self.inside.stacks.items in
    let is = shown c.self.inside.below.rooms below stacks c.args.self.now c.self.view_is c.args.stack s c.requires.stack in
    let bound = ap (λ (v : Stacks). v.bound) c.self.view_is in
    rw c.set.ensures
    (pushed_within c.self.inside.below.rooms below stacks c.self.invariant c.args.stack c.args.number s c.index-old.ensures is.0
    (omega (arith, bound, c.requires.number)) (subst (λ (v : Stacks). AreAbsent c.args.number v.lists) (sym c.self.view_is) c.requires.absent))

pub returns : goal.returns
returns c =
    rw c.set.ensures
    (pushed c.self.inside.below.rooms c.self.inside.below.items c.self.inside.stacks.items c.args.self.now c.self.view_is c.args.stack c.args.number
    c.index-old.result.now c.index-old.ensures c.requires.stack c.requires.number c.requires.absent)
