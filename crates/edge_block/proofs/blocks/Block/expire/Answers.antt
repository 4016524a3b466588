use Rattle.std.proofs.{Common.{◌≡◌, ◌+◌, ◌≤◌, length, refl, sym, ap, ◌∙◌, arith}, lemmas.List.length-map}
use Rattle.edge_block.specs.Slots.{BlockView, slot_since, slots_since, old_in, with_slots}
use Rattle.edge_block.proofs.Expiring.{few_old, kept_taken, count_taken, none_old}
use Rattle.edge_block.proofs.blocks.Block.expire.Goals as goal

pub loop-target-init : goal.loop-target-init
loop-target-init c = record {
  rest = refl;
  counted = omega arith;
}

-- one old edge less
fewer : (c : goal.After-take-taken) → old_in c.args.time c.take-taken.new.self.slots + 1
    ≡ old_in c.args.time c.loop-target.self.slots
fewer c =
    ap (λ (b : BlockView). old_in c.args.time b.slots + 1) c.take-taken.ensures.slots
    ∙ count_taken c.args.time c.in-Some.target _ c.loop-target.self.slots c.in-Some.ensures.edge.2 c.in-Some.ensures.edge.1

-- no more than there are slots
few_at_first : (c : goal.After-take-taken) → old_in c.args.time c.args.self.now.slots ≤ 32
few_at_first c =
    let few = few_old c.args.time c.args.self.now.slots in
    let places =
    sym (length-map c.args.self.now.slots (slot_since c.args.time))
    ∙ sym (ap (λ (b : BlockView). length b.slots) c.loop-target.invariant.rest)
    ∙ length-map c.loop-target.self.slots (slot_since c.args.time)
    ∙ c.in-Some.ensures.places in omega arith

pub loop-target-smaller : goal.loop-target-smaller
loop-target-smaller c = let less = fewer c in omega arith

pub loop-target-preserved : goal.loop-target-preserved
loop-target-preserved c = record {
  rest = ap (λ (b : BlockView). with_slots b (slots_since c.args.time b.slots)) c.take-taken.ensures.slots
      ∙ ap (with_slots c.loop-target.self)
      (kept_taken c.args.time c.in-Some.target _ c.loop-target.self.slots c.in-Some.ensures.edge.2 c.in-Some.ensures.edge.1)
      ∙ c.loop-target.invariant.rest;
  counted =
      let less = fewer c in
      let all = c.loop-target.invariant.counted in
      let few = few_at_first c in omega arith;
}

pub returns-clause-slots : goal.returns-clause-slots
returns-clause-slots c =
    ap (with_slots c.loop-target.self) (sym (none_old c.args.time c.loop-target.self.slots c.in_default.ensures.edge))
    ∙ c.loop-target.invariant.rest

pub returns-clause-count : goal.returns-clause-count
returns-clause-count c = let all = c.loop-target.invariant.counted in let none = c.in_default.ensures.edge in omega arith
