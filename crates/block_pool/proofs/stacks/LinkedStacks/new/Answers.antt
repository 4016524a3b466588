use Rattle.std.proofs.Common.{◌∙◌, length, map, sym, ap, subst, arith}
use Rattle.block_pool.{specs.Chains.{chain_of, AreStacksWithin}, proofs.Links.{map_empty, empty_within}, proofs.Paging.length-by_place}
use Rattle.block_pool.proofs.stacks.LinkedStacks.new.Goals as goal

pub invariant_of-result : goal.invariant_of-result
invariant_of-result c =
    let stacks = c.in_ok-vec.ensures.items_if_clones_equal (λ y e. e) in
    let long = ap length c.in_ok-new.ensures ∙ length-by_place (λ n. n) c.args.bound in
    subst (AreStacksWithin c.in_ok-new.field-0.items) (sym stacks)
    (empty_within c.in_ok-new.field-0.items c.args.stacks 0 (omega (arith, long, c.ranges.bound)))

pub returns : goal.returns
returns c =
    let stacks = c.in_ok-vec.ensures.items_if_clones_equal (λ y e. e) in (
      ap length c.in_ok-new.ensures ∙ length-by_place (λ n. n) c.args.bound,
      ap (map (chain_of c.in_ok-new.field-0.items)) stacks ∙ map_empty c.in_ok-new.field-0.items c.args.stacks 0,
    )
