use Rattle.std.proofs.Common.{◌≡◌, ◌-◌, ◌+◌, ◌<◌, ℕ, List, Some, None, get_or, length, sym, ap, ◌∙◌, subst, arith, rules, set}
use Rattle.std.proofs.{Math.ListN.length-set, lemmas.Grind.get_or_default_zero}
use Rattle.batch_shards.specs.{Groups.{is_on_row, AreStepGroups}, declared.shard.{Act.TheVariants.{Edge, Expire}, Place.Place, Step.Step}}
use Rattle.batch_shards.proofs.{ShardSteps.first_step, Upcoming.groups_more, Upcoming.groups_pass}
use Rattle.batch_shards.proofs.groups.groups_of.Goals as goal

-- the groups are those behind the place that the loop comes to
behind : (steps : List Step) (index : ℕ) (first next : List ℕ) → 0 < index → AreStepGroups index steps first next
    → AreStepGroups (index - 1 + 1) steps first next
behind steps index first next some x =
    let same : index ≡ index - 1 + 1 = omega arith in
    subst (λ n. AreStepGroups n steps first next) same x

pub loop-index-preserved-in-Edge-Some-default : goal.loop-index-preserved-in-Edge-Some-default
loop-index-preserved-in-Edge-Some-default c =
    let i : ℕ = c.loop-index.index - 1 in
    let p : Place = c.in-Edge-Some-default.place in
    let inside : i < length c.args.steps.now = omega (arith, c.loop-index.invariant.within, c.loop-index-test.true) in
    let act : (get_or c.args.steps.now i first_step).act ≡ Edge (Some p) c.in-Edge-Some-default.field-1 = search rules in
    let row : p.row < length c.loop-index.first.items = search rules in
    let was : c.index.result.now ≡ get_or c.loop-index.first.items p.row 0 =
    c.index.ensures ∙ get_or_default_zero c.loop-index.first.items p.row c.index.result.now row in
    record {
      within = omega (arith, inside);
      firsts = length-set c.loop-index.first.items p.row i ∙ c.loop-index.invariant.firsts;
      nexts = length-set c.loop-index.next.items i c.index.result.now ∙ c.loop-index.invariant.nexts;
      groups = subst (λ n. AreStepGroups i c.args.steps.now (set c.loop-index.first.items p.row i)
          (set c.loop-index.next.items i n)) (sym was)
          (groups_more c.args.steps.now i c.loop-index.first.items c.loop-index.next.items p c.in-Edge-Some-default.field-1
          inside act row (omega (arith, inside, c.loop-index.invariant.nexts))
          (behind c.args.steps.now c.loop-index.index c.loop-index.first.items c.loop-index.next.items
          (omega (arith, c.loop-index-test.true)) c.loop-index.invariant.groups));
    }

pub loop-index-preserved-in-Edge-None-default : goal.loop-index-preserved-in-Edge-None-default
loop-index-preserved-in-Edge-None-default c =
    let i : ℕ = c.loop-index.index - 1 in
    let inside : i < length c.args.steps.now = omega (arith, c.loop-index.invariant.within, c.loop-index-test.true) in
    let act : (get_or c.args.steps.now i first_step).act ≡ Edge None c.in-Edge-None-default.field-1 = search rules in
    record {
      within = omega (arith, inside);
      firsts = c.loop-index.invariant.firsts;
      nexts = c.loop-index.invariant.nexts;
      groups = groups_pass c.args.steps.now i c.loop-index.first.items c.loop-index.next.items inside (λ row. ap (is_on_row row) act)
          (behind c.args.steps.now c.loop-index.index c.loop-index.first.items c.loop-index.next.items
          (omega (arith, c.loop-index-test.true)) c.loop-index.invariant.groups);
    }

pub loop-index-preserved : goal.loop-index-preserved
loop-index-preserved c =
    let i : ℕ = c.loop-index.index - 1 in
    let inside : i < length c.args.steps.now = omega (arith, c.loop-index.invariant.within, c.loop-index-test.true) in
    let act : (get_or c.args.steps.now i first_step).act ≡ Expire c.in-Expire.field-0 = search rules in
    record {
      within = omega (arith, inside);
      firsts = c.loop-index.invariant.firsts;
      nexts = c.loop-index.invariant.nexts;
      groups = groups_pass c.args.steps.now i c.loop-index.first.items c.loop-index.next.items inside (λ row. ap (is_on_row row) act)
          (behind c.args.steps.now c.loop-index.index c.loop-index.first.items c.loop-index.next.items
          (omega (arith, c.loop-index-test.true)) c.loop-index.invariant.groups);
    }
