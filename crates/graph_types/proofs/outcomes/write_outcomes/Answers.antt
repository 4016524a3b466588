use Rattle.std.proofs.{Common.{◌≡◌, List, set, get_or, sym, ap, ◌∙◌, arith}, lemmas.List.get_or_default}
use Rattle.graph_types.specs.declared.batches.Outcome.{Outcome, TheVariants.Absent}
use Rattle.graph_types.specs.Outcomes.{together}
use Rattle.graph_types.specs.Outcomes.{told}
use Rattle.graph_types.proofs.PlacedOutcomes.{written_more}
use Rattle.graph_types.proofs.outcomes.write_outcomes.Goals as goal

pub loop-place-preserved-then-place-len : goal.loop-place-preserved-then-place-len
loop-place-preserved-then-place-len c =
    let items : List Outcome = c.loop-place.outcomes.items in
    let there : c.index.result.now ≡ get_or items c.in-Some.place Absent =
    c.index.ensures ∙ get_or_default items c.in-Some.place c.index.result.now Absent
    (omega (arith, c.if-place-len.true, c.len.ensures)) in
    ap (λ (o : Outcome). set items c.in-Some.place o) c.put_together.ensures
    ∙ ap (λ (o : Outcome). set items c.in-Some.place (told (together o c.in-Some.outcome))) there
    ∙ ap (λ xs. set xs c.in-Some.place (told (together (get_or xs c.in-Some.place Absent) c.in-Some.outcome)))
    c.loop-place.invariant
    ∙ sym (written_more c.loop-place.yielded (c.in-Some.place, c.in-Some.outcome) c.args.outcomes.now.items)
