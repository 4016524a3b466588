use Rattle.std.proofs.{Common.sym, Common.subst, Common.◌≡◌, Common.◌<◌, Common.ℕ, Common.List, lemmas.List.take_all}
use Rattle.batch_shards.{specs.declared.row_blocks.RowBlock.RowBlock, proofs.{RowSteps.at_edge, Noting.{IsFirstOf, first_is}}}
use Rattle.batch_shards.proofs.rows.first_place.Goals as goal

pub returns : goal.returns
returns c =
    let p : RowBlock → Rattle.std.proofs.Common.Bool = at_edge c.args.kind.0 c.args.target in
    sym (first_is p c.args.row.now c.args.places.now c.loop-place.first
    (subst (λ (ps : List ℕ). IsFirstOf p c.args.row.now ps c.loop-place.first)
    (take_all c.loop-place.place-index c.args.places.now c.loop-place-test.false) c.loop-place.invariant) c.requires)
