use Rattle.std.proofs.Common.{◌∙◌, get_or}
use Rattle.batch_shards.{specs.Notes.IsNoted, proofs.RowSteps.edge_target}
use Rattle.batch_shards.proofs.rows.find_place.Goals as goal

pub first_place-requires : goal.first_place-requires
first_place-requires c = λ i h lt at.
    let noted : IsNoted c.args.notes.now c.args.row.now = c.requires.noted in
    let by_notes = (rw c.in-Some.is at noted) in
    c.in-Some-places_of.ensures i ∙ by_notes c.args.target i h lt
    (edge_target c.args.kind.0 c.args.target (get_or c.args.row.now i h) at)
