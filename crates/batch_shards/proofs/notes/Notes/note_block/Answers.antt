use Rattle.std.proofs.{Common.ap, Common.◌∙◌, lemmas.Bool.or_right}
use Rattle.edge_block.specs.Lending.{edges_left}
use Rattle.edge_block.proofs.LentEntries.{lends, lent_target}
use Rattle.batch_shards.specs.Notes.{may_stand}
use Rattle.batch_shards.proofs.notes.Notes.note_block.Goals as goal

pub loop-edge-init : goal.loop-edge-init
loop-edge-init c =
    let left = edges_left c.into_iter-edge-iterator.result in
    let same = ap edges_left c.into_iter-edge-iterator.ensures.into_iter_gives ∙ c.select-edge-items.ensures.lends in
    record {
      noted = λ t held. or_right (may_stand c.args.self.now t c.args.place) (lends t left)
          (ap (lends t) same
          ∙ lent_target c.args.block.now c.args.block.now.slots t c.select-edge-items.ensures.block.stamped held);
      more = record { stays = λ t place may. may };
    }
