-- The used blocks of a desk are those of its last version.
use Rattle.std.proofs.Common.{◌≡◌, length}
use Rattle.std.proofs.{Common.{count_by, ◌∙◌}, lemmas.List.length-map}
use Rattle.edge_block.specs.Slots.{BlockView}
use Rattle.graph_version.specs.Rows.{blocks_of}
use Rattle.block_reclamation.specs.Status.{is_among, is_in_use}
use Rattle.store_steps.specs.Desks.{DeskView, IsDesk, last_numbers}
use Rattle.store_steps.proofs.{NumberLists.differ_from, Dated.desk_dated}
use Rattle.store_steps.proofs.Reopening.{used_born, born_counted}
use Rattle.desk.specs.Refusals.{block_count}

pub used_blocks : (d : DeskView) → IsDesk d → count_by is_in_use d.pool ≡ block_count d.last
used_blocks d desk =
    used_born (λ n. is_among n d.opened) (length d.last.batches) d.pool (desk_dated d desk)
    ∙ born_counted (last_numbers d) d.pool (differ_from (last_numbers d) desk.version.rows.numbers) desk.listed
    ∙ length-map (blocks_of d.last.rows) (λ (b : BlockView). b.number)
