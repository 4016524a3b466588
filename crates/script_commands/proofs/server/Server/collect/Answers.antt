use Rattle.std.proofs.Common.{◌≡◌, ◌∙◌, ap, arith, length}
use Rattle.block_reclamation.specs.declared.copies.PinCopy.{PinCopy}
use Rattle.block_reclamation.specs.Copies as copies
use Rattle.script_commands.{specs.States.{copy_in, pins_of}, proofs.DeskLaws.{collect_done, shows_collected}}
use Rattle.script_commands.proofs.MachineMoves.{collect_moves}
use Rattle.script_commands.proofs.server.Server.collect.Goals as goal

-- the copy's last number is the desk's
pub collect-collected-requires : goal.collect-collected-requires
collect-collected-requires c =
    let last : c.copy-copy.result.last ≡ length c.args.self.now.desk.desk.last.batches =
    ap (λ (copy : PinCopy). copy.last) c.copy-copy.ensures.copy in
    omega (arith, last)

pub returns-clause-obeys : goal.returns-clause-obeys
returns-clause-obeys c = λ s shows.
    let copy : c.copy-copy.result ≡ copy_in s =
    c.copy-copy.ensures.copy ∙ (λ i. copies.copy_of (length (shows.desk.batches i)) (pins_of (shows.held i))) in (
      collect_done s c.args.self.now.desk.desk c.collect-collected.new.self.desk c.copy-copy.result
          c.collect-collected.result.floor c.collect-collected.result.recycled c.collect-collected.result.retired _ shows.desk
          c.collect-collected.ensures.collected c.collect-collected.ensures.births copy c.collect-collected.ensures.floor
          c.collect-collected.ensures.recycled c.collect-collected.ensures.retired
          (rw c.requires.empty at c.in_ok-collect_line.ensures),
      record {
        pending = shows.pending;
        desk = shows_collected s c.args.self.now.desk.desk c.collect-collected.new.self.desk c.copy-copy.result shows.desk
            c.collect-collected.ensures.collected c.collect-collected.ensures.births copy;
        held = c.copy-copy.ensures.held ∙ shows.held;
      },
    )

pub returns-clause-machine : goal.returns-clause-machine
returns-clause-machine c = λ start here events is runs shows.
    collect_moves c.args.self.now _ c.copy-copy.result (length c.args.self.now.desk.desk.last.batches) _ here
    c.copy-copy.ensures.slots.pinned c.copy-copy.ensures.floor c.copy-copy.ensures.held c.copy-copy.ensures.copy
    c.collect-collected.ensures.steps shows
