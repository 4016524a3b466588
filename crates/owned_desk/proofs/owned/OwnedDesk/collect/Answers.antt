use Rattle.std.proofs.Common.{◌≡◌, ◌≤◌, List, length, sym, ap, subst, rules}
use Rattle.std.specs.Prelude.{Option}
use Rattle.block_reclamation.specs.{Board.BoardState, declared.copies.{Pin.Pin, PinCopy.PinCopy}}
use Rattle.store_steps.specs.{Boards.raised_board, Desks.IsCollected, Steps.{SimulatesAt, recycling}}
use Rattle.owned_desk.specs.{Kept.KeepsVersions, Owned.{OwnedView, IsOwned, copied, owned_view}}
use Rattle.owned_desk.proofs.{KeptVersions.collected_versions, OwnedLaws.{collected_owned, pins_settled}, OwnedHeld.{held_are_snapshots, leaves_held_blocks}, OwnedMoves.collect_follows}
use Rattle.owned_desk.proofs.owned.OwnedDesk.collect.Goals as goal

pub invariant_of-self : goal.invariant_of-self
invariant_of-self c =
    let s = c.self.inside in
    let old : OwnedView = owned_view s.desk s.board s.counts s.opening s.kept in
    let is : IsOwned old = c.self.invariant.owned in
    let copy_is : c.raise-copy.result ≡ copied s.desk s.board = search rules in
    let collected : IsCollected s.desk (copied s.desk s.board) c.collect.new.self =
    subst (λ (copy : PinCopy). IsCollected s.desk copy c.collect.new.self) copy_is c.collect.ensures.collected in
    let pins : c.raise-copy.new.self.pins ≡ s.board.pins = ap (λ (b : BoardState). b.pins) c.raise-copy.ensures.raised in
    let low : c.raise-copy.new.self.floor ≤ length s.desk.last.batches = search rules in
    record {
      owned = collected_owned old c.collect.new.self c.raise-copy.new.self is collected.last pins low;
      kept = subst (λ (ps : List (Option Pin)). KeepsVersions c.collect.new.self ps s.kept) (sym pins)
          (collected_versions s.desk c.collect.new.self s.board.pins s.kept (pins_settled old is) c.self.invariant.kept collected);
    }

pub returns-clause-steps : goal.returns-clause-steps
returns-clause-steps c =
    let is : c.raise-copy.result ≡ copied c.args.self.now.desk c.args.self.now.board = search rules in
    subst (λ (copy : PinCopy). SimulatesAt copy c.args.self.now.desk (recycling copy c.args.self.now.desk.pool) c.collect.new.self) is
    (subst (λ (o : OwnedView). SimulatesAt c.raise-copy.result o.desk (recycling c.raise-copy.result o.desk.pool) c.collect.new.self)
    c.self.view_is c.collect.ensures.steps)

-- Their searches are long where they fail.
pub returns-clause-collected : goal.returns-clause-collected
returns-clause-collected c = search rules

pub returns-clause-births : goal.returns-clause-births
returns-clause-births c = search rules

pub returns-clause-recycled : goal.returns-clause-recycled
returns-clause-recycled c = search rules

pub returns-clause-follows : goal.returns-clause-follows
returns-clause-follows c =
    let old : OwnedView = c.args.self.now in
    let new : OwnedView = record {
      desk = c.collect.new.self;
      board = c.raise-copy.new.self;
      counts = c.self.inside.counts;
      opening = c.self.inside.opening;
      versions = c.self.inside.kept.versions;
    } in
    let is : c.raise-copy.result ≡ copied old.desk old.board = search rules in
    let board : new.board ≡ raised_board (length old.desk.last.batches) old.board = search rules in
    collect_follows old new (subst IsOwned c.self.view_is c.self.invariant.owned) board
    (subst (λ (copy : PinCopy). SimulatesAt copy old.desk (recycling copy old.desk.pool) c.collect.new.self) is
    (subst (λ (o : OwnedView). SimulatesAt c.raise-copy.result o.desk (recycling c.raise-copy.result o.desk.pool) c.collect.new.self)
    c.self.view_is c.collect.ensures.steps))

pub returns-clause-exact : goal.returns-clause-exact
returns-clause-exact c =
    let old : OwnedView = c.args.self.now in
    let new : OwnedView = record {
      desk = c.collect.new.self;
      board = c.raise-copy.new.self;
      counts = c.self.inside.counts;
      opening = c.self.inside.opening;
      versions = c.self.inside.kept.versions;
    } in
    let collected : IsCollected old.desk (copied old.desk old.board) new.desk = search rules in
    leaves_held_blocks old new (subst IsOwned c.self.view_is c.self.invariant.owned) collected

pub returns-clause-snapshots : goal.returns-clause-snapshots
returns-clause-snapshots c = held_are_snapshots (record {
  desk = c.collect.new.self;
  board = c.raise-copy.new.self;
  counts = c.self.inside.counts;
  opening = c.self.inside.opening;
  versions = c.self.inside.kept.versions;
})
