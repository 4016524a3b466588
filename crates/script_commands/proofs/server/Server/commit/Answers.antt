use Rattle.std.proofs.Common.{rules, refl, ◌≡◌, ◌∙◌, List, [], ap, sym, subst}
use Rattle.store_steps.specs.{Desks.DeskView, Acceptances.Accepts}
use Rattle.stream_store.specs.Kept.{DeskState}
use Rattle.script_commands.specs.{Servers.ShowsDesk, Servers.IsServer, declared.server.Server.Server}
use Rattle.graph_types.specs.{Graph.Graph, declared.batches.NamedOp.NamedOp}
use Rattle.graph_types.proofs.NamesApart.{AreApart}
use Rattle.store_steps.proofs.AcceptedDesk.{opening_after, batches_after, blocks_after}
use Rattle.script_commands.proofs.DeskLaws.{commit_done, commit_refused}
use Rattle.script_commands.proofs.{DeskLaws.{shows_committed, shows_given_up}, SlotLaws.slots_more}
use Rattle.script_commands.proofs.MachineMoves.{commit_moves, nothing_moves}
use Rattle.script_commands.proofs.server.Server.commit.Goals as goal

-- a server whose desk accepted a batch
kept_after : (old : Server) (new : DeskState) (pending batch : List NamedOp) → IsServer old → Accepts old.desk.desk batch new.desk
    → IsServer (record old { pending = pending; desk = new })
kept_after old new pending batch is accepts =
    let opening = opening_after old.desk.desk new.desk batch accepts in
    record {
      opening = subst (λ (g : Graph). AreApart g.names) (sym opening) is.opening;
      slots = slots_more old.desk.desk.last new.desk.last batch old.slots.board old.slots.seats.items old.slots.sessions.items
          opening (batches_after old.desk.desk new.desk batch accepts) is.slots;
      few = is.few;
      blocks = blocks_after old.desk.desk new.desk batch accepts ∙ is.blocks;
      seats = is.seats;
    }

pub returns-in_err-commit_line-in-Ok-clause-kept : goal.returns-in_err-commit_line-in-Ok-clause-kept
returns-in_err-commit_line-in-Ok-clause-kept g c =
    kept_after c.args.self.now c.apply.new.self c.replace-batch.new.dest c.replace-batch.result c.requires.server
    c.in-Ok.ensures.accepted

pub returns-in_ok-commit_line-in-Ok-clause-kept : goal.returns-in_ok-commit_line-in-Ok-clause-kept
returns-in_ok-commit_line-in-Ok-clause-kept g c =
    kept_after c.args.self.now c.apply.new.self c.replace-batch.new.dest c.replace-batch.result c.requires.server
    c.in-Ok.ensures.accepted

pub returns-in_ok-commit_line-in-Ok-clause-obeys : goal.returns-in_ok-commit_line-in-Ok-clause-obeys
returns-in_ok-commit_line-in-Ok-clause-obeys g c = λ s shows.
    let batch : c.replace-batch.result ≡ s.pending = search (rules, shows) in (
      commit_done s c.args.self.now.desk.desk c.apply.new.self.desk c.replace-batch.result c.in-Ok.receipt.number
          c.in-Ok.receipt.outcomes _ shows.desk batch c.in-Ok.ensures.used c.in-Ok.ensures.within c.in-Ok.ensures.accepted
          c.in-Ok.ensures.receipt.number_is c.in-Ok.ensures.receipt.outcomes_are
          (rw (c.requires.empty, c.as_slice.ensures) at c.in_ok-commit_line-in-Ok.ensures),
      record {
        pending = search rules;
        desk = shows_committed s c.args.self.now.desk.desk c.apply.new.self.desk c.replace-batch.result shows.desk batch
            c.in-Ok.ensures.accepted;
        held = shows.held;
      },
    )

pub returns-in_ok-word-in-Err-clause-obeys : goal.returns-in_ok-word-in-Err-clause-obeys
returns-in_ok-word-in-Err-clause-obeys g c = λ s shows.
    let batch : c.replace-batch.result ≡ s.pending = search (rules, shows) in
    let same : c.apply.new.self.desk ≡ c.args.self.now.desk.desk =
    ap (λ (d : DeskState). d.desk) c.in-Err.ensures.unchanged in (
      rw c.in_ok-word-in-Err.ensures.word
          (commit_refused s c.args.self.now.desk.desk c.replace-batch.result c.in-Err.error shows.desk batch
          c.in-Err.ensures.used
          c.in_ok-word-in-Err.ensures.known c.in-Err.ensures.refused),
      record {
        pending = search rules;
        desk = subst (λ (d : DeskView). ShowsDesk d (record s { pending = [] })) (sym same)
            (shows_given_up s c.args.self.now.desk.desk shows.desk);
        held = shows.held;
      },
    )

pub returns-in_ok-commit_line-in-Ok-clause-machine : goal.returns-in_ok-commit_line-in-Ok-clause-machine
returns-in_ok-commit_line-in-Ok-clause-machine g c = λ start here events is runs shows.
    commit_moves c.args.self.now _ c.replace-batch.result _ here refl (search rules) c.in-Ok.ensures.accepted shows

pub returns-in_ok-word-in-Err-clause-machine : goal.returns-in_ok-word-in-Err-clause-machine
returns-in_ok-word-in-Err-clause-machine g c = λ start here events is runs shows.
    nothing_moves _ c.args.self.now _ _ here refl refl c.in-Err.ensures.unchanged refl shows
