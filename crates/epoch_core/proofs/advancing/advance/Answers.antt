use Rattle.std.{proofs.Common.{◌≡◌, List, length, refl, sym, ap, subst, ◌∙◌, arith}, specs.Prelude.{IfOk, slice_index_or}}
use Rattle.graph_types.specs.declared.ids.Edge.{Edge}
use Rattle.epoch_core.specs.{Blocks.Stepped, Blocks.changed_at, Blocks.status_taken, Blocks.reclaimed, Worlds.MachineState, Runs.Steps}
use Rattle.epoch_core.specs.{Cores.state_of, declared.events.Event.{TheVariants.Fill, TheVariants.Post}}
use Rattle.epoch_core.specs.declared.{states.Version.Version, session_states.SessionState.TheVariants.Idle}
use Rattle.epoch_core.specs.Machine.{ReadsContent, to_ask, to_enter, to_pin, to_read, to_release, to_settle}
use Rattle.epoch_core.proofs.{Read.reads_content, Stepping.{changed_by, moved_by, may_step, may_move, may_reply}}
use Rattle.epoch_core.proofs.advancing.advance.Goals as goal

pub returns-in-Take-clause-steps : goal.returns-in-Take-clause-steps
returns-in-Take-clause-steps c =
    changed_by (state_of c.args.parts.now) _ _ c.in-Take.block status_taken _ _ c.in-Take.is refl refl c.take_block.ensures

pub returns-in-Recycle-clause-steps : goal.returns-in-Recycle-clause-steps
returns-in-Recycle-clause-steps c =
    changed_by (state_of c.args.parts.now) _ _ c.in-Recycle.block (reclaimed c.args.parts.now.copy) _ _
    c.in-Recycle.is refl refl c.recycle_block.ensures

pub returns-in-Pin-clause-steps : goal.returns-in-Pin-clause-steps
returns-in-Pin-clause-steps c =
    moved_by (state_of c.args.parts.now) _ _ c.in-Pin.session (to_pin c.args.parts.now.floor) _ _ c.in-Pin.is refl refl
    c.pin.ensures

pub returns-in-Settle-clause-steps : goal.returns-in-Settle-clause-steps
returns-in-Settle-clause-steps c =
    moved_by (state_of c.args.parts.now) _ _ c.in-Settle.session to_settle _ _ c.in-Settle.is refl refl c.settle.ensures

pub returns-in-Release-clause-steps : goal.returns-in-Release-clause-steps
returns-in-Release-clause-steps c =
    moved_by (state_of c.args.parts.now) _ _ c.in-Release.session to_release _ _ c.in-Release.is refl refl c.release.ensures

pub returns-in-Floor-clause-steps : goal.returns-in-Floor-clause-steps
returns-in-Floor-clause-steps c =
    subst (λ e. Steps (state_of c.args.parts.now) e c.raise_floor.result (state_of c.raise_floor.new.parts)) (sym c.in-Floor.is)
    c.raise_floor.ensures.steps

pub returns-in-Floor-clause-contents : goal.returns-in-Floor-clause-contents
returns-in-Floor-clause-contents c = c.raise_floor.ensures.contents

pub returns-in-Enter-clause-steps : goal.returns-in-Enter-clause-steps
returns-in-Enter-clause-steps c =
    let old : MachineState = state_of c.args.parts.now in
    let last : c.len-last.result ≡ length old.world.versions = omega (arith, c.len-last.ensures, c.args.parts.now.versions.ok.0) in
    moved_by old _ _ c.in-Enter.session (to_enter (length old.world.versions)) _ _ c.in-Enter.is refl refl
    (subst (λ n. Stepped (changed_at (to_enter n) old.world.sessions c.in-Enter.session) c.enter.result old.world.sessions
    c.enter.new.sessions.items) last c.enter.ensures)

pub returns-in-Fill : goal.returns-in-Fill
returns-in-Fill c =
    let s = may_step (state_of c.args.parts.now) _ c.args.event.now c.fill.result (state_of c.fill.new.parts)
    (c.in-Fill.is ∙ ap (λ edges. Fill c.in-Fill.block edges) (sym c.as_slice.ensures)) refl c.fill.ensures.steps
    c.fill.ensures.unchanged in
    record { steps = s.steps; unchanged = s.unchanged; memory = s.memory; contents = c.fill.ensures.contents }

pub returns-in-Post : goal.returns-in-Post
returns-in-Post c =
    let s = may_step (state_of c.args.parts.now) _ c.args.event.now c.post.result (state_of c.post.new.parts)
    (c.in-Post.is ∙ ap (λ blocks. Post c.in-Post.batch blocks) (sym c.as_slice-in-Post.ensures)) refl c.post.ensures.steps
    c.post.ensures.unchanged in
    record { steps = s.steps; unchanged = s.unchanged; memory = s.memory; contents = c.post.ensures.contents }

pub returns-in-Ask : goal.returns-in-Ask
returns-in-Ask c =
    let s = may_move (state_of c.args.parts.now) _ c.args.event.now c.in-Ask.session (to_ask c.in-Ask.request) c.ask.result
    c.ask.new.sessions.items c.in-Ask.is refl refl refl c.ask.ensures.asked c.ask.ensures.unchanged in
    record { steps = s.steps; unchanged = s.unchanged; memory = s.memory; contents = c.requires.contents }

pub returns-in-Read : goal.returns-in-Read
returns-in-Read c =
    let old : MachineState = state_of c.args.parts.now in
    let moves : List (List Edge) → List Version → Type 0 = λ heap versions. IfOk c.read.result (λ outcome. Stepped (changed_at
    (to_read old.world.opening heap versions) old.world.sessions c.in-Read.session) outcome old.world.sessions
    c.read.new.sessions.items) in
    let s = may_move old _ c.args.event.now c.in-Read.session (to_read old.world.opening old.world.heap old.world.versions)
    c.read.result c.read.new.sessions.items c.in-Read.is refl refl refl
    (subst (λ heap. moves heap old.world.versions) c.as_slice-in-Read.ensures.value
    (subst (moves c.as_slice-in-Read.result.now) c.as_slice-in-Read-2.ensures.value c.read.ensures.read))
    c.read.ensures.unchanged in
    record { steps = s.steps; unchanged = s.unchanged; memory = s.memory; contents = c.requires.contents }

pub reply-requires-clause-content : goal.reply-requires-clause-content
reply-requires-clause-content c =
    subst (λ versions. ReadsContent c.args.parts.now.opening versions
    (slice_index_or c.args.parts.now.sessions.items c.in-Reply.session Idle)) (sym c.as_slice-in-Reply.ensures.value)
    (reads_content (state_of c.args.parts.now).world c.in-Reply.session c.requires.sound c.requires.contents)

pub returns-in-Reply : goal.returns-in-Reply
returns-in-Reply c =
    let s = may_reply (state_of c.args.parts.now) c.args.event.now c.in-Reply.session c.as_slice-in-Reply.result.now
    c.reply.result c.reply.new.sessions.items c.reply.new.replies.items c.in-Reply.is c.as_slice-in-Reply.ensures.value
    c.reply.ensures.moved c.reply.ensures.answered c.reply.ensures.session_stays c.reply.ensures.replies_stay in
    record { steps = s.steps; unchanged = s.unchanged; memory = s.memory; contents = c.requires.contents }
