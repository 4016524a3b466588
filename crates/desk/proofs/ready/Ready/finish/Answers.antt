use Rattle.std.proofs.Common.{◌≡◌, ◌+◌, ◌++◌, ◌∷◌, [], length, refl, sym, ap, subst, ◌∙◌, arith, count_by, vec_len}
use Rattle.graph_version.specs.{Versions.VersionView}
use Rattle.graph_version.specs.Batches.{batch_value}
use Rattle.block_pool.specs.Pools.{marked}
use Rattle.store_steps.specs.Journal as kept
use Rattle.block_reclamation.specs.{Status.is_retired, declared.status.BlockStatus.TheVariants.Used}
use Rattle.desk.specs.{Applying.AreInUseOnce, Ready.{ReadyView, IsReady, ready_of}, declared.desks.Parts.Parts}
use Rattle.desk.proofs.Handing.{Handing, taken_once, dropped_once, unused_once, end_pool, end_desk, end_kept, end_fits}
use Rattle.desk.proofs.{Readied.handing_of, ready.Ready.finish.Goals.{After-as_slice, After-born_blocks}}
use Rattle.desk.proofs.ready.Ready.finish.Goals as goal

-- what is lent of the desk is ready
ready : (c : After-as_slice) → IsReady c.deref_mut-kept.result.now c.self.inside.numbers.items c.self.inside.prepared
ready c =
    let p = c.self.inside in
    subst (λ (q : Parts). IsReady q p.numbers.items p.prepared) (sym c.deref_mut-kept.ensures.value) c.self.invariant

abbrev handed : After-as_slice → Handing
handed c =
    let p = c.self.inside in handing_of c.deref_mut-kept.result.now p.numbers.items p.prepared (ready c)

number_is : (c : After-as_slice) → c.next_number-number.result ≡ length c.deref_mut-kept.result.now.last.batches + 1
number_is c =
    c.next_number-number.ensures ∙ ap (λ (v : VersionView). length v.batches + 1) (c.deref.ensures ∙ c.version.ensures)

born_is : (c : After-born_blocks) → c.born_blocks.new.pool
    ≡ marked c.self.inside.prepared.taken.items (Used c.next_number-number.result) c.deref_mut-kept.result.now.pool
born_is c =
    c.born_blocks.ensures ∙ ap (λ ns. marked ns (Used c.next_number-number.result) c.deref_mut-kept.result.now.pool) c.as_slice.ensures.value

pub born_blocks-requires : goal.born_blocks-requires
born_blocks-requires c =
    subst (λ ns. AreInUseOnce ns c.deref_mut-kept.result.now.pool) (sym c.as_slice.ensures.value)
    (taken_once (handed (goal.at.born_blocks-requires c).After-as_slice))

pub move_blocks-requires-clause-dropped : goal.move_blocks-requires-clause-dropped
move_blocks-requires-clause-dropped c =
    let a = (goal.at.move_blocks-requires-clause-dropped c).After-as_slice in
    let b = (goal.at.move_blocks-requires-clause-dropped c).After-born_blocks in
    dropped_once (handed a) c.next_number-number.result c.born_blocks.new.pool (number_is a) (born_is b)

pub move_blocks-requires-clause-unused : goal.move_blocks-requires-clause-unused
move_blocks-requires-clause-unused c =
    let a = (goal.at.move_blocks-requires-clause-unused c).After-as_slice in
    let b = (goal.at.move_blocks-requires-clause-unused c).After-born_blocks in
    unused_once (handed a) c.next_number-number.result c.born_blocks.new.pool (number_is a) (born_is b)

pub invariant_of-result : goal.invariant_of-result
invariant_of-result c =
    let a = (goal.at.invariant_of-result c).After-as_slice in
    let b = (goal.at.invariant_of-result c).After-born_blocks in
    let p = c.deref_mut-kept.result.now in
    let h = handed a in
    let pool = end_pool h c.next_number-number.result c.born_blocks.new.pool c.move_blocks.new.pool (number_is a) (born_is b)
    c.move_blocks.ensures in
    let end = end_desk h p.opened c.follow.new.self c.enter.new.self.entries p.journal.entries
    c.move_blocks.new.pool refl refl c.follow.ensures
    (c.enter.ensures.entered ∙ (λ i. p.journal.entries ++ kept.Applied (batch_value c.self.inside.prepared.batch) (c.of.ensures i)
    (c.of-2.ensures i) ∷ [])) pool in
    let room = (ready a).room in
    end_kept h _ _ _ end (ready a).granted.before.blocks_some
    (c.enter.ensures.keeps ∙ (ready a).granted.before.keeps_are)
    (end_fits h c.move_blocks.new.pool _ (count_by is_retired p.pool) (vec_len c.self.inside.prepared.dropped) pool refl refl
    (omega (arith, room, c.enter.ensures.room)))

pub returns-clause-desk : goal.returns-clause-desk
returns-clause-desk c =
    let a = (goal.at.returns-clause-desk c).After-as_slice in
    let b = (goal.at.returns-clause-desk c).After-born_blocks in
    let p = c.deref_mut-kept.result.now in
    let h = handed a in
    let pool = end_pool h c.next_number-number.result c.born_blocks.new.pool c.move_blocks.new.pool (number_is a) (born_is b)
    c.move_blocks.ensures in
    end_desk h p.opened c.follow.new.self c.enter.new.self.entries p.journal.entries
    c.move_blocks.new.pool refl refl c.follow.ensures
    (c.enter.ensures.entered ∙ (λ i. p.journal.entries ++ kept.Applied (batch_value c.self.inside.prepared.batch) (c.of.ensures i)
    (c.of-2.ensures i) ∷ [])) pool
    ∙ ap (λ (r : ReadyView). r.new)
    (ap (λ (q : Parts). ready_of q c.self.inside.numbers.items c.self.inside.prepared) c.deref_mut-kept.ensures.value ∙ c.self.view_is)
