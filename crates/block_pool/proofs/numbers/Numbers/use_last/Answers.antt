use Rattle.std.proofs.{Common.{◌∙◌, ◌-◌, ◌+◌, ℕ, List, length, sym, ap, arith}, Math.ListN.length-set}
use Rattle.block_pool.{specs.{Pools.marked, Kept.{statuses, popped}}, proofs.Grants.{popped_more, popped_none}}
use Rattle.block_reclamation.specs.declared.status.BlockStatus.TheVariants.{Granted}
use Rattle.block_pool.proofs.Rooms.{ready_next}
use Rattle.block_pool.proofs.numbers.Numbers.use_last.Goals as goal

pub use_one-requires-clause-kept : goal.use_one-requires-clause-kept
use_one-requires-clause-kept c = c.grant.invariant.kept

pub use_one-requires-clause-ready : goal.use_one-requires-clause-ready
use_one-requires-clause-ready c = c.grant.invariant.ready 0 (omega (arith, c.grant-test.true))

pub grant-preserved : goal.grant-preserved
grant-preserved c =
    let n = c.grant.self in
    record {
      kept = c.use_one.ensures.kept;
      enough = omega (arith, c.grant.invariant.enough, c.use_one.ensures.shorter, c.grant-test.true);
      ready = λ before lt.
          ready_next n c.use_one.new.self c.use_one.ensures.room c.use_one.ensures.shorter
          (omega (arith, c.grant.invariant.enough, c.grant-test.true)) c.grant.invariant.kept.free_in
          (ap length c.use_one.ensures.statuses ∙ length-set (statuses n) _ Granted) c.use_one.ensures.rooms before
          (c.grant.invariant.ready (before + 1) (omega (arith, lt, c.grant-test.true)));
      after =
          ap (λ (room : List ℕ). marked (popped room c.use_one.new.self.free_len (c.grant.left - 1)) Granted
          (statuses c.use_one.new.self)) c.use_one.ensures.room
          ∙ ap (λ len. marked (popped n.free.items len (c.grant.left - 1)) Granted (statuses c.use_one.new.self))
          c.use_one.ensures.shorter
          ∙ ap (marked (popped n.free.items (n.free_len - 1) (c.grant.left - 1)) Granted) c.use_one.ensures.statuses
          ∙ sym (ap (λ ns. marked ns Granted (statuses n))
          (popped_more n.free.items n.free_len c.grant.left (omega (arith, c.grant-test.true))))
          ∙ c.grant.invariant.after;
    }

pub returns-clause-kept : goal.returns-clause-kept
returns-clause-kept c = c.grant.invariant.kept

pub returns-clause-statuses : goal.returns-clause-statuses
returns-clause-statuses c =
    ap (λ ns. marked ns Granted (statuses c.grant.self))
    (sym (popped_none c.grant.self.free.items c.grant.self.free_len c.grant.left (omega (arith, c.grant-test.false))))
    ∙ c.grant.invariant.after
