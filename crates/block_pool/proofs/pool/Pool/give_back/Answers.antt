use Rattle.std.proofs.Common.{◌≡◌, rules, sym, subst, true}
use Rattle.block_pool.specs.{Pools.is_in_use_at, Kept.statuses}
use Rattle.block_pool.proofs.Tallies.{used_at}
use Rattle.block_pool.proofs.pool.Pool.give_back.Goals as goal

pub set-requires-clause-room : goal.set-requires-clause-room
set-requires-clause-room c =
    let n = c.self.inside.numbers in
    let at = used_at (statuses n) c.args.number
    (subst (λ ps. is_in_use_at ps c.args.number ≡ true) (sym c.self.view_is) c.requires.in_use) in
    c.self.invariant.2 c.args.number at.within at.not_free

pub returns : goal.returns
returns c = search rules
