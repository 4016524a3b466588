use Rattle.std.proofs.Common.{◌-◌, arith}
use Rattle.block_pool.proofs.{Grants.free_read}
use Rattle.block_pool.proofs.numbers.Numbers.make_ready.Goals as goal

pub overflow_sub-place : goal.overflow_sub-place
overflow_sub-place c = omega (arith, c.requires.some)

pub make-requires : goal.make-requires
make-requires c =
    let n = c.args.self.now in
    (free_read n c.requires.kept (n.free_len - 1 - c.args.before) c.get-number.result (omega (arith, c.requires.some)) c.get-number.ensures).1

pub make-requires-2 : goal.make-requires-2
make-requires-2 c =
    let n = c.args.self.now in
    let is = free_read n c.requires.kept (n.free_len - 1 - c.args.before) c.get-number.result (omega (arith, c.requires.some))
    c.get-number.ensures in
    omega (arith, is.1, c.requires.kept.bound)
