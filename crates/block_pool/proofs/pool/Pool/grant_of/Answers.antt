use Rattle.std.proofs.Common.{◌≡◌, ℕ, List, ◌∙◌, ◌≤◌, length, sym, ap, ap₂, subst, count_by, arith}
use Rattle.block_pool.specs.{declared.numbers.Numbers.Numbers, Pools.{AreFree, AreBodies, marked}, Kept.{statuses, popped, IsRoomier}, Paging.HasRoom}
use Rattle.block_reclamation.specs.{declared.status.BlockStatus.TheVariants.Granted, Status.is_free}
use Rattle.block_pool.proofs.{Grants.{free_listed, popped_free, popped_at, length-popped, length-marked}, Rooms.room_for_marked}
use Rattle.block_pool.proofs.pool.Pool.grant_of.Goals as goal

pub gather-requires-clause-enough : goal.gather-requires-clause-enough
gather-requires-clause-enough c =
    let free = free_listed c.self.inside.numbers c.self.invariant.0 in
    omega (arith, free, ap (count_by is_free) c.self.view_is, c.free-free.ensures, c.if-asked-free.false, c.requires)

pub use_last-requires-clause-enough : goal.use_last-requires-clause-enough
use_last-requires-clause-enough c =
    let free = free_listed c.self.inside.numbers c.self.invariant.0 in
    omega (arith, free, ap (count_by is_free) c.self.view_is, c.free-free.ensures, c.if-asked-free.false, c.requires, c.gather.ensures.same.free_len)

-- the same numbers are taken of those with memory for more
taken_alike : (n now : Numbers) → IsRoomier n now → (count : ℕ)
    → marked (popped now.free.items now.free_len count) Granted (statuses now) ≡ marked (popped n.free.items n.free_len count) Granted (statuses n)
taken_alike n now same count =
    ap (marked (popped now.free.items now.free_len count) Granted) same.same
    ∙ ap (λ ns. marked ns Granted (statuses n)) (ap₂ (λ room len. popped room len count) same.free same.free_len)

pub invariant_of-self-2 : goal.invariant_of-self-2
invariant_of-self-2 c =
    let n = c.self.inside.numbers in
    let count : ℕ = c.args.count in
    let numbers : List ℕ = popped n.free.items n.free_len count in
    let free = free_listed n c.self.invariant.0 in
    let enough : count ≤ n.free_len =
    omega (arith, free, ap (count_by is_free) c.self.view_is, c.free-free.ensures, c.if-asked-free.false, c.requires) in
    let now = c.use_last.ensures.statuses ∙ taken_alike n c.gather.new.numbers c.gather.ensures.same count in
    let same = sym (ap length now ∙ length-marked numbers Granted (statuses n)) in (
      c.use_last.ensures.kept,
      subst (λ (m : ℕ). AreBodies m c.gather.new.bodies.items) same c.gather.ensures.bodies,
      rw now
          (room_for_marked numbers (statuses n) c.gather.new.bodies.rooms c.gather.ensures.rooms
          (λ i lt.
          subst (HasRoom c.gather.new.bodies.rooms)
          (sym (popped_at n.free.items n.free_len count i 0 (omega (arith, lt, length-popped n.free.items n.free_len count)) enough))
          (c.in_ok-grant.ensures.taken i (omega (arith, lt, length-popped n.free.items n.free_len count))))),
    )

pub returns-clause-used : goal.returns-clause-used
returns-clause-used c =
    let n = c.self.inside.numbers in
    c.use_last.ensures.statuses ∙ taken_alike n c.gather.new.numbers c.gather.ensures.same c.args.count
    ∙ ap (λ ns. marked ns Granted (statuses n)) (sym c.in_ok-grant.ensures.numbers)
    ∙ ap (marked c.in_ok-grant.grant.numbers.items Granted) c.self.view_is

pub returns-clause-numbers : goal.returns-clause-numbers
returns-clause-numbers c =
    let n = c.self.inside.numbers in
    let kept = c.self.invariant.0 in
    let free = free_listed n kept in
    let enough : c.args.count ≤ n.free_len =
    omega (arith, free, ap (count_by is_free) c.self.view_is, c.free-free.ensures, c.if-asked-free.false, c.requires) in (
      subst (AreFree c.args.self.now) (sym c.in_ok-grant.ensures.numbers)
          (subst (λ pool. AreFree pool (popped n.free.items n.free_len c.args.count)) c.self.view_is
          (popped_free (statuses n) n.free_len n.free.items c.args.count kept.free_are
          (omega (arith, kept.free_in, kept.free_room)) enough)),
      ap length c.in_ok-grant.ensures.numbers ∙ length-popped n.free.items n.free_len c.args.count,
    )
