use Rattle.std.proofs.{Common.{length, ◌≡◌, ◌∙◌, ℕ, List, sym, ap, ap₂, subst, arith}, Math.ListN.length-set}
use Rattle.block_reclamation.proofs.OneStatus.{retired_not_free}
use Rattle.block_pool.specs.{Chains.{Stacks, stack_of, below_top}, Kept.{top_of, put_on, taken_off}, Paging.HasRoom}
use Rattle.block_pool.proofs.Stacking.{restacked, top_listed, top_absent, top_room, sorted_moved}
use Rattle.block_pool.proofs.numbers.Numbers.move_top.Goals as goal

pub top-number-requires : goal.top-number-requires
top-number-requires c = record { stack = omega (arith, c.requires.kept.sorted.many); some = c.requires.some }

pub pop-requires : goal.pop-requires
pop-requires c = record { stack = omega (arith, c.requires.kept.sorted.many); some = c.requires.some }

pub push-requires : goal.push-requires
push-requires c =
    let n = c.args.self.now in
    let k = c.requires.kept in
    let lists : List (List ℕ) = n.retired.lists in
    let off : c.pop.new.self.lists ≡ taken_off c.args.from lists = ap (λ (s : Stacks). s.lists) c.pop.ensures in
    let bound : c.pop.new.self.bound ≡ n.retired.bound = ap (λ (s : Stacks). s.bound) c.pop.ensures in
    let num : c.top-number.result ≡ top_of (stack_of lists c.args.from) = sym (ap top_of c.top-number.ensures) in
    let is = top_listed k.sorted c.args.from c.requires.from c.requires.some in
    let low = is.0 in
    let room = top_room k.sorted c.args.from c.requires.from c.requires.some c.args.to in
    let there = ap (λ ls. length (stack_of ls c.args.to)) off in
    let many = ap length off in
    let long = length-set lists c.args.from (below_top (stack_of lists c.args.from)) in
    record {
      stack = omega (arith, k.sorted.many, c.requires.to);
      number = omega (arith, k.bound);
      absent = rw (off, num) (top_absent k.sorted c.args.from c.requires.from c.requires.some);
      room = omega (arith, k.bound);
      link = subst (λ (s : Stacks). HasRoom s.rooms c.top-number.result) (sym c.pop.ensures)
          (subst (HasRoom n.retired.rooms) (sym num) (k.roomy.link _ low (retired_not_free _ is.1)));
    }

pub returns-clause-lists : goal.returns-clause-lists
returns-clause-lists c =
    ap (λ (s : Stacks). s.lists) c.push.ensures
    ∙ ap₂ (put_on c.args.to) (sym (ap top_of c.top-number.ensures)) (ap (λ (s : Stacks). s.lists) c.pop.ensures)

pub returns-clause-kept : goal.returns-clause-kept
returns-clause-kept c =
    let k = c.requires.kept in
    restacked c.args.self.now k c.push.new.self _ _
    (ap (λ (s : Stacks). s.bound) c.push.ensures ∙ ap (λ (s : Stacks). s.bound) c.pop.ensures)
    (ap (λ (s : Stacks). s.rooms) c.push.ensures ∙ ap (λ (s : Stacks). s.rooms) c.pop.ensures) k.seats
    (rw (returns-clause-lists c)
    (sorted_moved k.sorted c.args.from c.requires.from c.requires.some c.args.to c.requires.to c.requires.fits))
