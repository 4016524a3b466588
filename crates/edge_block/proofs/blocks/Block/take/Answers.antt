use Rattle.std.proofs.Common.{◌≡◌, false, ◌∙◌, ap, sym, arith, refl}
use Rattle.std.specs.{List.list_any, declared.option.Option.TheVariants.None}
use Rattle.edge_block.{specs.Slots.{take_slot, holds}, proofs.{Firsts.at_first-none, Places.{none_holds, take_at}}}
use Rattle.edge_block.proofs.{Times.times_taken, KeptColumns.{after_take, columns_take, same_block}}
use Rattle.edge_block.proofs.blocks.Block.take.Goals as goal

pub returns-in_default-clause-slots : goal.returns-in_default-clause-slots
returns-in_default-clause-slots c =
    let absent : list_any (holds c.args.target) c.args.self.now.slots ≡ false =
    rw (← c.self.view_is)
    (none_holds c.self.inside.live c.self.inside.targets c.self.inside.weights c.self.inside.firsts c.self.inside.recents
    c.args.target c.self.told.0 (rw c.in_default.is at c.find_target.ensures)) in
    same_block c.args.self.now c.args.self.now _ _ refl
    (sym (at_first-none (holds c.args.target) (λ _. None) c.args.self.now.slots absent))

pub returns-in_default-clause-taken : goal.returns-in_default-clause-taken
returns-in_default-clause-taken c =
    rw (← c.self.view_is)
    (sym
    (none_holds c.self.inside.live c.self.inside.targets c.self.inside.weights c.self.inside.firsts c.self.inside.recents
    c.args.target c.self.told.0 (rw c.in_default.is at c.find_target.ensures)))

pub invariant_of-self : goal.invariant_of-self
invariant_of-self c =
    let found = rw c.in-Some.is at c.find_target.ensures in (
      columns_take c.self.inside.live c.self.inside.targets c.self.inside.weights c.self.inside.firsts c.self.inside.recents
          c.args.target c.in-Some.place found.0.within (omega (arith, found.0.within, c.self.told.0))
          (after_take c.self.inside.live c.self.inside.targets c.self.inside.weights c.self.inside.firsts c.self.inside.recents
          c.args.target c.in-Some.place c.self.told.0 found.0 found.1) c.self.invariant.0,
      (rw c.unwrap_or-times.ensures
          (times_taken c.self.inside.live c.self.inside.recents c.in-Some.place c.bounds_without-others.result c.self.inside.times
          (omega arith) c.self.told.3 c.bounds_without-others.ensures)),
    )

pub returns-clause-slots : goal.returns-clause-slots
returns-clause-slots c =
    let found = rw c.in-Some.is at c.find_target.ensures in
    same_block _ _ _ _ c.self.view_is
    (after_take c.self.inside.live c.self.inside.targets c.self.inside.weights c.self.inside.firsts c.self.inside.recents
    c.args.target c.in-Some.place c.self.told.0 found.0 found.1
    ∙ ap (λ b. take_slot c.args.target b.slots) c.self.view_is)

pub returns-clause-taken : goal.returns-clause-taken
returns-clause-taken c =
    let found = rw c.in-Some.is at c.find_target.ensures in
    rw (← c.self.view_is)
    (sym
    (take_at c.self.inside.live c.self.inside.targets c.self.inside.weights c.self.inside.firsts c.self.inside.recents
    c.args.target c.in-Some.place c.self.told.0 found.0 found.1).0)
