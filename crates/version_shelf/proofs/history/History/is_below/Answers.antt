use Rattle.graph_types.specs.declared.batches.NamedOp.{NamedOp}
use Rattle.std.proofs.Common.{ap, subst, List, refl}
use Rattle.graph_types.proofs.Prefixes.{below_by}
use mathlib.Core.List.{IsPrefix}
use Rattle.version_shelf.proofs.history.History.is_below.Goals as goal

pub returns : goal.returns
returns c =
    let both = c.learn.new.self.log in
    let this : IsPrefix c.self.inside.seen.log both =
    subst (λ (l : List (List NamedOp)). IsPrefix l both) (ap (λ s. s.log) c.again-both.ensures) c.learn.ensures.2 in
    rw (← c.self.view_is, ← c.other.view_is) (below_by c.self.inside.seen.log c.other.inside.seen.log both c.self.inside.count
    c.other.inside.count c.self.invariant c.other.invariant this c.learn.ensures.3 _ refl)
