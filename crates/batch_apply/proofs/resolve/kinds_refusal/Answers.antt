use Rattle.std.proofs.Common.{◌≤◌, ◌∷◌, length, subst}
use Rattle.graph_types.specs.Parts.{kinds_after, names_after_all}
use Rattle.vertex_names.specs.{Book.Book, declared.book.AddError.AddError}
use Rattle.vertex_names.proofs.Names.{kinds_refused}
use Rattle.batch_apply.{specs.Plan.IsRefusal, proofs.Names.unplanned_kinds}
use Rattle.batch_apply.proofs.resolve.kinds_refusal.Goals as goal

pub returns-in-Ok : goal.returns-in-Ok
returns-in-Ok c op before kinds are refused =
    unplanned_kinds (op ∷ c.args.behind.now) before kinds
    (kinds_refused op c.args.behind.now kinds
    (subst (λ (e : AddError). IsRefusal e kinds (kinds_after op kinds.names)) c.in-NamesFull.is refused))
    (subst (λ (b : Book). length (names_after_all c.args.behind.now b.names) ≤ b.limit) are c.in-Ok.ensures.within)
