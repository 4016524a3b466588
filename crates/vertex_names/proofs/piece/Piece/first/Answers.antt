use Rattle.std.proofs.{Common.{◌≡◌, ◌∙◌, ℕ, sym, ap, Some, get_or}, lemmas.List.get_or_default}
use Rattle.vertex_names.{specs.Order.{IsFoundAt, IsGap}, proofs.Entries.{found, missing}}
use Rattle.vertex_names.proofs.piece.Piece.first.Goals as goal

pub returns-in-Ok : goal.returns-in-Ok
returns-in-Ok c =
    let at : IsFoundAt c.self.inside.entries.items c.args.hash c.in-Ok.place = rw c.self.view_is c.in-Ok.ensures.found in
    let value = found c.self.inside.entries.items c.self.invariant c.args.hash c.in-Ok.place at in
    let read : get_or c.self.inside.entries.items c.in-Ok.place (0, 0) ≡ c.index.result.now =
    get_or_default c.self.inside.entries.items c.in-Ok.place (0, 0) c.index.result.now at.within ∙ sym c.index.ensures in
    rw (← c.self.view_is) (sym (value ∙ ap (λ (p : ℕ × ℕ). Some p.1) read))

pub returns-in-Err : goal.returns-in-Err
returns-in-Err c =
    let gap : IsGap c.self.inside.entries.items c.args.hash c.in-Err.field-0 = rw c.self.view_is c.in-Err.ensures.absent in
    rw (← c.self.view_is) (sym (missing c.self.inside.entries.items c.self.invariant c.args.hash c.in-Err.field-0 gap))
