use Rattle.vertex_names.{specs.Order.{IsFoundAt, IsGap}, proofs.Entries.{put-found, rising-found, put-missing, rising-missing}}
use Rattle.vertex_names.proofs.piece.Piece.put.Goals as goal

pub invariant_of-self : goal.invariant_of-self
invariant_of-self c =
    let at : IsFoundAt c.self.inside.entries.items c.args.hash c.in-Ok.place = rw c.self.view_is c.in-Ok.ensures.found in
    rising-found c.self.inside.entries.items c.self.invariant c.args.hash c.in-Ok.place at c.args.number

pub invariant_of-self-in-Err : goal.invariant_of-self-in-Err
invariant_of-self-in-Err c =
    let gap : IsGap c.self.inside.entries.items c.args.hash c.in-Err.place = rw c.self.view_is c.in-Err.ensures.absent in
    rw c.in_ok-enter-in-Err.ensures.entered
    (rising-missing c.self.inside.entries.items c.self.invariant c.args.hash c.in-Err.place gap c.args.number)

pub returns-in-Ok-clause-put : goal.returns-in-Ok-clause-put
returns-in-Ok-clause-put c =
    let at : IsFoundAt c.self.inside.entries.items c.args.hash c.in-Ok.place = rw c.self.view_is c.in-Ok.ensures.found in
    rw (← c.self.view_is)
    (put-found c.self.inside.entries.items c.self.invariant c.args.hash c.in-Ok.place at c.args.number)

pub returns-in_ok-enter-in-Err-clause-put : goal.returns-in_ok-enter-in-Err-clause-put
returns-in_ok-enter-in-Err-clause-put c =
    let gap : IsGap c.self.inside.entries.items c.args.hash c.in-Err.place = rw c.self.view_is c.in-Err.ensures.absent in
    rw (c.in_ok-enter-in-Err.ensures.entered, ← c.self.view_is)
    (put-missing c.self.inside.entries.items c.self.invariant c.args.hash c.in-Err.place gap c.args.number)
