use Rattle.std.proofs.Common.{◌≡◌, ◌≤◌, ap, sym, subst}
use Rattle.vertex_names.specs.Book.{Book}
use Rattle.batch_apply.specs.Plan.{known}
use Rattle.batch_apply.proofs.Found.{few_known}
use Rattle.batch_apply.proofs.resolve.edge_kind.Goals as goal

pub kind_of-requires : goal.kind_of-requires
kind_of-requires c =
    let after = c.kind_number.new.kinds in
    let names = ap (λ (b : Book). b.names) c.in_ok-number.ensures.kinds in
    few_known after c.args.kind.now c.in_ok-number.number
    (subst (λ ns. c.in_ok-number.number ≡ known ns c.args.kind.now) (sym names) c.in_ok-number.ensures.number)
    c.in_ok-number.ensures.within
    (subst (λ l. l ≤ 64) (sym (ap (λ (b : Book). b.limit) c.in_ok-number.ensures.kinds)) c.requires.limit)
