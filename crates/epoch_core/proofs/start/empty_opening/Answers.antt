use Rattle.epoch_core.proofs.start.empty_opening.Goals as goal

pub returns : goal.returns
returns c =
    let names = c.no_items.ensures in
    let kinds = c.no_items-2.ensures in
    let edges = c.no_items-3.ensures in
    let blocks = c.no_items-4.ensures in
    λ i. record { content = record { names = names i; kinds = kinds i; edges = edges i }; blocks = blocks i; limits = c.args.limits }
