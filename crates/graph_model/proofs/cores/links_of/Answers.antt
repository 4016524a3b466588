use Rattle.std.proofs.{Common.◌∙◌, Common.ap, Common.rules, lemmas.Fn.filter_same, lemmas.List.Filters.dedup_is}
use Rattle.graph_types.specs.Arcs.{two_way}
use Rattle.graph_types.proofs.PairOrder.{is_proper}
use Rattle.graph_model.proofs.Links.{links_done}
use Rattle.graph_model.proofs.cores.links_of.Goals as goal

pub returns : goal.returns
returns c =
    let done =
    links_done c.args.filter c.args.content.now c.requires c.in_ok-links.links.items c.retain.new.self.items
    c.sort_unstable.new.self.items c.dedup.new.self.items
    (c.in_ok-links.ensures ∙ ap two_way (c.deref.ensures.value ∙ c.in_ok-arcs.ensures))
    (filter_same _ is_proper _ (λ x b f' k. search rules) _ _ c.retain.ensures.filtered)
    c.sort_unstable.ensures.permutation c.sort_unstable.ensures.sorted (dedup_is _ _ _ c.dedup.ensures.filtered) in
    record { links = done.0; within = done.1 }
