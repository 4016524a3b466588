use Rattle.std.proofs.Common.{length, ◌/◌, ◌<◌, ◌∙◌, get_or, ap, arith, sym, ◌%◌}
use Rattle.block_pool.proofs.Paging.{seen_length, seen_at, page_read}
use Rattle.block_pool.proofs.pages.Pages.get.Goals as goal

pub index-requires : goal.index-requires
index-requires g c =
    omega (arith, c.self.invariant.0, c.self.inside.pages.ok.0, c.requires, seen_length _ _ _ _ c.self.view_is)

pub blank-requires : goal.blank-requires
blank-requires g c = omega (arith, c.self.invariant.1, c.requires, seen_length _ _ _ _ c.self.view_is)

pub returns-in-Some : goal.returns-in-Some
returns-in-Some g c =
    let found = c.in-Some.ensures.lookup in
    let within : c.args.place / 4096 < length c.self.inside.pages.items = omega (arith, c.self.invariant.0, c.requires, seen_length _ _ _ _ c.self.view_is) in
    let page = page_read c.self.inside.pages.items _ c.index.result.now c.index.ensures within in
    found.3.1 (g.T.Blank.blank c.args.place)
    ∙ ap (λ p. get_or p (c.args.place % 4096) (g.T.Blank.blank c.args.place)) (c.deref.ensures.value ∙ page)
    ∙ sym (seen_at _ _ _ _ c.self.view_is c.args.place c.in-Some.item.now c.requires)

pub returns-in-None : goal.returns-in-None
returns-in-None g c =
    let past = c.in-None.ensures.lookup in
    let within : c.args.place / 4096 < length c.self.inside.pages.items = omega (arith, c.self.invariant.0, c.requires, seen_length _ _ _ _ c.self.view_is) in
    let page = page_read c.self.inside.pages.items _ c.index.result.now c.index.ensures within in
    c.blank.ensures ∙ past.4 (omega arith) (g.T.Blank.blank c.args.place)
    ∙ ap (λ p. get_or p (c.args.place % 4096) (g.T.Blank.blank c.args.place)) (c.deref.ensures.value ∙ page)
    ∙ sym (seen_at _ _ _ _ c.self.view_is c.args.place c.blank.result c.requires)
