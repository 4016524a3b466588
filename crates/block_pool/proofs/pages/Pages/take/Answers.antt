use Rattle.std.proofs.Common.{◌/◌, ◌<◌, ◌∙◌, ap, get_or, set, length, refl, sym, arith, ◌%◌}
use Rattle.std.proofs.lemmas.List.{get_or_read}
use Rattle.block_pool.specs.Paging.{paged}
use Rattle.block_pool.proofs.Paging.{seen_length, seen_at, seen_set, seen_room, item_within, page_read, page_set}
use Rattle.block_pool.proofs.pages.Pages.take.Goals as goal
use Rattle.block_pool.proofs.pages.Pages.take.Goals.{After-index_mut}

pub index_mut-requires-2 : goal.index_mut-requires-2
index_mut-requires-2 g c =
    let within : c.args.place / 4096 < length c.self.inside.pages.items = omega (arith, c.self.invariant.0, c.requires.within, seen_length _ _ _ _ c.self.view_is) in
    let page = ap length (page_read c.self.inside.pages.items _ c.index_mut.result.now c.index_mut.ensures.value within) in
    let low = item_within g.T.Blank.blank _ c.args.place (seen_room _ _ _ _ c.self.view_is c.args.place c.requires.room) in
    omega (arith, page, low, c.index_mut.result.now.ok.0)

pub blank-requires : goal.blank-requires
blank-requires g c = omega (arith, c.self.invariant.1, c.requires.within, seen_length _ _ _ _ c.self.view_is)

pub returns-clause-item : goal.returns-clause-item
returns-clause-item g c =
    let within : c.args.place / 4096 < length c.self.inside.pages.items = omega (arith, c.self.invariant.0, c.requires.within, seen_length _ _ _ _ c.self.view_is) in
    let page = page_read c.self.inside.pages.items _ c.index_mut.result.now c.index_mut.ensures.value within in
    let long = ap length page in
    let low = item_within g.T.Blank.blank _ c.args.place (seen_room _ _ _ _ c.self.view_is c.args.place c.requires.room) in
    c.replace.ensures.value
    ∙ get_or_read c.index_mut.result.now.items _ c.index_mut-2.result.now (omega arith) c.index_mut-2.ensures.value (g.T.Blank.blank c.args.place)
    ∙ ap (λ p. get_or p (c.args.place % 4096) (g.T.Blank.blank c.args.place)) page
    ∙ sym (seen_at _ _ _ _ c.self.view_is c.args.place c.replace.result c.requires.within)

pub returns-clause-left : goal.returns-clause-left
returns-clause-left g c =
    let within : c.args.place / 4096 < length c.self.inside.pages.items = omega (arith, c.self.invariant.0, c.requires.within, seen_length _ _ _ _ c.self.view_is) in
    ap (λ ps. paged g.T.Blank.blank ps c.self.inside.len)
    (page_set c.self.inside.pages.items _ c.index_mut.result.now c.index_mut.ensures.value within c.args.place
    (g.T.Blank.blank c.args.place) _ refl
    (ap (set c.index_mut.result.now.items (c.args.place % 4096)) (c.replace.ensures.after ∙ c.blank.ensures)))
    ∙ seen_set _ _ _ _ c.self.view_is c.args.place (g.T.Blank.blank c.args.place) c.requires.within c.requires.room
