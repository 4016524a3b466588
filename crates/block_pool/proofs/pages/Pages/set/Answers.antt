use Rattle.std.proofs.Common.{◌/◌, ◌<◌, ◌∙◌, ap, length, refl, arith}
use Rattle.block_pool.specs.Paging.{paged}
use Rattle.block_pool.proofs.Paging.{seen_length, seen_set, seen_room, item_within, page_read, page_set}
use Rattle.block_pool.proofs.pages.Pages.set.Goals as goal

pub index_mut-requires-2 : goal.index_mut-requires-2
index_mut-requires-2 g c =
    let within : c.args.place / 4096 < length c.self.inside.pages.items = omega (arith, c.self.invariant.0, c.requires.within, seen_length _ _ _ _ c.self.view_is) in
    let page = ap length (page_read c.self.inside.pages.items _ c.index_mut.result.now c.index_mut.ensures.value within) in
    let low = item_within g.T.Blank.blank _ c.args.place (seen_room _ _ _ _ c.self.view_is c.args.place c.requires.room) in
    omega (arith, page, low, c.index_mut.result.now.ok.0)

pub returns : goal.returns
returns g c =
    let within : c.args.place / 4096 < length c.self.inside.pages.items = omega (arith, c.self.invariant.0, c.requires.within, seen_length _ _ _ _ c.self.view_is) in
    ap (λ ps. paged g.T.Blank.blank ps c.self.inside.len)
    (page_set c.self.inside.pages.items _ c.index_mut.result.now c.index_mut.ensures.value within c.args.place c.args.item _ refl refl)
    ∙ seen_set _ _ _ _ c.self.view_is c.args.place c.args.item c.requires.within c.requires.room
