use Rattle.std.proofs.Common.{◌/◌, ◌<◌, ap, length, map, arith}
use Rattle.graph_types.proofs.ListPlaces.{room_in}
use Rattle.block_pool.specs.Paging.{items_of}
use Rattle.block_pool.proofs.Paging.{seen_length, seen_room_of, page_read}
use Rattle.block_pool.proofs.pages.Pages.make.Goals as goal

pub index-requires : goal.index-requires
index-requires g c =
    omega (arith, c.self.invariant.0, c.self.inside.pages.ok.0, c.requires, seen_length _ _ _ _ c.self.view_is)

pub returns-then-place-len-clause-room : goal.returns-then-place-len-clause-room
returns-then-place-len-clause-room g c =
    let within : c.args.place / 4096 < length c.self.inside.pages.items =
    omega (arith, c.self.invariant.0, c.requires, seen_length _ _ _ _ c.self.view_is) in
    let pages = map items_of c.self.inside.pages.items in
    let page = ap length (page_read c.self.inside.pages.items _ c.index.result.now c.index.ensures within) in
    seen_room_of _ _ _ _ c.self.view_is c.args.place
    (omega (arith, c.if-place-len.true, c.len.ensures, c.index.result.now.ok.0, page, room_in pages (c.args.place / 4096)))
