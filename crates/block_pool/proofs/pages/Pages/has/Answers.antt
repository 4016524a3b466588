use Rattle.std.proofs.Common.{◌%◌, ◌/◌, ◌<◌, ap, length, map, arith}
use Rattle.std.proofs.lemmas.Bool.Decides.{nat_tests}
use Rattle.graph_types.proofs.ListPlaces.{room_in}
use Rattle.block_pool.specs.Paging.{items_of}
use Rattle.block_pool.proofs.Paging.{seen_length, seen_room_of, page_read}
use Rattle.block_pool.proofs.pages.Pages.has.Goals as goal

pub index-requires : goal.index-requires
index-requires g c =
    omega (arith, c.self.invariant.0, c.self.inside.pages.ok.0, c.requires, seen_length _ _ _ _ c.self.view_is)

pub returns : goal.returns
returns g c = λ there.
    let within : c.args.place / 4096 < length c.self.inside.pages.items =
    omega (arith, c.self.invariant.0, c.requires, seen_length _ _ _ _ c.self.view_is) in
    let pages = map items_of c.self.inside.pages.items in
    let page = ap length (page_read c.self.inside.pages.items _ c.index.result.now c.index.ensures within) in
    let low : c.args.place % 4096 < c.len.result = grind (arith, nat_tests, there) in
    seen_room_of _ _ _ _ c.self.view_is c.args.place
    (omega (arith, low, c.len.ensures, c.index.result.now.ok.0, page, room_in pages (c.args.place / 4096)))
