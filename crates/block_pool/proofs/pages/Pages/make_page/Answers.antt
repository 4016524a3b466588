use Rattle.std.proofs.Common.{◌∙◌, ◌/◌, ◌*◌, ◌+◌, ◌<◌, ap, subst, sym, refl, length, get_or, map, arith}
use Rattle.std.proofs.lemmas.{List.{map-set, length-map}, Result.on_ok_weaker}
use Rattle.block_pool.specs.Paging.{HasRoom, item_in_pages, items_of}
use Rattle.block_pool.proofs.Paging.{seen_length, seen_room, seen_same, same_in, room_made, room_kept, page_read}
use Rattle.block_pool.proofs.pages.Pages.make_page.Goals as goal

pub index_mut-requires : goal.index_mut-requires
index_mut-requires g c =
    omega (arith, c.self.invariant.0, c.self.inside.pages.ok.0, c.requires, seen_length _ _ _ _ c.self.view_is)

pub overflow_sub-self-inside : goal.overflow_sub-self-inside
overflow_sub-self-inside g c = omega (arith, c.requires, seen_length _ _ _ _ c.self.view_is)

pub fill-requires : goal.fill-requires
fill-requires g c =
    omega (arith, c.min.ensures, c.self.invariant.1, c.requires, seen_length _ _ _ _ c.self.view_is)

pub returns-clause-items : goal.returns-clause-items
returns-clause-items g c =
    let vecs = c.self.inside.pages.items in
    let within : c.args.place / 4096 < length vecs =
    omega (arith, c.self.invariant.0, c.requires, seen_length _ _ _ _ c.self.view_is) in
    let before = page_read vecs (c.args.place / 4096) c.index_mut.result.now c.index_mut.ensures.value within in
    seen_same _ _ _ _ c.self.view_is _
    (λ j. ap (λ ps. item_in_pages g.T.Blank.blank ps j) (map-set items_of vecs (c.args.place / 4096) c.fill.new.page)
    ∙ same_in g.T.Blank.blank (map items_of vecs) (c.args.place / 4096) c.fill.new.page.items
    (omega (arith, within, length-map vecs items_of))
    (λ k low. c.fill.ensures.same k
    ∙ ap (λ p. get_or p k (g.T.Blank.blank (c.args.place / 4096 * 4096 + k))) before) j)

pub returns-clause-room : goal.returns-clause-room
returns-clause-room g c =
    let vecs = c.self.inside.pages.items in
    let long = seen_length _ _ _ _ c.self.view_is in
    let within : c.args.place / 4096 < length vecs = omega (arith, c.self.invariant.0, c.requires, long) in
    on_ok_weaker c.fill.result
    (λ enough.
    subst (λ ps. HasRoom (map length ps) c.args.place) (sym (map-set items_of vecs (c.args.place / 4096) c.fill.new.page))
    (room_made (map items_of vecs) (c.args.place / 4096) c.fill.new.page.items (omega (arith, within, length-map vecs items_of))
    c.args.place refl (omega (arith, enough, c.fill.new.page.ok.0, c.min.ensures, c.requires, long))))
    c.fill.ensures.filled

pub returns-clause-kept : goal.returns-clause-kept
returns-clause-kept g c other room =
    let vecs = c.self.inside.pages.items in
    let within : c.args.place / 4096 < length vecs =
    omega (arith, c.self.invariant.0, c.requires, seen_length _ _ _ _ c.self.view_is) in
    let before = ap length (page_read vecs (c.args.place / 4096) c.index_mut.result.now c.index_mut.ensures.value within) in
    subst (λ ps. HasRoom (map length ps) other) (sym (map-set items_of vecs (c.args.place / 4096) c.fill.new.page))
    (room_kept (map items_of vecs) (c.args.place / 4096) c.fill.new.page.items (omega (arith, within, length-map vecs items_of))
    (omega (arith, c.fill.ensures.more, before, c.index_mut.result.now.ok.0, c.fill.new.page.ok.0)) other
    (seen_room _ _ _ _ c.self.view_is other room))
