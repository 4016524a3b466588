use Rattle.std.proofs.Common.{◌≡◌, ◌<◌, List, length, get_or, sym, ap, ◌∙◌, arith}
use Rattle.std.proofs.lemmas.List.{get_or-map, length-map}
use Rattle.std.specs.declared.{sync.Arc.Arc, alloc.Global.Global}
use Rattle.edge_block.specs.{declared.blocks.Block.Block, Slots.BlockView}
use Rattle.graph_version.specs.Sharing.{block_value, block_values}
use Rattle.version_diff.proofs.LeftOut.{at_place}
use Rattle.version_diff.proofs.left.place_of.Goals as goal

pub returns-then-number-clause-there : goal.returns-then-number-clause-there
returns-then-number-clause-there c =
    let blocks : List (Arc Block Global) = c.args.blocks.now in
    let i = c.loop-place.place in
    let block : Arc Block Global = c.index-blocks-place.result in
    let wanted : BlockView = c.args.wanted.now in
    let low : i < length blocks = c.loop-place-test.true in
    let many : length (block_values blocks) ≡ length blocks = length-map blocks block_value in
    let found : get_or (block_values blocks) i wanted ≡ c.deref.result.now =
    get_or-map block_value blocks i block wanted low ∙ ap block_value (sym c.index-blocks-place.is) ∙ sym c.deref.ensures in
    let number : (get_or (block_values blocks) i wanted).number ≡ wanted.number =
    ap (λ (b : BlockView). b.number) found ∙ sym c.number.ensures ∙ c.if-number.true ∙ c.number-in-loop-place.ensures in
    let same : get_or (block_values blocks) i wanted ≡ wanted =
    c.requires.alike i wanted (omega (arith, low, many)) number in
    at_place blocks i block wanted low (ap block_value (sym c.index-blocks-place.is) ∙ sym c.deref.ensures ∙ sym found ∙ same)
