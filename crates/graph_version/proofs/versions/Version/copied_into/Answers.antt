use Rattle.std.{proofs.Common.{◌≡◌, ◌∙◌, List, map, sym, ap, subst, arith}, specs.declared.{sync.Arc.Arc, alloc.Global.Global}}
use Rattle.graph_types.proofs.ListPlaces.{written}
use Rattle.edge_block.specs.declared.blocks.Block.{Block}
use Rattle.graph_version.specs.{Rows.blocks_of, Rows.numbers_of, Sharing.block_values}
use Rattle.graph_version.specs.{Versions.VersionView, Rebased.AreCopies, Rebased.unnumbered}
use Rattle.graph_version.proofs.Rebased.{numbers_long, mapped_numbers, all_copied}
use Rattle.graph_version.proofs.versions.Version.copied_into.Goals as goal

pub returns : goal.returns
returns c =
    let old : List (Arc Block Global) = c.args.blocks.items in
    let new : List (Arc Block Global) = c.copy_each.new.blocks in
    let numbers : numbers_of (block_values new) ≡ numbers_of (block_values old) = c.in_ok-copy_each.ensures.numbers
    ∙ ap (λ (bs : List (Arc Block Global)). numbers_of (block_values bs)) c.as_mut_slice.ensures.value in
    let same : map unnumbered (block_values new) ≡ map unnumbered (block_values c.in_ok-held.held.items) =
    c.in_ok-copy_each.ensures.same
    ∙ ap (λ (bs : List (Arc Block Global)). map unnumbered (block_values bs)) c.as_slice.ensures.value in
    let held : block_values c.in_ok-held.held.items ≡ blocks_of c.args.self.now.rows =
    c.in_ok-held.ensures ∙ ap (λ (v : VersionView). blocks_of v.rows) c.self.view_is in
    let ok = c.args.blocks.ok in
    let is = written old new c.args.blocks.len (omega (arith, ok.0)) (numbers_long new old numbers) in
    record {
      copies = subst (λ (bs : List (Arc Block Global)). AreCopies c.args.self.now.rows (block_values bs)) (sym is)
          (all_copied c.args.self.now.rows c.in_ok-held.held.items old new same numbers held c.requires.apart);
      numbers = ap (λ (bs : List (Arc Block Global)). numbers_of (block_values bs)) is ∙ mapped_numbers old new numbers;
    }
