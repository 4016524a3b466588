use Rattle.std.proofs.{Common.{◌≡◌, ◌∙◌, ◌++◌, ℕ, List, [], arith, drop, sym, ap, subst, append-nil}, lemmas.List.drop_all}
use Rattle.std.specs.{Prelude.◌↔◌, List.Contains, declared.sync.Arc.Arc, declared.alloc.Global.Global}
use Rattle.graph_types.specs.Analyses.{LeadsTo}
use Rattle.edge_block.specs.declared.blocks.Block.{Block}
use Rattle.graph_version.specs.Rows.{row_of}
use Rattle.graph_version.{specs.{Versions.content, Shown.{shown_in, targets_of}}, proofs.{RowTargets.row_targets, Targets.targets_in}}
use Rattle.graph_version.proofs.version_edges.VersionEdgesViewEdges.list_targets.Goals as goal

pub returns : goal.returns
returns c =
    let v = c.args.self.now.version.now in
    let f = c.args.self.now.filter in
    let source = c.args.source in
    let blocks : List (Arc Block Global) = c.row_blocks-block-items.result.now in
    let targets : List ℕ = c.loop-block.targets.items in
    let end : drop c.loop-block.block-index blocks ≡ [] = drop_all c.loop-block.block-index blocks (omega arith) in
    let whole : targets ≡ targets_of (shown_in f (row_of v.rows source)) =
    sym (append-nil targets)
    ∙ ap (λ (bs : List (Arc Block Global)). targets ++ targets_in f bs) (sym end)
    ∙ c.loop-block.invariant
    ∙ ap (λ row. targets_of (shown_in f row)) c.row_blocks-block-items.ensures.blocks in
    λ b. subst (λ (ts : List ℕ). Contains ts b ↔ LeadsTo f (content v) source b) (sym whole)
    (row_targets (content v) v.rows c.row_blocks-block-items.ensures.version.rows f source b)
