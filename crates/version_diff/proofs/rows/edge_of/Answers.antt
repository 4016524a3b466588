use Rattle.std.proofs.Common.{◌≡◌, true, false, None, Some, sym, ap, ◌∙◌, rules}
use Rattle.std.specs.Prelude.{if◌then◌else◌}
use Rattle.edge_block.specs.Lending.{LentEdge, lent_edge}
use Rattle.version_diff.specs.Differences.{seen_in_block, edge_to, sees}
use Rattle.version_diff.proofs.Seen.{shown_to}
use Rattle.version_diff.proofs.rows.edge_of.Goals as goal

pub returns-then-sees : goal.returns-then-sees
returns-then-sees c =
    let f = c.args.view.now in
    let b = c.args.block.now in
    let e : LentEdge = lent_edge c.in_ok-edge.edge in
    let is = c.in_ok-edge.ensures.edge in
    let same : b.kind ≡ c.args.kind.0 = search rules in
    let yes : sees f e ≡ true = sym c.sees.ensures ∙ c.if-sees.true in
    sym (ap (λ k. edge_to (seen_in_block f b) k c.args.target) (sym same)
    ∙ shown_to f b c.args.target e c.find.ensures.block is.of_kind is.to_target is.stands ∙ ap (λ t. if t then Some e else None) yes)

pub returns-else-sees : goal.returns-else-sees
returns-else-sees c =
    let f = c.args.view.now in
    let b = c.args.block.now in
    let e : LentEdge = lent_edge c.in_ok-edge.edge in
    let is = c.in_ok-edge.ensures.edge in
    let same : b.kind ≡ c.args.kind.0 = search rules in
    let no : sees f e ≡ false = sym c.sees.ensures ∙ c.if-sees.false in
    sym (ap (λ k. edge_to (seen_in_block f b) k c.args.target) (sym same)
    ∙ shown_to f b c.args.target e c.find.ensures.block is.of_kind is.to_target is.stands ∙ ap (λ t. if t then Some e else None) no)
