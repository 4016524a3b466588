use Rattle.std.proofs.Common.{◌≡◌, ◌∙◌, ◌*◌, [], replicate, ap, rules, All}
use Rattle.graph_types.proofs.Elements.{each_made}
use Rattle.graph_version.specs.RowPages.{in_page}
use Rattle.list_pieces.proofs.Full.{blank_pieces, blank_flat}
use Rattle.graph_version.proofs.row_group.Group.blank.Goals as goal
use Rattle.graph_version.proofs.row_group.Group.blank.Goals.{In_ok-try_map}

are_blank : (c : In_ok-try_map) → All (λ p. in_page p ≡ replicate 64 []) c.in_ok-try_map.field-0
are_blank c =
    let made = each_made _ 16 c.in_ok-try_map.field-0 c.in_ok-try_map.ensures.ok in
    made (λ p. in_page p ≡ replicate 64 []) (λ page called.
    let same : in_page page ≡ in_page c.in_ok-page.page = search rules in
    same ∙ c.in_ok-page.ensures.ok ∙ c.in_ok-blank.ensures)

pub invariant_of-result : goal.invariant_of-result
invariant_of-result c = let made = (goal.at.invariant_of-result c).In_ok-try_map in
    (blank_pieces 64 in_page made.in_ok-try_map.field-0 [] (are_blank made), made.in_ok-try_map.ensures.ok.long)

pub returns : goal.returns
returns c = let made = (goal.at.returns c).In_ok-try_map in
    blank_flat 64 in_page made.in_ok-try_map.field-0 [] (are_blank made)
    ∙ ap (λ n. replicate (n * 64) []) made.in_ok-try_map.ensures.ok.long
