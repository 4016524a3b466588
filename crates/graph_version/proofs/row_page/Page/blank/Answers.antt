use Rattle.std.proofs.Common.{◌≡◌, ◌∙◌, ◌*◌, [], replicate, sym, subst, ap, rules, All}
use Rattle.graph_types.proofs.Elements.{each_made}
use Rattle.graph_version.specs.{Ages.AreSince, Parts.{in_part, in_parts}}
use Rattle.list_pieces.proofs.Full.{blank_pieces, blank_flat}
use Rattle.graph_version.proofs.Ages.{bounded_blank}
use Rattle.graph_version.proofs.row_page.Page.blank.Goals as goal
use Rattle.graph_version.proofs.row_page.Page.blank.Goals.{In_ok-try_map}

are_blank : (c : In_ok-try_map) → All (λ p. in_part p ≡ replicate 8 []) c.in_ok-try_map.field-0
are_blank c =
    let made = each_made _ 8 c.in_ok-try_map.field-0 c.in_ok-try_map.ensures.ok in
    made (λ p. in_part p ≡ replicate 8 []) (λ part called.
    let same : in_part part ≡ in_part c.in_ok-part.part = search rules in
    same ∙ c.in_ok-part.ensures.ok ∙ c.blank.ensures)

flat : (c : In_ok-try_map) → in_parts c.in_ok-try_map.field-0 ≡ replicate 64 []
flat c = blank_flat 8 in_part c.in_ok-try_map.field-0 [] (are_blank c)
    ∙ ap (λ n. replicate (n * 8) []) c.in_ok-try_map.ensures.ok.long

pub invariant_of-result : goal.invariant_of-result
invariant_of-result c = let made = (goal.at.invariant_of-result c).In_ok-try_map in (
  blank_pieces 8 in_part made.in_ok-try_map.field-0 [] (are_blank made),
  made.in_ok-try_map.ensures.ok.long,
  subst (AreSince 18446744073709551615) (sym (flat made)) (bounded_blank 18446744073709551615 64),
)

pub returns : goal.returns
returns c = flat (goal.at.returns c).In_ok-try_map
