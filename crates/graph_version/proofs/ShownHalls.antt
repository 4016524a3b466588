-- The rows that are shown: those of all halls, up to a length.
use Rattle.std.proofs.Common.{◌≡◌, ℕ, ◌*◌, ◌≤◌, List, [], length, take, get_or, sym, ap, ◌∙◌, arith}
use Rattle.std.proofs.{lemmas.List.{ext_get_or, length-take-le}, Math.ListN.get_or-eq_default}
use Rattle.std.specs.declared.{sync.Arc.Arc, alloc.Global.Global}
use Rattle.edge_block.specs.Slots.{BlockView}
use Rattle.graph_version.specs.{declared.row_hall.Hall.Hall, RowHalls.{AreHalls, in_hall, in_halls}, Differences.SameRows}
use Rattle.list_pieces.proofs.{Full.long, Padded.cut_at}

pub same_len : (len : ℕ) (halls : List (Arc Hall Global)) (rows : List (List BlockView)) → take len (in_halls halls) ≡ rows
    → AreHalls halls → len ≤ length halls * 65536 → length rows ≡ len
same_len len halls rows is are le =
    let whole = long 65536 in_hall halls are in
    ap length (sym is) ∙ length-take-le len (in_halls halls) (omega (arith, whole, le))

-- halls that have the same rows as a list show that list, up to its length
pub shown_same : (len : ℕ) (halls : List (Arc Hall Global)) (rows : List (List BlockView)) → SameRows (in_halls halls) rows
    → length rows ≡ len → AreHalls halls → len ≤ length halls * 65536 → take len (in_halls halls) ≡ rows
shown_same len halls rows same is are le =
    let whole = long 65536 in_hall halls are in
    let cut : length (take len (in_halls halls)) ≡ len = length-take-le len (in_halls halls) (omega (arith, whole, le)) in
    let blank : (s : ℕ) → len ≤ s → get_or (in_halls halls) s [] ≡ [] =
    λ s past. same s ∙ get_or-eq_default rows [] (let end : length rows ≤ s = omega (arith, is, past) in end) in
    ext_get_or [] (take len (in_halls halls)) rows (cut ∙ sym is) (λ s lt. cut_at len (in_halls halls) [] blank s ∙ same s)
