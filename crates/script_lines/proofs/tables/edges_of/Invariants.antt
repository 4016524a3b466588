use Rattle.std.{proofs.Common.{◌≡◌, ◌≤◌, sum_by, take, ◌*◌, ◌^◌}, specs.Prelude.zip}
use Rattle.script_lines.proofs.tables.edges_of.Given as goal

abbrev pub invariant-loop-vertex : goal.invariant-loop-vertex
invariant-loop-vertex l =
    (l.edges ≡ sum_by (λ entry. entry.1.outgoing) (take l.vertex (zip l.names.names l.degrees)))
    × (l.edges ≤ l.vertex * 2 ^ 32)
