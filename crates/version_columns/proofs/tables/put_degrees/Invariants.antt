use Rattle.std.proofs.Common.{◌≡◌, map, take}
use Rattle.version_columns.proofs.tables.put_degrees.Given as goal

abbrev pub invariant-loop-place : goal.invariant-loop-place
invariant-loop-place l = record {
  outgoing : take l.place l.outgoing ≡ map (λ d. d.outgoing) (take l.place l.table);
  incoming : take l.place l.incoming ≡ map (λ d. d.incoming) (take l.place l.table);
  weights : take l.place l.weights ≡ map (λ d. d.out_weight) (take l.place l.table);
}
