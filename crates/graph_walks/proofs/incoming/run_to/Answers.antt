use Rattle.std.proofs.Common.{◌≡◌, ◌≤◌, length, arith, rules, true, false}
use Rattle.std.proofs.lemmas.List.Sorted.{IsPartitionPoint-from_clause, IsPartitionedBy-leb, IsPartitionedBy-ltb}
use Rattle.std.specs.{Prelude.{nat_lt, nat_le}, List.Sorted.IsPartitionPoint}
use Rattle.graph_types.specs.declared.ids.{Edge.Edge}
use Rattle.graph_walks.proofs.Runs.{between_is, in_order}
use Rattle.graph_walks.proofs.incoming.run_to.Goals as goal

pub slice_bounds-result-count : goal.slice_bounds-result-count
slice_bounds-result-count c =
    let xs = c.args.edges.now in
    let t = c.args.target in
    let b = c.partition_point-begin.result in
    let e = c.partition_point-end.result in
    let at_b : IsPartitionPoint (λ (y : Edge). nat_lt y.target.0 t ≡ true) (λ (y : Edge). nat_lt y.target.0 t ≡ false) xs b =
    IsPartitionPoint-from_clause (λ (y : Edge). nat_lt y.target.0 t) xs b c.partition_point-begin.ensures.partitioned
    (IsPartitionedBy-ltb (λ (y : Edge). y.target.0) xs t c.requires) (λ a r f k. search rules) in
    let at_e : IsPartitionPoint (λ (y : Edge). nat_le y.target.0 t ≡ true) (λ (y : Edge). nat_le y.target.0 t ≡ false) xs e =
    IsPartitionPoint-from_clause (λ (y : Edge). nat_le y.target.0 t) xs e c.partition_point-end.ensures.partitioned
    (IsPartitionedBy-leb (λ (y : Edge). y.target.0) xs t c.requires) (λ a r f k. search rules) in
    let order : b ≤ e = in_order (λ (y : Edge). y.target.0) t xs b e c.partition_point-begin.ensures.bound
    c.partition_point-end.ensures.bound at_b at_e in
    omega arith

pub slice_bounds-result-start : goal.slice_bounds-result-start
slice_bounds-result-start c =
    let xs = c.args.edges.now in
    let t = c.args.target in
    let b = c.partition_point-begin.result in
    let e = c.partition_point-end.result in
    let at_b : IsPartitionPoint (λ (y : Edge). nat_lt y.target.0 t ≡ true) (λ (y : Edge). nat_lt y.target.0 t ≡ false) xs b =
    IsPartitionPoint-from_clause (λ (y : Edge). nat_lt y.target.0 t) xs b c.partition_point-begin.ensures.partitioned
    (IsPartitionedBy-ltb (λ (y : Edge). y.target.0) xs t c.requires) (λ a r f k. search rules) in
    let at_e : IsPartitionPoint (λ (y : Edge). nat_le y.target.0 t ≡ true) (λ (y : Edge). nat_le y.target.0 t ≡ false) xs e =
    IsPartitionPoint-from_clause (λ (y : Edge). nat_le y.target.0 t) xs e c.partition_point-end.ensures.partitioned
    (IsPartitionedBy-leb (λ (y : Edge). y.target.0) xs t c.requires) (λ a r f k. search rules) in
    let order : b ≤ e = in_order (λ (y : Edge). y.target.0) t xs b e c.partition_point-begin.ensures.bound
    c.partition_point-end.ensures.bound at_b at_e in
    omega arith

pub returns : goal.returns
returns c =
    let xs = c.args.edges.now in
    let t = c.args.target in
    let b = c.partition_point-begin.result in
    let e = c.partition_point-end.result in
    let at_b : IsPartitionPoint (λ (y : Edge). nat_lt y.target.0 t ≡ true) (λ (y : Edge). nat_lt y.target.0 t ≡ false) xs b =
    IsPartitionPoint-from_clause (λ (y : Edge). nat_lt y.target.0 t) xs b c.partition_point-begin.ensures.partitioned
    (IsPartitionedBy-ltb (λ (y : Edge). y.target.0) xs t c.requires) (λ a r f k. search rules) in
    let at_e : IsPartitionPoint (λ (y : Edge). nat_le y.target.0 t ≡ true) (λ (y : Edge). nat_le y.target.0 t ≡ false) xs e =
    IsPartitionPoint-from_clause (λ (y : Edge). nat_le y.target.0 t) xs e c.partition_point-end.ensures.partitioned
    (IsPartitionedBy-leb (λ (y : Edge). y.target.0) xs t c.requires) (λ a r f k. search rules) in
    between_is (λ (y : Edge). y.target.0) t xs b e c.partition_point-begin.ensures.bound c.partition_point-end.ensures.bound at_b at_e
