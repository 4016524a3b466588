use Rattle.std.proofs.Common.{◌≡◌, ◌++◌, ℕ, List, drop, map, All}
use Rattle.edge_block.specs.Batches.{resolved_by}
use Rattle.graph_types.specs.Parts.{names_after_all, kinds_after_all}
use Rattle.batch_apply.specs.{Plan.{shown_op, Fits, IsInRange, IsSeen}, Listed.{AreKnown, AreNoted}}
use Rattle.batch_apply.proofs.naming.resolve_batch.Given as goal

-- what is left of the operations leaves what all leave
abbrev pub invariant-loop-k : goal.invariant-loop-k
invariant-loop-k l = record {
  names : names_after_all (drop l.k l.ops) l.names.names ≡ names_after_all l.ops l.initial.names.names;
  kinds : kinds_after_all (drop l.k l.ops) l.kinds.names ≡ kinds_after_all l.ops l.initial.kinds.names;
  found : map shown_op l.found.items ++ resolved_by l.most (drop l.k l.ops) l.names.names l.kinds.names
      ≡ resolved_by l.most l.ops l.initial.names.names l.initial.kinds.names;
  changes : All IsInRange l.found.items;
  limit : l.names.limit ≡ l.initial.names.limit;
  few : l.kinds.limit ≡ l.initial.kinds.limit;
  within : Fits l.names × Fits l.kinds;
  seen : IsSeen l.kinds.names l.seen;
  known : (name : ℕ → List ℕ) × AreKnown name l.names.names (drop l.k l.ops) l.known l.k
      × AreNoted name l.names.names l.noted.items;
}
