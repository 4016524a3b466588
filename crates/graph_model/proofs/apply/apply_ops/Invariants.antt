-- The outcomes so far and those of the operations that are left are those of all, and these leave what all leave.
use Rattle.std.proofs.Common.{◌≡◌, ◌++◌, drop}
use Rattle.graph_types.specs.{Graph.graph_in, Graph.IsContentIn, Step.after_all, Step.outcomes}
use Rattle.graph_model.specs.Drafts.{shown_by}
use Rattle.graph_model.proofs.apply.apply_ops.Given as goal

abbrev pub invariant-loop-op : goal.invariant-loop-op
invariant-loop-op l = record {
  told : l.outcomes.items ++ outcomes (drop l.op-index l.ops) (graph_in l.limits (shown_by l.draft))
      ≡ outcomes l.ops (graph_in l.limits (shown_by l.fn.draft));
  rest : after_all (drop l.op-index l.ops) (graph_in l.limits (shown_by l.draft)) ≡ after_all l.ops (graph_in l.limits (shown_by l.fn.draft));
  content : IsContentIn l.limits (shown_by l.draft);
}
