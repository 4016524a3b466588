use Rattle.std.proofs.Common.{◌≡◌, ◌++◌, ℕ, drop}
use Rattle.graph_version.specs.Sharing.{block_values}
use Rattle.version_diff.specs.{Differences.{seen_in, AreApart, difference_of}, Pairs.AreSameByNumber}
use Rattle.version_diff.proofs.left.left_of.Given as goal

-- What is left so far, with what is still to come, has the same difference.
abbrev pub invariant-loop-block : goal.invariant-loop-block
invariant-loop-block l = record {
  earlier : AreApart (seen_in l.view (block_values l.gone.items) ++ seen_in l.view (block_values l.rest));
  later : AreApart (seen_in l.view (block_values l.came.items) ++ seen_in l.view (block_values (drop l.block-index l.later)));
  same : (source : ℕ)
      → difference_of source (seen_in l.view (block_values l.gone.items) ++ seen_in l.view (block_values l.rest))
      (seen_in l.view (block_values l.came.items) ++ seen_in l.view (block_values (drop l.block-index l.later)))
      ≡ difference_of source (seen_in l.view (block_values l.earlier)) (seen_in l.view (block_values l.later));
  alike : AreSameByNumber (block_values l.rest) (block_values l.later);
}
