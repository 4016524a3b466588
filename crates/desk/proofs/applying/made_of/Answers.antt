use Rattle.std.proofs.Common.{◌≡◌, refl, sym, ap, subst, ◌∙◌}
use Rattle.std.specs.Arc.{arc_value}
use Rattle.graph_version.specs.{Batches.batch_value, Differences.DifferAt, declared.versions.Version.Version, Versions.VersionView}
use Rattle.batch_shards.specs.RowBlocks.{shared_numbers}
use Rattle.desk.proofs.Made.{made_of_applied}
use Rattle.desk.proofs.applying.made_of.Goals as goal

pub returns : goal.returns
returns c = λ v numbers is.
    let version : arc_value {X = Version} c.in_ok-version.version ≡ c.args.rewritten.applied.version = c.in_ok-version.ensures.ok in
    record {
      applied = made_of_applied v (batch_value c.args.batch) numbers c.args.rewritten.applied _ c.args.rewritten.applied.taken.items
          version refl is.applied;
      outcomes_are = is.applied.outcomes_are;
      batch_is = refl;
      dropped_are = c.in_ok-dropped_numbers.ensures ∙ ap shared_numbers c.as_slice.ensures.value;
      rows_are = subst (λ (w : VersionView). DifferAt c.args.rewritten.sources.items v.rows w.rows) (sym version) is.rows;
    }
