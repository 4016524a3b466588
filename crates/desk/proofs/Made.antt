-- What is made of a batch that was applied: the same application.
use Rattle.std.proofs.Common.{◌≡◌, ℕ, List, sym, subst, ◌∙◌}
use Rattle.std.proofs.lemmas.List.{length-map}
use Rattle.graph_types.specs.declared.batches.NamedOp.{NamedOp}
use Rattle.graph_version.specs.Versions.{VersionView}
use Rattle.batch_shards.specs.RowBlocks.{block_of, shared_blocks, shared_numbers}
use Rattle.batch_apply.specs.{Applied.IsApplied, declared.applied.Applied.Applied}
use Rattle.store_steps.specs.Acceptances.{IsAppliedTo}

-- with a version and taken numbers that equal those of the application
pub made_of_applied : (v : VersionView) (ops : List NamedOp) (numbers : List ℕ) (a : Applied) (version : VersionView)
    (taken : List ℕ) → version ≡ a.version → taken ≡ a.taken.items → IsApplied v ops numbers a
    → IsAppliedTo v (record {
      batch = ops;
      granted = numbers;
      version = version;
      taken = taken;
      dropped = shared_blocks a.dropped.items;
      unused = shared_numbers a.unused.items;
    })
made_of_applied v ops numbers a version taken same_version same_taken is =
    subst (λ w. IsAppliedTo v (record {
      batch = ops;
      granted = numbers;
      version = w;
      taken = taken;
      dropped = shared_blocks a.dropped.items;
      unused = shared_numbers a.unused.items;
    })) (sym same_version)
    (subst (λ ns. IsAppliedTo v (record {
      batch = ops;
      granted = numbers;
      version = a.version;
      taken = ns;
      dropped = shared_blocks a.dropped.items;
      unused = shared_numbers a.unused.items;
    })) (sym same_taken) (record {
      version = is.version;
      opening = is.opening;
      batches = is.batches;
      exchanged = is.exchanged;
      handed = is.handed;
      layout = is.layout;
      taken_are = is.taken_are;
      dropped_are = length-map a.dropped.items block_of ∙ is.dropped_are;
      births = is.births;
    }))
