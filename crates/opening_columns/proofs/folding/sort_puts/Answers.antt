use Rattle.std.proofs.Common.{rules}
use Rattle.std.proofs.lemmas.List.Sorted.{IsNonDecreasingBy-from_sort_by_key, All-permutation, answers_always}
use Rattle.opening_columns.specs.{Puts.IsPut}
use Rattle.opening_columns.proofs.PutMaps.{put_number, sorted_after}
use Rattle.opening_columns.proofs.folding.sort_puts.Goals as goal

pub returns-clause-rising : goal.returns-clause-rising
returns-clause-rising c =
    IsNonDecreasingBy-from_sort_by_key put_number c.sort_by_key.new.self.items c.in_ok-sort_by_key.ensures.sorted
    (λ a r q k. search rules)

pub returns-clause-same : goal.returns-clause-same
returns-clause-same c = λ t most edges.
    sorted_after t most c.args.puts.now.items c.sort_by_key.new.self.items edges
    (c.in_ok-sort_by_key.ensures.stable put_number (answers_always _ _ _ (λ f a r g h. search rules)))

pub returns-clause-each : goal.returns-clause-each
returns-clause-each c = λ t all.
    All-permutation (IsPut t) c.args.puts.now.items c.sort_by_key.new.self.items c.in_ok-sort_by_key.ensures.permutation all
