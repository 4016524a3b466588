use Rattle.std.proofs.Common.{sym, subst, All}
use Rattle.std.specs.List.Sorted.{IsNonDecreasingBy}
use Rattle.batch_columns.specs.Operations.{table_of}
use Rattle.opening_columns.specs.{Puts.IsPut}
use Rattle.opening_columns.proofs.{Opened.left_is, PutMaps.put_number}
use Rattle.opening_columns.proofs.making.left_by.Goals as goal

pub folded-requires-clause-puts : goal.folded-requires-clause-puts
folded-requires-clause-puts c =
    subst (All (IsPut (table_of c.args.columns.now))) (sym c.as_slice.ensures.value)
    (c.in-Ok.ensures.each (table_of c.args.columns.now) c.in_ok-names.ensures.puts)

pub folded-requires-clause-rising : goal.folded-requires-clause-rising
folded-requires-clause-rising c = subst (IsNonDecreasingBy put_number) (sym c.as_slice.ensures.value) c.in-Ok.ensures.rising

pub returns-in-Ok-folded-clause-left : goal.returns-in-Ok-folded-clause-left
returns-in-Ok-folded-clause-left c =
    left_is c.args.limits (table_of c.args.columns.now) c.in_ok-names.field-0.names c.in_ok-names.field-0.kinds c.in_ok-names.field-0.puts.items
    c.sort_puts.new.puts.items c.as_slice.result.now c.weight.result c.in-Ok-folded.edges.items c.in_ok-names.ensures.taken
    c.in_ok-names.ensures.limits c.as_slice.ensures.value c.weight.ensures.number c.in-Ok.ensures.same c.in-Ok-folded.ensures.map
    c.in-Ok-folded.ensures.rising c.in-Ok-folded.ensures.range
