-- A table in which the next version is made.
use Rattle.std.specs.{Prelude.{◌≡◌, List}, Option.IfSome}
use Rattle.std.specs.declared.option.Option.{Option}
use Rattle.edge_block.specs.Slots.{BlockView}
use Rattle.graph_version.specs.declared.tables.RowTable.{RowTable}

-- the table, if there is one, has these rows
abbrev pub IsTableOf : List (List BlockView) → Option RowTable → Type 0
IsTableOf rows table = IfSome table (λ t. t ≡ rows)
