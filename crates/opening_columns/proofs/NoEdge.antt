-- An edge past the end of a list.
use Rattle.std.proofs.Common.{pos}
use Rattle.graph_types.specs.declared.ids.Edge.{Edge}

abbrev pub no_edge : Edge
no_edge = record {
  kind = record { 0 = 0 };
  source = record { 0 = 0 };
  target = record { 0 = 0 };
  weight = pos 0;
  first = 0;
  recent = 0;
}
