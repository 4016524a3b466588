use Rattle.std.proofs.Common.{refl}
use Rattle.edge_block.proofs.layout_laws.law_examples.Goals as goal

pub returns : goal.returns
returns c = record {
  overflows = record { edges_are = refl; taken_are = refl; dropped_are = refl };
  first_with_room = record { edges_are = refl; taken_are = refl; dropped_are = refl };
  lowest_free = refl;
  emptied = record { edges_are = refl; taken_are = refl; dropped_are = refl };
  put_anew = record { edges_are = refl; taken_are = refl; dropped_are = refl };
  expires_later = record { edges_are = refl; taken_are = refl; dropped_are = refl };
  expires = record { edges_are = refl; taken_are = refl; dropped_are = refl };
  expires_none = record { edges_are = refl; taken_are = refl; dropped_are = refl };
  untouched_row = record { edges_are = refl; taken_are = refl; dropped_are = refl };
}
