-- A text that is written whole, and then flushed.
use Rattle.std.{proofs.Common.{ℕ, List, [], append-nil, sym}, specs.{Prelude.Option, Io.KnownBytes.{Appends, Keeps}}}
use Rattle.graph_types.proofs.Prefixes.{appends_kept}
use Rattle.script_server.specs.Writes.{AppendsPart}

-- the text was written, and the flush failed
pub all_of_it : (a b c : Option (List ℕ)) (x : List ℕ) → Appends a b x → Keeps b c → AppendsPart a c x
all_of_it a b c x whole kept = (x, [], sym (append-nil x), appends_kept a b c x whole kept)
