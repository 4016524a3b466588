-- Known bytes that grow by one text and then by another.
use Rattle.std.proofs.Common.{ℕ, List, ◌++◌, append_assoc, sym, ◌∙◌, ap, take, drop}
use Rattle.std.proofs.lemmas.List.{take-append-drop}
use Rattle.std.specs.{Prelude.Option, Io.KnownBytes.{Appends, Keeps}}
use Rattle.graph_types.proofs.Prefixes.{appends_then, appends_kept}
use Rattle.script_server.specs.Writes.{AppendsPart}

-- a part of the second text, behind the whole first
pub part_then : (a b c : Option (List ℕ)) (x y : List ℕ) → Appends a b x → AppendsPart b c y → AppendsPart a c (x ++ y)
part_then a b c x y first second = (
  x ++ second.0,
  second.1,
  ap (λ text. x ++ text) second.2
      ∙ sym (append_assoc x second.0 second.1),
  appends_then a b c x second.0 first second.3,
)

-- a part of a text is a part of a longer one
pub part_longer : (a b : Option (List ℕ)) (x y : List ℕ) → AppendsPart a b x → AppendsPart a b (x ++ y)
part_longer a b x y part = (part.0, part.1 ++ y, ap (λ text. text ++ y) part.2 ∙ append_assoc part.0 part.1 y, part.3)

-- the first bytes of a text, and nothing more
pub part_taken : (a b c : Option (List ℕ)) (at : ℕ) (text : List ℕ) → Appends a b (take at text) → Keeps b c
    → AppendsPart a c text
part_taken a b c at text before kept =
    (take at text, drop at text, sym (take-append-drop at text), appends_kept a b c (take at text) before kept)
