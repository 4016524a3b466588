-- A name's text.
use Rattle.std.specs.{Prelude.{ℕ, List}, String.{string_bytes}}
use Rattle.vertex_names.specs.declared.chunk.Kept.{Kept, TheVariants.{Short, Long}}

-- the bytes of a name's text
abbrev pub kept_bytes : Kept → List ℕ
kept_bytes (Short text) = text.bytes
kept_bytes (Long text) = string_bytes text
