-- What a writer holds after a text, or a part of one, was written.
use Rattle.std.specs.{Prelude.{◌≡◌, ℕ, List, ◌++◌, Option}, Io.KnownBytes.Appends}
use Rattle.script_server.specs.declared.sink.Sink.{Sink}

-- the bytes that the writer of a sink holds, where they are known
abbrev pub held : {W : Type 0} → (W → Option (List ℕ)) → Sink W → Option (List ℕ)
held contents sink = contents sink.writer.now

-- the bytes that a writer holds before a call and after it, where they are known
pub record Output : Type 0 where
  pub before : Option (List ℕ)
  pub after : Option (List ℕ)

abbrev pub output : Option (List ℕ) → Option (List ℕ) → Output
output before after = record { before = before; after = after }

-- so of a sink
abbrev pub output_of : {W : Type 0} → (W → Option (List ℕ)) → Sink W → Sink W → Output
output_of contents old new = output (held contents old) (held contents new)

-- known bytes grow by a first part of the text
abbrev pub AppendsPart : Option (List ℕ) → Option (List ℕ) → List ℕ → Type 0
AppendsPart old new text = (part : List ℕ) × (rest : List ℕ) × (text ≡ part ++ rest) × Appends old new part

-- known bytes grow by a text of which this holds
abbrev pub AppendsSome : Option (List ℕ) → Option (List ℕ) → (List ℕ → Type 0) → Type 0
AppendsSome old new IsText = (text : List ℕ) × Appends old new text × IsText text
