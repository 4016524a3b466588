-- A text that is told in two parts, of which the second is its end.
use Rattle.std.{proofs.Common.{◌≡◌, ◌++◌, ℕ, List, [], inl, inr, refl}, specs.Prelude.Option}
use Rattle.graph_types.proofs.Prefixes.{appends_nothing}
use Rattle.stinger_server.specs.Program.{EndsWith, IsToldFault}

-- a text of two parts ends with the second
pub told_ending : (front end : List ℕ) (told status : ℕ) (old new : Option (List ℕ))
    → IsToldFault (λ text. text ≡ front ++ end) told status old new
    → IsToldFault (EndsWith end) told status old new
told_ending front end told status old new said = elim said [
  | inl whole ↦ inl (whole.0, (whole.1.0, whole.1.1, (front, whole.1.2)))
  | inr part ↦ inr (part.0, (part.1.0, (front, part.1.1), part.1.2))
]

-- nothing was told of a text
pub told_nothing : (IsSaid : List ℕ → Type 0) (text : List ℕ) (told : ℕ) (old : Option (List ℕ)) → IsSaid text
    → IsToldFault IsSaid told 1 old old
told_nothing IsSaid text told old said = inr (refl, (text, said, ([], text, refl, appends_nothing old)))
