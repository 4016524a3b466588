-- What the commands of slots come to, from what the calls below them say.
use Rattle.std.proofs.{Common.{◌≡◌, ℕ, List, map, ap, refl, ◌∙◌}, lemmas.Option.slice_get-map}
use Rattle.std.specs.{Prelude.{Option, None, Some, Err, slice_get}, Option.option_map}
use Rattle.stream_store.specs.Seats.{SessionView, held_version}
use Rattle.script_lines.specs.declared.words.Word.TheVariants.{NotOpen}
use Rattle.script_commands.specs.{Slots.held_by, Slots.held_of, States.Held, States.version_in}

-- the version that a slot with a session holds
pub held_there : (sessions : List (Option SessionView)) (slot : ℕ) (session : SessionView)
    → slice_get sessions slot ≡ Some (Some session)
    → slice_get (map held_by sessions) slot ≡ Some (Some (held_of (held_version session)))
held_there sessions slot session there =
    slice_get-map held_by sessions slot ∙ ap (option_map held_by) there

-- a slot that is refused as not open holds nothing
pub free_there : (held : Option (Option Held)) → version_in held ≡ Err NotOpen → held ≡ Some None
free_there None is = cc
free_there (Some None) is = refl
free_there (Some (Some version)) is = cc
