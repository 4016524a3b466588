-- From the hash of a name to the number of the first name that had it; a name whose hash was taken has its number in
-- a list beside. The hashes stand on shelves, those of a shelf in parts, those of a part in pieces, and in a piece they rise.
use Rattle.std.specs.{Prelude.{◌≡◌, ◌≢◌, ◌⊎◌, ◌<◌, ℕ, ◌%◌, List, [], length, get_or, map, Some, None}, List.IsAmong}
use Rattle.std.specs.{Arc.arc_value, declared.{option.Option.Option, sync.Arc.Arc, alloc.Global.Global}}
use Rattle.std.specs.Hash.DefaultHasher as sip
use Rattle.vertex_names.specs.{Shelves.found_on, declared.shelf.Shelf.Shelf}

-- what a text's bytes hash to, by SipHash-1-3 with keys 0
abbrev pub text_hash : List ℕ → ℕ
text_hash bytes = sip.finish (sip.write sip.initial bytes)

-- what stands at a hash: its shelf is told by its last five bits
abbrev pub found_at : List (List (List (ℕ × List (ℕ × ℕ)))) → ℕ → Option ℕ
found_at shelves hash = found_on (get_or shelves (hash % 32) []) hash

abbrev pub shelves_of : List (Arc Shelf Global) → List (List (List (ℕ × List (ℕ × ℕ))))
shelves_of shelves = map (λ s. arc_value {X = Shelf} s) shelves

-- a number stands at a hash, or among the numbers whose hash was taken
abbrev pub Stands : List (List (List (ℕ × List (ℕ × ℕ)))) → List ℕ → ℕ → ℕ → Type 0
Stands shelves others hash number = (found_at shelves hash ≡ Some number) ⊎ ((found_at shelves hash ≢ None) × IsAmong others number)

-- each name's number stands at its hash
abbrev pub IsIndexed : List (List ℕ) → List (List (List (ℕ × List (ℕ × ℕ)))) → List ℕ → Type 0
IsIndexed names shelves others = (i : ℕ) → i < length names → Stands shelves others (text_hash (get_or names i [])) i
