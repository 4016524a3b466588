-- What is known of the ends of a batch's operations before they are resolved, where these stand in a list of names.
use Rattle.std.specs.{Prelude.{ℕ, ◌≡◌, List, ◌∷◌, drop, get_or, slice_get, slice_set}, Option.option_map}
use Rattle.std.specs.declared.option.Option.{Option, TheVariants.{None, Some}}
use Rattle.graph_types.specs.{Graph.Key, Parts.{Parts, OfEdge, OfAll, parts_of}, declared.batches.NamedOp.NamedOp}
use Rattle.edge_block.specs.Batches.{Resolved, AtKey, InAll}
use Rattle.batch_apply.specs.Plan.{known, unknown_ends, WereFound}
use Rattle.batch_apply.specs.declared.{resolve.Ends.Ends, listed.KnownEnds.{KnownEnds, TheVariants.{Looked, Listed}}}

-- an operation's ends are the names at two places of a list, so that it is on an edge
abbrev pub AreEndsAt : (ℕ → List ℕ) → Parts → ℕ → ℕ → Type 0
AreEndsAt name (OfEdge change kind source target) s t = (source ≡ name s) × (target ≡ name t)
AreEndsAt name (OfAll time) s t = ⊥

-- the same of the first of these operations, or of all, each at its places
abbrev pub AreEndsListed : (ℕ → List ℕ) → List NamedOp → List ℕ → List ℕ → Type 0
AreEndsListed name (op ∷ ops) (s ∷ sources) (t ∷ targets) = AreEndsAt name (parts_of op) s t × AreEndsListed name ops sources targets
AreEndsListed name _ _ _ = Unit {0}

-- what is known of the ends of these operations, of which that at a place is the first, is right by these names
abbrev pub AreKnown : (ℕ → List ℕ) → List (List ℕ) → List NamedOp → KnownEnds → ℕ → Type 0
AreKnown name names ops (Looked ends) place = WereFound names ops (drop place ends.now)
AreKnown name names ops (Listed listing) place = AreEndsListed name ops (drop place listing.sources.now) (drop place listing.targets.now)

-- the same of a batch's operations, from the first on, by any list
abbrev pub IsKnown : List (List ℕ) → List NamedOp → KnownEnds → Type 0
IsKnown names ops found = (name : ℕ → List ℕ) × AreKnown name names ops found 0

-- a number that is noted at a place of a list is that of the name there
abbrev pub AreNoted : (ℕ → List ℕ) → List (List ℕ) → List (Option ℕ) → Type 0
AreNoted name names noted = (place i : ℕ) → get_or noted place None ≡ Some i → known names (name place) ≡ Some i

-- what is known of the ends of the operation at a place
abbrev pub ends_at : List (Option ℕ) → Option ℕ → Option ℕ → Ends
ends_at noted (Some s) (Some t) = record { source = get_or noted s None; target = get_or noted t None }
ends_at noted _ _ = unknown_ends

abbrev pub found_by : KnownEnds → List (Option ℕ) → ℕ → Ends
found_by (Looked ends) noted place = get_or ends.now place unknown_ends
found_by (Listed listing) noted place = ends_at noted (slice_get listing.sources.now place) (slice_get listing.targets.now place)

-- a number noted at a place, if there is one, and room for it
abbrev pub with_noted : List (Option ℕ) → ℕ → Option ℕ → List (Option ℕ)
with_noted noted place None = noted
with_noted noted place (Some number) = slice_set noted place (Some number)

abbrev pub target_of : Option Key → Option ℕ
target_of key = option_map (λ k. k.target) key

-- and those of an operation's ends
abbrev pub noted_ends : Option ℕ → Option ℕ → Resolved → List (Option ℕ) → List (Option ℕ)
noted_ends (Some s) (Some t) (AtKey source key change) noted = with_noted (with_noted noted s source) t (target_of key)
noted_ends _ _ _ noted = noted

abbrev pub noted_after : KnownEnds → ℕ → Resolved → List (Option ℕ) → List (Option ℕ)
noted_after (Looked ends) place op noted = noted
noted_after (Listed listing) place op noted =
    noted_ends (slice_get listing.sources.now place) (slice_get listing.targets.now place) op noted
