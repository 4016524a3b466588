use Rattle.std.proofs.Common.{◌≡◌, ◌≤◌, ◌+◌, ◌++◌, ◌∷◌, [], ℕ, List, true, false, cond, length, length-append, nat_eq, ap, sym, subst, ◌∙◌}
use Rattle.std.proofs.{Common.arith, lemmas.{List.length-map, Option.{get_or_from_slice_get, slice_get_within}}}
use Rattle.std.specs.{List.list_any, Option.option_map, declared.option.Option.{Option, TheVariants.Some}}
use Rattle.graph_types.specs.{Graph.Key, declared.ids.VertexId.VertexId}
use Rattle.std.specs.Prelude.{IfSome}
use Rattle.batch_apply.specs.{FirstSources.{AreNext, source_in}, declared.own_sources.Places.Places}
use Rattle.batch_apply.specs.{Plan.key_shown, Shards.{source_numbers, with_number, with_source}, declared.resolve.EdgeKey.EdgeKey}
use Rattle.batch_apply.proofs.shards.place_in.Goals as goal

-- the next place is for the key
given : (key : Option EdgeKey) (k : EdgeKey) (places : Option Places) (sources rest : List ℕ) → key ≡ Some k
    → IfSome places (AreNext sources (source_in (option_map key_shown key) ++ rest))
    → IfSome places (AreNext sources (k.source ∷ rest))
given key k places sources rest is are =
    subst (λ (o : Option EdgeKey). IfSome places (AreNext sources (source_in (option_map key_shown o) ++ rest))) is are

pub place_of-requires : goal.place_of-requires
place_of-requires c = record {
  next = let (rest, are) = c.requires.next in
      (rest, given c.args.key c.in-Some.key c.args.places.now (source_numbers c.args.sources.now.items) rest c.in-Some.is are);
}

-- the key from another source
abbrev key_from : EdgeKey → ℕ → Option Key
key_from k source = Some (record { kind = k.kind.0; source = source; target = k.target })

one_more : (source : ℕ) (sources : List ℕ) → length (with_number source sources) ≤ length sources + 1
one_more source sources =
    elim (list_any (nat_eq source) sources) as (λ b. length (cond b sources (sources ++ source ∷ [])) ≤ length sources + 1) [
      | true ↦ omega arith
      | false ↦ omega (arith, length-append sources (source ∷ []))
    ]

pub returns : goal.returns
returns c =
    let new : List VertexId = c.place_of.new.sources.items in
    let old : List VertexId = c.args.sources.now.items in
    let number : VertexId → ℕ = λ (s : VertexId). s.0 in
    let found = c.in_ok-row.ensures in
    record {
      next = λ rest are. found.next rest
          (given c.args.key c.in-Some.key c.args.places.now (source_numbers c.args.sources.now.items) rest c.in-Some.is are);
      sources = found.sources
          ∙ ap (λ (k : Option EdgeKey). with_source (option_map key_shown k) (source_numbers old)) (sym c.in-Some.is);
      key = ap (key_from c.in-Some.key)
          (get_or_from_slice_get (source_numbers new) c.in_ok-row.row c.in-Some.key.source 0 found.place)
          ∙ ap (option_map key_shown) (sym c.in-Some.is);
      place = slice_get_within (source_numbers new) c.in_ok-row.row c.in-Some.key.source found.place;
      few = omega (
        arith,
        ap length found.sources,
        length-map new number,
        length-map old number,
        one_more c.in-Some.key.source (source_numbers old),
      );
    }
