-- What valid operations leave of a content is a content, where they leave no more names and kinds than the limits.
use Rattle.std.proofs.Common.{ℕ, ◌≤◌, List, [], ◌∷◌, ◌++◌, length, All, Option, option_map, option_to_list, refl, sym, ap, subst}
use Rattle.std.proofs.{Common.arith, lemmas.List.Elements.{All-head, All-tail}}
use Rattle.std.specs.FinMap.{get}
use Rattle.graph_types.specs.Changes.{IsChange, AllowsUpTo}
use Rattle.graph_types.specs.Graph.{IsContentIn, graph_in, Key, Stamp, map_of, content_of, without, Graph}
use Rattle.graph_types.specs.Limits.{LimitsView, AreLimits}
use Rattle.graph_types.specs.Step.{changed, changed_key, stamp_after, names_made, kinds_made, after, later, after_all}
use Rattle.graph_types.specs.{Valid.IsValid, declared.batches.NamedOp.{NamedOp, TheVariants.{Insert, Incr, Remove, Expire}}}
use Rattle.graph_types.specs.declared.changes.EdgeChange.{EdgeChange}
use Rattle.graph_types.specs.declared.changes.EdgeChange.TheVariants.{Insert as ToInsert, Incr as ToIncr, Remove as ToRemove}
use Rattle.graph_types.specs.declared.{contents.Content.Content, ids.Edge.Edge}
use Rattle.graph_types.proofs.ChangedContents.{HasContent, edge_at, IsApplied, stamps_put, put_there, after_in_range}
use Rattle.graph_types.proofs.ChangedContents.{found_in_range, IsContentIn-applied, graph_in-applied, weight_fits, time_fits}
use Rattle.graph_types.proofs.{ChangedContents.IsContentIn-later, Expiry.map_of-later}
use Rattle.graph_types.proofs.NameLists.{length-after_all-names, length-after_all-kinds}

content_changed : (l : LimitsView) → AreLimits l → (change : EdgeChange) (kind source target : List ℕ) (c : Content)
    → IsContentIn l c → IsChange change → AllowsUpTo l.weight change → length (changed change kind source target (graph_in l c)).names ≤ l.names
    → length (changed change kind source target (graph_in l c)).kinds ≤ l.kinds
    → HasContent l (changed change kind source target (graph_in l c))
content_changed l are change kind source target c is fits up names kinds =
    let key : Key = changed_key change kind source target (graph_in l c) in
    let stamp : Option Stamp = stamp_after change (get (map_of c.edges) key) in
    let put : Option Edge = option_map (edge_at key) stamp in
    let new : Content = content_of (names_made change source target c.names) (kinds_made change kind c.kinds)
    (without key c.edges ++ option_to_list put) in
    let step : IsApplied change kind source target c new key put = record {
      names = refl;
      kinds = refl;
      key_is = refl;
      stamp = stamps_put key stamp;
      at = put_there key stamp (after_in_range change (get (map_of c.edges) key) fits (found_in_range c key is.content));
      edges = refl;
    } in (
      new,
      IsContentIn-applied l change kind source target c new key put are up step is names kinds,
      graph_in-applied change kind source target c new key put step l,
    )

content_after : (l : LimitsView) → AreLimits l → (op : NamedOp) (c : Content) → IsContentIn l c → IsValid op
    → length (after op (graph_in l c)).names ≤ l.names → length (after op (graph_in l c)).kinds ≤ l.kinds
    → HasContent l (after op (graph_in l c))
content_after l are (Insert kind source target weight time) c is valid names kinds =
    content_changed l are (ToInsert weight time l.weight) kind source target c is
    (weight_fits weight valid.weight, time_fits time valid.time, are.weight) (omega arith) names kinds
content_after l are (Incr kind source target amount time) c is valid names kinds =
    content_changed l are (ToIncr amount time l.weight) kind source target c is
    (weight_fits amount valid.weight, time_fits time valid.time, are.weight) (omega arith) names kinds
content_after l are (Remove kind source target) c is valid names kinds =
    content_changed l are ToRemove kind source target c is tt tt names kinds
content_after l are (Expire time) c is valid names kinds = (
  content_of c.names c.kinds (later time c.edges),
  IsContentIn-later l time c is,
  ap (λ edges. let g : Graph = record { names = c.names; kinds = c.kinds; edges = edges; limits = l } in g)
      (map_of-later time c.edges is.content.keys_distinct),
)

pub content_after_all : (l : LimitsView) → AreLimits l → (ops : List NamedOp) (c : Content) → IsContentIn l c → All IsValid ops
    → length (after_all ops (graph_in l c)).names ≤ l.names → length (after_all ops (graph_in l c)).kinds ≤ l.kinds
    → HasContent l (after_all ops (graph_in l c))
content_after_all l are [] c is valid names kinds = (c, is, refl)
content_after_all l are (op ∷ ops) c is valid names kinds =
    let g : Graph = after op (graph_in l c) in
    let names_more = length-after_all-names ops g in
    let kinds_more = length-after_all-kinds ops g in
    let one : HasContent l g = content_after l are op c is (All-head IsValid op ops valid) (omega (arith, names, names_more))
    (omega (arith, kinds, kinds_more)) in
    subst (λ (h : Graph). HasContent l (after_all ops h)) one.2
    (content_after_all l are ops one.0 one.1 (All-tail IsValid op ops valid)
    (subst (λ (h : Graph). length (after_all ops h).names ≤ l.names) (sym one.2) names)
    (subst (λ (h : Graph). length (after_all ops h).kinds ≤ l.kinds) (sym one.2) kinds))
