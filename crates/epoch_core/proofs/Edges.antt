-- Edges and stamps compared, and when edges are each once the edges of a graph.
use Rattle.std.proofs.Common.{◌≡◌, ◌≢◌, Bool, not, List, [], ◌∷◌, length, Decides, refl, sym}
use Rattle.std.proofs.{Common.{ap, subst, ◌∙◌, arith}, lemmas.{Grind.common_steps, Bool.Decides.{Decides-and, Decides-by_and}}}
use Rattle.std.{proofs.lemmas.Bool.Decides.{Decides-eqb, Decides-like, Decides-not}, specs.Prelude.All}
use Rattle.std.specs.{List.{list_any, list_all}, declared.option.Option.{Option, TheVariants.Some}, FinMap.{FinMap, get}}
use Rattle.std.specs.FinMap.{len}
use Rattle.graph_types.specs.Graph.{Graph, Stamp, key_cmp, key_of, stamp_of}
use Rattle.graph_types.{specs.declared.ids.Edge.Edge, proofs.EdgeLookup.Decides-has_key}
use Rattle.graph_types.proofs.Keys.{HasKeysOnce, once_none}
use Rattle.graph_types.proofs.Keys.{once_head, once_tail, once_cons, get_listed, len_once}
use Rattle.graph_types.proofs.Cases.{neither}
use Rattle.graph_types.proofs.EdgeMaps.{AllStand, map_from_all}
use Rattle.epoch_core.specs.{Versions.AreEdgesOf, Posting.{are_edges_of, bears, keys_differ, same_key}}

Decides-bears : (o : Option Stamp) (s : Stamp) → Decides (bears o s) (o ≡ Some s)
Decides-bears o s = grind (arith, common_steps)

-- whether no edge of this edge's key is listed
abbrev is_alone : Edge → List Edge → Bool
is_alone e es = not (list_any (λ other. same_key (key_of other) (key_of e)) es)

Decides-alone : (e : Edge) (es : List Edge) → Decides (is_alone e es) (All (λ x. key_of e ≢ key_of x) es)
Decides-alone e es =
    Decides-by_and (λ x. not (same_key (key_of x) (key_of e))) (λ x. key_of e ≢ key_of x) (is_alone e)
    (λ x. Decides-like _ (λ apart same. apart (sym same)) (λ apart same. apart (sym same))
    (Decides-not _ (Decides-has_key (key_of e) x)))
    refl (λ x xs. neither (same_key (key_of x) (key_of e)) (list_any (λ other. same_key (key_of other) (key_of e)) xs)) es

Decides-keys_differ : (es : List Edge) → Decides (keys_differ es) (HasKeysOnce es)
Decides-keys_differ [] = (λ _. once_none, λ _. refl)
Decides-keys_differ (e ∷ es) =
    Decides-like _ (λ p. once_cons e es p.0 p.1) (λ once. (once_head e es once, once_tail e es once))
    (Decides-and _ _ (Decides-alone e es) (Decides-keys_differ es))

Decides-all_stand : (m : FinMap key_cmp Stamp) (es : List Edge)
    → Decides (list_all (λ e. bears (get m (key_of e)) (stamp_of e)) es) (AllStand m es)
Decides-all_stand m es =
    Decides-by_and (λ e. bears (get m (key_of e)) (stamp_of e)) (λ e. get m (key_of e) ≡ Some (stamp_of e))
    (list_all (λ e. bears (get m (key_of e)) (stamp_of e)))
    (λ e. Decides-bears (get m (key_of e)) (stamp_of e)) refl (λ _ _. refl) es

-- the test of a Post's edges
pub Decides-edges : (g : Graph) (es : List Edge) → Decides (are_edges_of g es) (AreEdgesOf es g)
Decides-edges g es =
    Decides-like _ (λ p. record { once = p.0.0; same = map_from_all g.edges es p.0.0 p.0.1 p.1 })
    (λ shows. (
      (shows.once, subst (λ m. AllStand m es) shows.same (get_listed es shows.once)),
      sym (len_once es shows.once) ∙ ap len shows.same,
    ))
    (Decides-and _ _ (Decides-and _ _ (Decides-keys_differ es) (Decides-all_stand g.edges es))
    (Decides-eqb (length es) (len g.edges)))
