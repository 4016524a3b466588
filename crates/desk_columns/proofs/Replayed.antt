-- What a replay leaves, and that it may be cut and joined.
use Rattle.std.proofs.Common.{◌≡◌, ℕ, zero, suc, List, [], ◌∷◌, ◌++◌, take, drop, refl, sym, ap, subst, inl, inr, ◌∙◌}
use Rattle.std.proofs.lemmas.List.{take-append-drop}
use Rattle.graph_types.specs.{Graph.{Graph, unlimited}, Limits.LimitsView, Step.{after, after_all, changed, empty_graph_in, left_by}}
use Rattle.graph_types.specs.declared.batches.NamedOp.{NamedOp, TheVariants.{Insert, Incr, Remove, Expire}}
use Rattle.graph_types.specs.declared.changes.EdgeChange.TheVariants.{Insert as ToInsert, Incr as ToIncr}
use Rattle.graph_types.proofs.{LimitsKept.{limits_after, limits_after_all, limits_left_by}, More.left_more}
use Rattle.graph_version.specs.Versions.{content}
use Rattle.graph_version.proofs.{Empty.content_alone, Rebased.content_rebased}
use Rattle.store_steps.proofs.AcceptedDesk.{batches_after, opening_after}
use Rattle.owned_desk.specs.Owned.{OwnedView}
use Rattle.owned_desk.proofs.GrownNames.{left_twice}
use Rattle.batch_columns.specs.Operations.{OperationTable}
use Rattle.desk_columns.specs.Replay.{AppliesBatch, IsBaseOf, IsCutAt, Replayed, Tidies, TidiesOften}

tidied : (old new : OwnedView) → Tidies old new → content new.desk.last ≡ content old.desk.last
tidied old new (inl collects) = ap content collects.desk.last
tidied old new (inr rebased) = content_rebased old.desk.last new.desk.last rebased

tidied_often : (n : ℕ) (old new : OwnedView) → TidiesOften n old new → content new.desk.last ≡ content old.desk.last
tidied_often zero old new same = ap (λ (o : OwnedView). content o.desk.last) same
tidied_often (suc n) old new (next, once, more) = tidied_often n next new more ∙ tidied old next once

-- an accepted batch leaves what its operations leave
applied_content : (old new : OwnedView) (batch : List NamedOp) → AppliesBatch old batch new
    → content new.desk.last ≡ after_all batch (content old.desk.last)
applied_content old new batch applies =
    let one_more : content new.desk.last ≡ left_by (old.desk.last.batches ++ batch ∷ []) old.desk.last.opening =
    λ i. left_by (batches_after old.desk new.desk batch applies.accepted i) (opening_after old.desk new.desk batch applies.accepted i) in
    one_more ∙ left_more old.desk.last.batches batch old.desk.last.opening

pub replayed_content : (batches : List (List NamedOp)) (old new : OwnedView) → Replayed batches old new
    → content new.desk.last ≡ left_by batches (content old.desk.last)
replayed_content [] old new (n, tidies) = tidied_often n old new tidies
replayed_content (batch ∷ batches) old new (n, ready, next, tidies, applies, more) =
    replayed_content batches next new more
    ∙ ap (left_by batches) (applied_content ready next batch applies ∙ ap (after_all batch) (tidied_often n old ready tidies))

-- The cut

pub cut : (batches : List (List NamedOp)) (old new : OwnedView) → Replayed batches old new → (k : ℕ) → IsCutAt k batches old new
cut [] old new replayed zero = record { between = old; before = (0, refl); content_is = refl; others = replayed }
cut [] old new replayed (suc k) = record {
  between = new;
  before = replayed;
  content_is = replayed_content [] old new replayed;
  others = (0, refl);
}
cut (batch ∷ batches) old new replayed zero =
    record { between = old; before = (0, refl); content_is = refl; others = replayed }
cut (batch ∷ batches) old new replayed (suc k) =
    let (n, ready, next, tidies, applies, more) = replayed in
    let rest = cut batches next new more k in
    let before : Replayed (batch ∷ take k batches) old rest.between = (n, ready, next, tidies, applies, rest.before) in
    record {
      between = rest.between;
      before = before;
      content_is = replayed_content (batch ∷ take k batches) old rest.between before;
      others = rest.others;
    }

tidied_twice : (n m : ℕ) (old between new : OwnedView) → TidiesOften n old between → TidiesOften m between new
    → (k : ℕ) × TidiesOften k old new
tidied_twice zero m old between new same more = (m, subst (λ (o : OwnedView). TidiesOften m o new) same more)
tidied_twice (suc n) m old between new (next, once, rest) more =
    let (k, all) = tidied_twice n m next between new rest more in (suc k, (next, once, all))

tidied_first : (n : ℕ) (batches : List (List NamedOp)) (old between new : OwnedView) → TidiesOften n old between
    → Replayed batches between new → Replayed batches old new
tidied_first n [] old between new tidies (m, more) = tidied_twice n m old between new tidies more
tidied_first n (batch ∷ batches) old between new tidies (m, ready, next, others, applies, more) =
    let (k, all) = tidied_twice n m old between ready tidies others in (k, ready, next, all, applies, more)

pub joined : (before others : List (List NamedOp)) (old between new : OwnedView) → Replayed before old between
    → Replayed others between new → Replayed (before ++ others) old new
joined [] others old between new (n, tidies) more = tidied_first n others old between new tidies more
joined (batch ∷ before) others old between new (n, ready, next, tidies, applies, rest) more =
    (n, ready, next, tidies, applies, joined before others next between new rest more)

-- Limits: what operations and batches leave under others, that of weights being the same

abbrev under : LimitsView → Graph → Graph
under limits g = record g { limits = limits }

after_under : (op : NamedOp) (limits : LimitsView) (g : Graph) → limits.weight ≡ g.limits.weight
    → after op (under limits g) ≡ under limits (after op g)
after_under (Insert kind source target weight time) limits g same =
    ap (λ (most : ℕ). under limits (changed (ToInsert weight time most) kind source target g)) same
after_under (Incr kind source target amount time) limits g same =
    ap (λ (most : ℕ). under limits (changed (ToIncr amount time most) kind source target g)) same
after_under (Remove kind source target) limits g same = refl
after_under (Expire time) limits g same = refl

after_all_under : (ops : List NamedOp) (limits : LimitsView) (g : Graph) → limits.weight ≡ g.limits.weight
    → after_all ops (under limits g) ≡ under limits (after_all ops g)
after_all_under [] limits g same = refl
after_all_under (op ∷ ops) limits g same =
    ap (after_all ops) (after_under op limits g same)
    ∙ after_all_under ops limits (after op g) (same ∙ sym (ap (λ (l : LimitsView). l.weight) (limits_after op g)))

left_under : (batches : List (List NamedOp)) (limits : LimitsView) (g : Graph) → limits.weight ≡ g.limits.weight
    → left_by batches (under limits g) ≡ under limits (left_by batches g)
left_under [] limits g same = refl
left_under (batch ∷ batches) limits g same =
    ap (left_by batches) (after_all_under batch limits g same)
    ∙ left_under batches limits (after_all batch g) (same ∙ sym (ap (λ (l : LimitsView). l.weight) (limits_after_all batch g)))

-- graphs that are the same but for their limits stay so
same_left : (batches : List (List NamedOp)) (g h : Graph) → g.limits.weight ≡ h.limits.weight → unlimited g ≡ unlimited h
    → unlimited (left_by batches g) ≡ unlimited (left_by batches h)
same_left batches g h weights same =
    sym (ap unlimited (left_under batches h.limits g (sym weights)))
    ∙ ap (λ (x : Graph). unlimited (left_by batches (under h.limits x))) same

-- The base

left_in_parts : (k : ℕ) (batches : List (List NamedOp)) (g : Graph)
    → left_by (drop k batches) (left_by (take k batches) g) ≡ left_by batches g
left_in_parts k batches g =
    sym (left_twice (take k batches) (drop k batches) g)
    ∙ ap (λ (bs : List (List NamedOp)). left_by bs g) (take-append-drop k batches)

-- what a base begins with, and its limit of weights
base_content : (batches : List (List NamedOp)) (old : OwnedView) (t : OperationTable) (empty base : OwnedView)
    → (is : IsBaseOf batches old t empty base)
    → content base.desk.last ≡ after_all is.opened.ops (empty_graph_in (content empty.desk.last).limits)
base_content batches old t empty base is = content_alone base.desk.last is.opened.opened.batches ∙ is.opened.opened.opening

base_weights : (batches : List (List NamedOp)) (old : OwnedView) (t : OperationTable) (empty base : OwnedView)
    → IsBaseOf batches old t empty base
    → (content base.desk.last).limits.weight ≡ (left_by batches (content old.desk.last)).limits.weight
base_weights batches old t empty base is =
    let limits = (content empty.desk.last).limits in
    ap (λ (l : LimitsView). l.weight) (ap (λ (g : Graph). g.limits) (base_content batches old t empty base is)
    ∙ limits_after_all is.opened.ops (empty_graph_in limits))
    ∙ is.weights ∙ sym (ap (λ (l : LimitsView). l.weight) (limits_left_by batches (content old.desk.last)))

pub based : (batches : List (List NamedOp)) (k : ℕ) (old new empty base last : OwnedView) (t : OperationTable)
    → Replayed batches old new → IsBaseOf (take k batches) old t empty base → Replayed (drop k batches) base last
    → unlimited (content last.desk.last) ≡ unlimited (content new.desk.last)
based batches k old new empty base last t replayed is rest =
    let begun : unlimited (content base.desk.last) ≡ unlimited (left_by (take k batches) (content old.desk.last)) =
    ap unlimited (base_content (take k batches) old t empty base is) ∙ is.leaves in
    ap unlimited (replayed_content (drop k batches) base last rest)
    ∙ same_left (drop k batches) (content base.desk.last) (left_by (take k batches) (content old.desk.last))
    (base_weights (take k batches) old t empty base is) begun
    ∙ ap unlimited (left_in_parts k batches (content old.desk.last) ∙ sym (replayed_content batches old new replayed))
