-- The steps of the shelf keep its rule.
use Rattle.graph_types.specs.declared.batches.NamedOp.{NamedOp}
use Rattle.std.proofs.Common.{◌≡◌, ℕ, ◌≢◌, ◌⊎◌, Bool, true, false, MatchBool, List, [], ◌∷◌, ◌++◌, set, refl, sym, ap, subst, ◌∙◌}
use Rattle.std.{proofs.{Common.{⊎_elim, Option, Some, None, IfSome, IfOk, Result, Ok, Err}, lemmas.Option.same_Some}, specs.{Result.result_ok, Prelude.IsSome}}
use Rattle.std.proofs.lemmas.Bool.{false≢true}
use mathlib.Core.Option.{some}
use mathlib.Core.List.{IsPrefix}
use lib.ListN.{get_elem?}
use Rattle.left_right.specs.Register.{Admits, TurnsAt, Forks, Merges}
use Rattle.atomic_table.proofs.Lists.{at_set, at_snoc, set_again}
use Rattle.graph_types.proofs.Prefixes.{prefix_self, prefix_trans}
use Rattle.version_shelf.specs.{Histories.HistoryView, Shelves.{ToldView, Begins, IsOfOneShelf, IsShowing, Keeps, Sees}}

none_not : {P : Type 0} (u : ToldView) → None ≡ Some u → P
none_not u e = absurd (cc e)

pub begins_self : (x : ToldView) → Begins x x
begins_self x = (refl, (refl, prefix_self x.version.batches))

pub begins_trans : (x y z : ToldView) → Begins x y → Begins y z → Begins x z
begins_trans x y z p q = (
  p.0 ∙ q.0,
  (
    p.1.0 ∙ q.1.0,
    prefix_trans x.version.batches y.version.batches z.version.batches p.1.1
        q.1.1,
  ),
)

-- a new reader has seen nothing
pub admits : Admits Keeps None
admits x views h place u at = ⊎_elim (h place u) (λ (e : None ≡ Some u). none_not u e) (at_snoc views None (Some u) place at)

-- a step after which what is shown begins with what was shown
pub turns : (place : ℕ) (v : Option ToldView) (x y : ToldView) → Begins x y → TurnsAt Keeps place v x y Sees
turns place v x y up views h at = (
  Some y,
  (λ j u e. ⊎_elim (λ (t : (j ≡ place) × (Some y ≡ Some u)). subst (λ z. Begins z y) (same_Some y u t.1) (begins_self y))
      (λ (t : (j ≢ place) × (get_elem? views j ≡ some (Some u))). begins_trans u x y (h j u t.1) up)
      (at_set views place j (Some y) (Some u) e)),
  ((λ u e. h place u (at ∙ ap some e)), refl),
)

-- a place that hands on what it has seen, and keeps it
pub forks : (place : ℕ) (v : Option ToldView) → Forks Keeps place v v v
forks place v x views h at j u e =
    ⊎_elim (λ (t : get_elem? (set views place v) j ≡ some (Some u)). h j u
    (subst (λ l. get_elem? l j ≡ some (Some u)) (set_again views place v at) t))
    (λ (same : v ≡ Some u). h place u (at ∙ ap some same)) (at_snoc (set views place v) v (Some u) j e)

-- a reader that takes in what another has seen
pub merges : (place : ℕ) (v : Option ToldView) (other : ℕ) (w : Option ToldView) → Merges Keeps place v other w w None
merges place v other w x views h at apart there j u e =
    let theirs : (z : ToldView) → w ≡ Some z → Begins z x = λ z is.
    ⊎_elim (λ (t : (other ≡ place) × (w ≡ w)). absurd (apart t.0))
    (λ (t : (other ≢ place) × (get_elem? views other ≡ some w)). h other z (t.1 ∙ ap some is))
    (at_set views place other w w there) in
    ⊎_elim (λ (t : (j ≡ other) × (None ≡ Some u)). none_not u t.1)
    (λ (t : (j ≢ other) × (get_elem? (set views place w) j ≡ some (Some u))).
    ⊎_elim (λ (s : (j ≡ place) × (w ≡ Some u)). theirs u s.1)
    (λ (s : (j ≢ place) × (get_elem? views j ≡ some (Some u))). h j u s.1) (at_set views place j w (Some u) t.1))
    (at_set (set views place w) other j None (Some u) e)

-- what is shown, as before or what was posted, is a version of the history with that version
pub still_showing : (old shown told : ToldView) (after : HistoryView) → IsShowing after old → told.book ≡ after.book
    → told.version.batches ≡ after.batches
    → (shown ≡ old) ⊎ (shown ≡ told) → IsShowing after shown
still_showing old shown told after is book batches which =
    ⊎_elim (λ (e : shown ≡ old). subst (λ x. IsShowing after x) (sym e) is)
    (λ (e : shown ≡ told). subst (λ x. IsShowing after x) (sym e)
    (book, subst (λ b. IsPrefix told.version.batches b) batches (prefix_self told.version.batches))) which

-- and so it is once the history has a batch more, or is as before
pub showing_on : (shown : ToldView) (old new : HistoryView) (batch : List NamedOp) (is_added : Bool) → IsShowing old shown
    → new.book ≡ old.book → MatchBool is_added (new.batches ≡ old.batches ++ batch ∷ []) (new ≡ old) → IsShowing new shown
showing_on shown old new batch true is book added =
    (is.0 ∙ sym book, prefix_trans shown.version.batches old.batches new.batches is.1 (batch ∷ [], sym added))
showing_on shown old new batch false is book same =
    (is.0 ∙ sym book, subst (λ (h : HistoryView). IsPrefix shown.version.batches h.batches) (sym same) is.1)

-- a copy that was to be had is of the same shelf
pub copy_of_one_shelf : {E : Type 0} (before shown got : ToldView) (copy : Result ToldView E) → got ≡ shown
    → IfOk copy (λ told. told ≡ got)
    → IsOfOneShelf before shown → IfSome (result_ok copy) (λ told. IsOfOneShelf before told)
copy_of_one_shelf before shown got (Ok told) same is one = subst (λ z. IsOfOneShelf before z) (sym (is ∙ same)) one
copy_of_one_shelf before shown got (Err e) same is one = tt

-- A glance at a place leaves what is seen there of one shelf, and so is what it told

module _ (old new shown : Option ToldView) (newest : ToldView)
    (glanced : (before : ToldView) → old ≡ Some before → (after : ToldView) × (new ≡ Some after) × IsOfOneShelf before after
    × IfSome shown (λ told. IsOfOneShelf before told))
    (seen : IsSome old × IfSome old (λ s. IsOfOneShelf s newest)) where
  one_before : (before : ToldView) × (old ≡ Some before) × IsOfOneShelf before newest
  one_before = go old refl seen where
    go : (o : Option ToldView) → old ≡ o → IsSome o × IfSome o (λ s. IsOfOneShelf s newest)
        → (before : ToldView) × (old ≡ Some before) × IsOfOneShelf before newest
    go None is there = absurd (false≢true there.0)
    go (Some before) is there = (before, is, there.1)

  pub one_shelf_kept : IsSome new × IfSome new (λ s. IsOfOneShelf s newest)
  one_shelf_kept =
      let (before, is, one) = one_before in
      let (after, there, same, told) = glanced before is in
      subst (λ (o : Option ToldView). IsSome o × IfSome o (λ s. IsOfOneShelf s newest)) (sym there)
      (refl, (sym same.0 ∙ one.0, sym same.1 ∙ one.1))

  pub one_shelf_told : (told : ToldView) → shown ≡ Some told → IsSome new × IfSome new (λ s. IsOfOneShelf s told)
  one_shelf_told told tells =
      let (before, is, one) = one_before in
      let (after, there, same, others) = glanced before is in
      let other : IsOfOneShelf before told =
      subst (λ (o : Option ToldView). IfSome o (λ t. IsOfOneShelf before t)) tells others in
      subst (λ (o : Option ToldView). IsSome o × IfSome o (λ s. IsOfOneShelf s told)) (sym there)
      (refl, (sym same.0 ∙ other.0, sym same.1 ∙ other.1))
