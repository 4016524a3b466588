-- The rows from which a batch's expiries may take edges.
use Rattle.std.proofs.Common.{◌≡◌, ◌≢◌, ℕ, ◌+◌, ◌<◌, ◌≤◌, ◌==◌, ◌||◌, true, false, cond, List, [], ◌∷◌, ◌++◌, map, length}
use Rattle.std.proofs.Common.{get_or, refl, sym, ap, ap₂, ◌∙◌, arith, subst, All, AllPairs, Option, Some, None, ltb, nat_eq}
use Rattle.std.proofs.lemmas.{Bool.{true≢false, eqb-false, true_from_ne_false, ltb-true, ltb-false}, List.length-map}
use Rattle.std.proofs.lemmas.List.{map-append, get_or-map, Folds.list_any-append, Quantifiers.all_pairs_push, Elements.All-nil}
use Rattle.std.{proofs.lemmas.List.Elements.{All-push, All-weaker}, specs.{List.list_any, Option.is_some}}
use Rattle.std.specs.FinMap.{get}
use Rattle.graph_types.specs.Graph.{Graph, Key, Stamp}
use Rattle.graph_types.proofs.Cases.{option_none, or_true}
use Rattle.edge_block.specs.Slots.{BlockView, has_before, stamp_at}
use Rattle.edge_block.specs.{Rows.Shape, Rows.shape_of, Rows.block_at, Rows.row_at, Batches.HasEndsWithin, Batches.IsLayoutOf}
use Rattle.edge_block.proofs.OldSlots.{slots_before_zero, no_edges}
use Rattle.graph_version.specs.{Rows.row_of, Versions.{VersionView, content, layout_of, IsVersion}}
use Rattle.graph_version.specs.Ages as ages
use Rattle.batch_shards.specs.Spending.{old_blocks}
use Rattle.batch_apply.specs.{Shards.has_old_shape, OldRows.AreOldRows, OldRows.old_sources, declared.old.OldRow.OldRow}
use Rattle.batch_apply.proofs.Listing.{none_old_blocks, some_old}

pub none_old : (row : List Shape) → has_old_shape 0 row ≡ false
none_old [] = refl
none_old (b ∷ row) = ap₂ (λ a c. a || c) (slots_before_zero b.slots) (none_old row)

no_block : (time : ℕ) (row : List Shape) → ((kind target : ℕ) → row_at row (kind, target) ≡ None) → has_old_shape time row ≡ false
no_block time [] none = refl
no_block time (b ∷ row) none =
    let both = λ (kind target : ℕ). option_none (block_at b (kind, target)) (row_at row (kind, target)) (none kind target) in
    ap₂ (λ a c. a || c)
    (no_edges time b.slots (λ target. sym (ap (λ t. cond t (stamp_at b.slots target) None) (true_from_ne_false (b.kind == b.kind)
    (λ no. eqb-false b.kind b.kind no refl))) ∙ (both b.kind target).0))
    (no_block time row (λ kind target. (both kind target).1))

-- a source that no edge has has a row without edges
pub old_within : (g : Graph) (layout : ℕ → List Shape) (time s : ℕ) → HasEndsWithin g → IsLayoutOf layout g.edges
    → has_old_shape time (layout s) ≡ true → s < length g.names
old_within g layout time s within shows old =
    elim (ltb s (length g.names)) as (λ b. ltb s (length g.names) ≡ b → s < length g.names) [
      | true ↦ λ t. ltb-true s (length g.names) t
      | false ↦ λ t. absurd (true≢false (sym old ∙ no_block time (layout s) (λ kind target.
          let key : Key = record { kind = kind; source = s; target = target } in
          let far = ltb-false s (length g.names) t in
          shows.shows key ∙ elim (get g.edges key) as (λ (o : Option Stamp). get g.edges key ≡ o → o ≡ None) [
            | None ↦ λ e. refl
            | Some stamp ↦ λ e. let at = within key (ap is_some e) in absurd (omega (arith, far, at.1))
          ] refl)))
    ] refl

-- a row of blocks is old where its shapes are, and then some of its blocks are
of_shapes : (time : ℕ) (row : List BlockView) → has_old_shape time (map shape_of row) ≡ ages.is_old_row time row
of_shapes time [] = refl
of_shapes time (b ∷ row) = ap (λ t. has_before time b.slots || t) (of_shapes time row)

none_counted : (time : ℕ) (row : List BlockView) → ages.is_old_row time row ≡ false → old_blocks time row ≡ 0
none_counted time row none = none_old_blocks time row (of_shapes time row ∙ none)

pub some_counted : (time : ℕ) (row : List BlockView) → ages.is_old_row time row ≡ true → 0 < old_blocks time row
some_counted time row some = some_old time row (of_shapes time row ∙ some)

-- the rows of so many first sources, as far as they are old
pub record AreFound (time : ℕ) (rows : ℕ → List BlockView) (n : ℕ) (found : List OldRow) : Type 0 where
  pub distinct : AllPairs (λ a b. a ≢ b) (old_sources found)
  pub below : All (λ r. r.source.0 < n) found
  pub blocks : All (λ r. (r.blocks ≡ old_blocks time (rows r.source.0)) × (0 < r.blocks)) found
  pub listed : (s : ℕ) → s < n → 0 < old_blocks time (rows s) → list_any (nat_eq s) (old_sources found) ≡ true

module _ (time : ℕ) (rows : ℕ → List BlockView) (n : ℕ) (found : List OldRow) (are : AreFound time rows n found) where
  abbrev source : OldRow → ℕ
  source r = r.source.0

  -- so are those of more first sources, where none between is old
  pub found_no_more : (m : ℕ) → n ≤ m → ((s : ℕ) → n ≤ s → s < m → ages.is_old_row time (rows s) ≡ false) → AreFound time rows m found
  found_no_more m le none = record {
    distinct = are.distinct;
    below = All-weaker (λ (r : OldRow). r.source.0 < n) (λ (r : OldRow). r.source.0 < m) (λ r lt. omega arith) found are.below;
    blocks = are.blocks;
    listed = λ s lt old. elim (ltb s n) as (λ b. ltb s n ≡ b → list_any (nat_eq s) (old_sources found) ≡ true) [
      | true ↦ λ t. are.listed s (ltb-true s n t) old
      | false ↦ λ f. let zero = none_counted time (rows s) (none s (ltb-false s n f) lt) in absurd (omega arith)
    ] refl;
  }

  pub found_more : (r : OldRow) → r.source.0 ≡ n → r.blocks ≡ old_blocks time (rows n) → 0 < r.blocks
      → AreFound time rows (n + 1) (found ++ r ∷ [])
  found_more r at blocks some =
      let IsRight : OldRow → Type 0 = λ (q : OldRow). (q.blocks ≡ old_blocks time (rows q.source.0)) × (0 < q.blocks) in
      let sources_are : old_sources (found ++ r ∷ []) ≡ old_sources found ++ r.source.0 ∷ [] = map-append source found (r ∷ []) in
      let any : (s : ℕ) → list_any (nat_eq s) (old_sources (found ++ r ∷ []))
      ≡ (list_any (nat_eq s) (old_sources found) || ((s == r.source.0) || false)) =
      λ s. ap (list_any (nat_eq s)) sources_are ∙ list_any-append (nat_eq s) (old_sources found) (r.source.0 ∷ []) in
      record {
        distinct = subst (λ (ss : List ℕ). AllPairs (λ a b. a ≢ b) ss) (sym sources_are)
            (all_pairs_push (λ a b. a ≢ b) (old_sources found) r.source.0 are.distinct (λ k d lt e.
            let long = length-map found source in
            let below = are.below k r (omega arith) in
            let there : get_or (old_sources found) k d ≡ source (get_or found k r) = get_or-map source found k r d (omega arith) in
            absurd (omega arith)));
        below = All-push (λ (q : OldRow). q.source.0 < n + 1) found r
            (All-weaker (λ (q : OldRow). q.source.0 < n) (λ (q : OldRow). q.source.0 < n + 1) (λ q lt. omega arith) found are.below)
            (omega arith);
        blocks = All-push IsRight found r are.blocks (blocks ∙ ap (λ x. old_blocks time (rows x)) (sym at), some);
        listed = λ s lt old. any s ∙ elim (ltb s n) as (λ b. ltb s n ≡ b
            → (list_any (nat_eq s) (old_sources found) || ((s == r.source.0) || false)) ≡ true) [
              | true ↦ λ t. ap (λ b. b || ((s == r.source.0) || false)) (are.listed s (ltb-true s n t) old)
              | false ↦ λ f. let far = ltb-false s n f in
                  let here : s ≡ r.source.0 = omega arith in
                  ap (λ b. list_any (nat_eq s) (old_sources found) || (b || false)) (ap (λ x. x == r.source.0) here
                  ∙ true_from_ne_false (r.source.0 == r.source.0) (λ no. eqb-false r.source.0 r.source.0 no refl))
                  ∙ or_true (list_any (nat_eq s) (old_sources found))
            ] refl;
      }

  -- they are all, where no source from there on has an old row
  pub found_all : ((s : ℕ) → n ≤ s → ages.is_old_row time (rows s) ≡ false) → AreOldRows time rows found
  found_all none = record {
    distinct = are.distinct;
    blocks = are.blocks;
    all_listed = λ s old. elim (ltb s n) as (λ b. ltb s n ≡ b → list_any (nat_eq s) (old_sources found) ≡ true) [
      | true ↦ λ t. are.listed s (ltb-true s n t) old
      | false ↦ λ f. let zero = none_counted time (rows s) (none s (ltb-false s n f)) in absurd (omega arith)
    ] refl;
  }

-- no block is old where the batch has no expiry
pub none_at_zero : (rows : ℕ → List BlockView) → AreOldRows 0 rows []
none_at_zero rows = record {
  distinct = λ i j d lt within. absurd (omega arith);
  blocks = All-nil (λ (r : OldRow). (r.blocks ≡ old_blocks 0 (rows r.source.0)) × (0 < r.blocks));
  all_listed = λ s old. let none = none_old_blocks 0 (rows s) (none_old (map shape_of (rows s))) in absurd (omega arith);
}

-- a version's old rows are those of its vertices
pub old_is_within : (v : VersionView) → IsVersion v → (time s : ℕ) → 0 < old_blocks time (row_of v.rows s)
    → s < length (content v).names
old_is_within v is time s old = old_within (content v) (layout_of v.rows) time s is.within is.rows.layout
    (elim (has_old_shape time (layout_of v.rows s)) as (λ b. has_old_shape time (layout_of v.rows s) ≡ b → b ≡ true) [
      | true ↦ λ _. refl
      | false ↦ λ f. let none = none_old_blocks time (row_of v.rows s) f in absurd (omega arith)
    ] refl)
