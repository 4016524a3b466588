-- A version 0 over copies of another version's blocks, or over its very rows.
use Rattle.std.proofs.Common.{◌≡◌, ◌≢◌, ℕ, zero, suc, ◌+◌, ◌*◌, ◌<◌, ◌≤◌, List, [], ◌∷◌, ◌++◌, map, length, take, drop, get_or}
use Rattle.std.proofs.Common.{refl, sym, ap, subst, ◌∙◌, arith, inl, inr, All, AllPairs, length-append, Bool, true}
use Rattle.std.proofs.lemmas.List.{take-append-drop, length-map, map-append}
use Rattle.std.proofs.lemmas.{List.{drop_more, get_or_past, Elements.{All-head, All-tail, All-cons}}, Bool.cases_lt}
use Rattle.std.{proofs.lemmas.Bool.Decides.eqb_tells, specs.{declared.{sync.Arc.Arc, alloc.Global.Global}, FinMap.{len, get}}}
use Rattle.std.{specs.Option.is_some, proofs.lemmas.Grind.common_steps}
use Rattle.graph_types.specs.{Graph.{key_of, stamp_of, IsContent, IsContentIn, HasWeights, Graph, graph_in}, Limits.LimitsView}
use Rattle.graph_types.{specs.declared.{batches.NamedOp.NamedOp, contents.Content.Content, ids.Edge.Edge}, proofs.Keys.get_listed}
use Rattle.graph_types.{specs.Limits.AreLimits, proofs.{LimitsKept.{limits_left_by, each_fits, sums_within}, WeightsKept.weights_listed}}
use Rattle.graph_types.specs.Step.{left_by}
use Rattle.graph_types.proofs.ListPlaces.{length_dropped, map_take, take_front, map_drop, drop_front, at_drop, same_by_place}
use Rattle.edge_block.specs.{Slots.{IsStamp, Slot, BlockView, entry_in, entries_of, edges_in}, Lending.{lent_of}}
use Rattle.edge_block.specs.{declared.blocks.Block.Block, Rows.shape_of, Batches.{IsLayoutOf, HasEndsWithin}}
use Rattle.edge_block.proofs.BlockCounts.{at_source, elsewhere}
use Rattle.vertex_names.specs.Book.{Book}
use Rattle.graph_version.specs.{Rows.{row_of, blocks_of, numbers_of, Replaces}, Sharing.{block_value, block_values}}
use Rattle.graph_version.specs.{Versions.{VersionView, IsBlockOf, AreRowsOf, IsVersion, content, layout_of}, Edges.edge_from}
use Rattle.graph_version.specs.{Edges.{edges_in_block, edges_in_blocks}, Kept.{vertex_book, kind_book, version_of, IsSummary}, Logs.keeps_batches}
use Rattle.graph_version.specs.LentEdges.{lent_as_edge}
use Rattle.graph_version.specs.Rebased.{AreCopies, IsRebased, rows_like, unnumbered}
use Rattle.graph_version.proofs.{Shown.rows_each_once, Totals.same_blocks}

-- Rows like others

length-rows_like : (rows : List (List BlockView)) (bs : List BlockView) → length (rows_like rows bs) ≡ length rows
length-rows_like [] bs = refl
length-rows_like (row ∷ rows) bs = ap suc (length-rows_like rows (drop (length row) bs))

-- they are all of the blocks
pub blocks_like : (rows : List (List BlockView)) (bs : List BlockView) → length bs ≡ length (blocks_of rows)
    → blocks_of (rows_like rows bs) ≡ bs
blocks_like [] [] long = refl
blocks_like [] (b ∷ bs) long = absurd (omega arith)
blocks_like (row ∷ rows) bs long =
    let both = length-append row (blocks_of rows) in
    let rest = length_dropped (length row) bs in
    ap (λ xs. take (length row) bs ++ xs) (blocks_like rows (drop (length row) bs) (omega arith))
    ∙ take-append-drop (length row) bs

-- rows of blocks that are the same but for their numbers
pub unnumbered_like : (rows : List (List BlockView)) (bs : List BlockView)
    → map unnumbered bs ≡ map unnumbered (blocks_of rows) → (s : ℕ)
    → map unnumbered (row_of (rows_like rows bs) s) ≡ map unnumbered (row_of rows s)
unnumbered_like [] bs same s = refl
unnumbered_like (row ∷ rows) bs same zero = grind (arith, common_steps, map_take, map-append, length-map, take_front)
unnumbered_like (row ∷ rows) bs same (suc s) =
    unnumbered_like rows (drop (length row) bs)
    (map_drop unnumbered (length row) bs ∙ ap (drop (length row)) (same ∙ map-append unnumbered row (blocks_of rows))
    ∙ ap (λ n. drop n (map unnumbered row ++ map unnumbered (blocks_of rows))) (sym (length-map row unnumbered))
    ∙ drop_front (map unnumbered row) (map unnumbered (blocks_of rows))) s

-- The rows so far

-- the rows of the first sources are made, those of the others are empty, and the blocks left are for these
pub record AreSoFar (rows : List (List BlockView)) (blocks : List BlockView) (k : ℕ) (copy : List (List BlockView))
    (left : List BlockView) : Type 0 where
  pub made : (s : ℕ) → s < k → row_of copy s ≡ row_of (rows_like rows blocks) s
  pub none : (s : ℕ) → k ≤ s → row_of copy s ≡ []
  pub rest : rows_like (drop k rows) left ≡ drop k (rows_like rows blocks)
  pub many : length left ≡ length (blocks_of (drop k rows))

-- one row more
pub row_more : (rows : List (List BlockView)) (blocks : List BlockView) (k : ℕ) (copy next : List (List BlockView))
    (left row rest : List BlockView) → AreSoFar rows blocks k copy left → k < length rows
    → row ≡ take (length (row_of rows k)) left → rest ≡ drop (length (row_of rows k)) left → Replaces k row copy next
    → AreSoFar rows blocks (k + 1) next rest
row_more rows blocks k copy next left row rest so_far lt row_is rest_is replaced =
    let n : ℕ = length (row_of rows k) in
    let all : List (List BlockView) = rows_like rows blocks in
    let at : drop k rows ≡ row_of rows k ∷ drop (k + 1) rows = drop_more rows k [] lt in
    let cut : take n left ∷ rows_like (drop (k + 1) rows) (drop n left) ≡ drop k all =
    ap (λ rs. rows_like rs left) (sym at) ∙ so_far.rest in
    let long = length-rows_like rows blocks in
    let here : row ≡ row_of all k = row_is ∙ ap (λ rs. get_or rs 0 []) cut ∙ at_drop all k [] in
    let behind : drop k all ≡ row_of all k ∷ drop (k + 1) all = drop_more all k [] (omega arith) in
    let many : length left ≡ length (row_of rows k ++ blocks_of (drop (k + 1) rows)) =
    so_far.many ∙ ap (λ rs. length (blocks_of rs)) at in
    let both = length-append (row_of rows k) (blocks_of (drop (k + 1) rows)) in
    let fewer = length_dropped n left in
    record {
      made = λ s below. elim (eqb_tells s k) [
        | inl e ↦ replaced s ∙ at_source k s row (row_of copy s) e.1 ∙ here ∙ ap (row_of all) (sym e.1)
        | inr e ↦ replaced s ∙ elsewhere k s row (row_of copy s) e.1
            ∙ so_far.made s (let apart = e.1 in below_or s k below apart)
      ];
      none = λ s from. replaced s ∙ elsewhere k s row (row_of copy s) (λ e. absurd (omega arith)) ∙ so_far.none s (omega arith);
      rest = ap (rows_like (drop (k + 1) rows)) rest_is ∙ ap (drop 1) (cut ∙ behind);
      many = ap length rest_is ∙ omega (arith, fewer, many, both);
    } where
      below_or : (s m : ℕ) → s < m + 1 → s ≢ m → s < m
      below_or s m lt apart = omega arith

pub all_made : (rows : List (List BlockView)) (blocks : List BlockView) (k : ℕ) (copy : List (List BlockView))
    (left : List BlockView) → AreSoFar rows blocks k copy left → length rows ≤ k → (s : ℕ)
    → row_of copy s ≡ row_of (rows_like rows blocks) s
all_made rows blocks k copy left so_far le s = grind (arith, common_steps, length-rows_like, cases_lt, get_or_past)

-- The version

shapes_same : (xs : List BlockView) → map shape_of xs ≡ map shape_of (map unnumbered xs)
shapes_same [] = refl
shapes_same (x ∷ xs) = ap (λ ys. shape_of x ∷ ys) (shapes_same xs)

unnumbered_block : (source : ℕ) (x y : BlockView) → unnumbered x ≡ unnumbered y → IsBlockOf source y → IsBlockOf source x
unnumbered_block source x y same is = grind (arith, common_steps)

blocks_same : (source : ℕ) (xs ys : List BlockView) → map unnumbered xs ≡ map unnumbered ys → All (IsBlockOf source) ys
    → All (IsBlockOf source) xs
blocks_same source [] ys same all = λ k d h. absurd (omega arith)
blocks_same source (x ∷ xs) [] same all = cc
blocks_same source (x ∷ xs) (y ∷ ys) same all =
    let heads : unnumbered x ≡ unnumbered y = ap (λ l. get_or l 0 (unnumbered x)) same in
    let tails : map unnumbered xs ≡ map unnumbered ys = ap (drop 1) same in
    All-cons (IsBlockOf source) x xs (unnumbered_block source x y heads (All-head (IsBlockOf source) y ys all))
    (blocks_same source xs ys tails (All-tail (IsBlockOf source) y ys all))

-- rows that look as the copies in rows
pub record LookLike (v : VersionView) (blocks : List BlockView) (copy : List (List BlockView)) : Type 0 where
  pub copies : AreCopies v.rows blocks
  pub looks : (s : ℕ) → row_of copy s ≡ row_of (rows_like v.rows blocks) s

copies_long : (v : VersionView) (blocks : List BlockView) → AreCopies v.rows blocks → length blocks ≡ length (blocks_of v.rows)
copies_long v blocks copies = grind (arith, common_steps, length-map)

pub look_blocks : (v : VersionView) (blocks : List BlockView) (copy : List (List BlockView)) → LookLike v blocks copy
    → blocks_of copy ≡ blocks
look_blocks v blocks copy like =
    same_blocks copy (rows_like v.rows blocks) like.looks ∙ blocks_like v.rows blocks (copies_long v blocks like.copies)

look_rows : (v : VersionView) (blocks : List BlockView) (copy : List (List BlockView)) → LookLike v blocks copy → (s : ℕ)
    → map unnumbered (row_of copy s) ≡ map unnumbered (row_of v.rows s)
look_rows v blocks copy like s = ap (map unnumbered) (like.looks s) ∙ unnumbered_like v.rows blocks like.copies.same s

pub look_layout : (v : VersionView) (blocks : List BlockView) (copy : List (List BlockView)) → LookLike v blocks copy
    → (s : ℕ) → layout_of copy s ≡ layout_of v.rows s
look_layout v blocks copy like s = grind (arith, common_steps, shapes_same, look_rows)

look_rows_of : (v : VersionView) (blocks : List BlockView) (copy : List (List BlockView)) (g : Graph) → IsVersion v
    → LookLike v blocks copy → g ≡ content v → AreRowsOf g copy
look_rows_of v blocks copy g is like same = record {
  layout = subst (λ l. IsLayoutOf l g.edges) (λ i s. sym (look_layout v blocks copy like s) i)
      (subst (λ (h : Graph). IsLayoutOf (layout_of v.rows) h.edges) (sym same) is.rows.layout);
  blocks = λ source. blocks_same source (row_of copy source) (row_of v.rows source) (look_rows v blocks copy like source)
      (is.rows.blocks source);
  numbers = subst (λ (bs : List BlockView). AllPairs ◌≢◌ (numbers_of bs)) (sym (look_blocks v blocks copy like))
      like.copies.apart;
}

-- over rows with the other version's edges
version_over : (v : VersionView) (rows : List (List BlockView)) (g : Graph) → IsVersion v → g ≡ content v → AreRowsOf g rows
    → IsVersion (version_of g [] rows)
version_over v rows g is same are = record {
  rows = are;
  within = subst HasEndsWithin (sym same) is.within;
  small = record {
    names = subst (λ (h : Graph). length h.names ≤ h.limits.names) (sym same) is.small.names;
    kinds = subst (λ (h : Graph). length h.kinds ≤ h.limits.kinds) (sym same) is.small.kinds;
    count = omega arith;
    limits = subst (λ (h : Graph). AreLimits h.limits) (sym same) is.small.limits;
    weights = subst HasWeights (sym same) is.small.weights;
  };
}

-- what the other version keeps this one keeps
kept_over : (names kinds old_names old_kinds : Book) (v : VersionView)
    (batches : List (List NamedOp)) (rows : List (List BlockView)) (g : Graph) (edges : ℕ) (keeps old_keeps : Bool)
    → IsSummary old_names old_kinds edges old_keeps v → keeps ≡ keeps_batches v.opening.limits
    → names ≡ old_names → kinds ≡ old_kinds → batches ≡ [] → g ≡ content v → AreRowsOf g rows
    → IsSummary names kinds edges keeps (version_of g batches rows)
kept_over names kinds old_names old_kinds v batches rows g edges keeps old_keeps is kept n k none same are =
    subst (λ (bs : List (List NamedOp)). IsSummary names kinds edges keeps (version_of g bs rows)) (sym none) (record {
      names_are = n ∙ is.names_are ∙ ap vertex_book (sym same);
      kinds_are = k ∙ is.kinds_are ∙ ap kind_book (sym same);
      edges_are = is.edges_are ∙ ap (λ (h : Graph). len h.edges) (sym same);
      keeps_are = kept ∙ ap keeps_batches (sym (ap (λ (h : Graph). h.limits) same ∙ limits_left_by v.batches v.opening));
      version = version_over v rows g is.version same are;
    })

pub rebased_kept : (names kinds old_names old_kinds : Book) (v : VersionView) (blocks : List BlockView)
    (batches : List (List NamedOp)) (copy : List (List BlockView)) (g : Graph) (edges : ℕ) (keeps old_keeps : Bool)
    → IsSummary old_names old_kinds edges old_keeps v → keeps ≡ keeps_batches v.opening.limits
    → names ≡ old_names → kinds ≡ old_kinds → batches ≡ [] → LookLike v blocks copy → g ≡ content v
    → IsSummary names kinds edges keeps (version_of g batches copy)
rebased_kept names kinds old_names old_kinds v blocks batches copy g edges keeps old_keeps is kept n k none like same =
    kept_over names kinds old_names old_kinds v batches copy g edges keeps old_keeps is kept n k none same
    (look_rows_of v blocks copy g is.version like same)

pub rebased_is : (v : VersionView) (blocks : List BlockView) (batches : List (List NamedOp)) (copy : List (List BlockView))
    (g : Graph) → batches ≡ [] → LookLike v blocks copy → g ≡ content v → IsRebased v (version_of g batches copy)
rebased_is v blocks batches copy g none like same = grind (arith, common_steps, look_layout)

-- Over the very rows of the other version

pub reopened_kept : (names kinds old_names old_kinds : Book) (v : VersionView)
    (batches : List (List NamedOp)) (rows : List (List BlockView)) (g : Graph) (edges : ℕ) (keeps old_keeps : Bool)
    → IsSummary old_names old_kinds edges old_keeps v → keeps ≡ keeps_batches v.opening.limits
    → names ≡ old_names → kinds ≡ old_kinds → batches ≡ [] → rows ≡ v.rows → g ≡ content v
    → IsSummary names kinds edges keeps (version_of g batches rows)
reopened_kept names kinds old_names old_kinds v batches rows g edges keeps old_keeps is kept n k none very same =
    kept_over names kinds old_names old_kinds v batches rows g edges keeps old_keeps is kept n k none same
    (subst (AreRowsOf g) (sym very) (subst (λ (h : Graph). AreRowsOf h v.rows) (sym same) is.version.rows))

pub reopened_is : (v : VersionView) (batches : List (List NamedOp)) (rows : List (List BlockView)) (g : Graph)
    → batches ≡ [] → rows ≡ v.rows → g ≡ content v → IsRebased v (version_of g batches rows)
reopened_is v batches rows g none very same = record {
  opening = same;
  batches = none;
  rows = λ source. ap (λ (rs : List (List BlockView)). layout_of rs source) very;
}

-- Blocks copied one after another

-- the first blocks hold what those at their places do, and all keep their numbers
pub record AreCopied (held old : List (Arc Block Global)) (k : ℕ) (new : List (Arc Block Global)) : Type 0 where
  pub long : length new ≡ length old
  pub first : (j : ℕ) (d : Arc Block Global) → j < k → unnumbered (block_value (get_or new j d))
      ≡ unnumbered (block_value (get_or held j d))
  pub numbers : (j : ℕ) (d : Arc Block Global) → (block_value (get_or new j d)).number ≡ (block_value (get_or old j d)).number

-- once all are
pub copied_numbers : (held old new : List (Arc Block Global)) (k : ℕ) → AreCopied held old k new
    → numbers_of (block_values new) ≡ numbers_of (block_values old)
copied_numbers held old new k copied = grind (arith, common_steps, same_by_place)

pub copied_same : (held old new : List (Arc Block Global)) (k : ℕ) → AreCopied held old k new → length held ≤ k
    → length held ≡ length old → map unnumbered (block_values new) ≡ map unnumbered (block_values held)
copied_same held old new k copied all many = grind (arith, common_steps, same_by_place)

numbers_mapped : (bs : List (Arc Block Global)) → numbers_of (block_values bs)
    ≡ map (λ (b : Arc Block Global). (block_value b).number) bs
numbers_mapped [] = refl
numbers_mapped (b ∷ bs) = ap (λ ns. (block_value b).number ∷ ns) (numbers_mapped bs)

pub all_copied : (rows : List (List BlockView)) (held old new : List (Arc Block Global))
    → map unnumbered (block_values new) ≡ map unnumbered (block_values held)
    → numbers_of (block_values new) ≡ numbers_of (block_values old) → block_values held ≡ blocks_of rows
    → AllPairs ◌≢◌ (map (λ (b : Arc Block Global). (block_value b).number) old) → AreCopies rows (block_values new)
all_copied rows held old new same numbers held_are apart = grind (arith, common_steps, numbers_mapped)

pub mapped_numbers : (old new : List (Arc Block Global)) → numbers_of (block_values new) ≡ numbers_of (block_values old)
    → numbers_of (block_values new) ≡ map (λ (b : Arc Block Global). (block_value b).number) old
mapped_numbers old new numbers = numbers ∙ numbers_mapped old

pub numbers_long : (a b : List (Arc Block Global)) → numbers_of (block_values a) ≡ numbers_of (block_values b) → length a ≡ length b
numbers_long a b same = grind (arith, common_steps, length-map)

-- the content's lists
pub same_content : (names kinds : Book) (edges : ℕ) (keeps : Bool) (v : VersionView) (c : Content) (l : LimitsView)
    → IsSummary names kinds edges keeps v
    → c.names ≡ names.names → c.kinds ≡ kinds.names → c.edges ≡ edges_in_blocks (blocks_of v.rows)
    → l ≡ v.opening.limits → graph_in l c ≡ content v
same_content names kinds edges keeps v c l is n k e same = grind (arith, common_steps, rows_each_once, limits_left_by)

-- they are a content
pub listed_content : (names kinds : Book) (edges : ℕ) (keeps : Bool) (v : VersionView) (c : Content) (l : LimitsView)
    → IsSummary names kinds edges keeps v
    → AllPairs (λ a b. a ≢ b) c.names → AllPairs (λ a b. a ≢ b) c.kinds → All (λ e. IsStamp (stamp_of e)) c.edges
    → c.edges ≡ edges_in_blocks (blocks_of v.rows) → graph_in l c ≡ content v → IsContentIn l c
listed_content names kinds edges keeps v c l is apart kinds_apart stamps e same =
    let each = rows_each_once (content v) v.rows is.version.rows in
    let once = subst (AllPairs (λ (a b : Edge). key_of a ≢ key_of b)) (sym e) each.once in
    let names_few : length c.names ≤ l.names = subst (λ (g : Graph). length g.names ≤ g.limits.names) (sym same)
    is.version.small.names in
    let kinds_few : length c.kinds ≤ l.kinds = subst (λ (g : Graph). length g.kinds ≤ g.limits.kinds) (sym same)
    is.version.small.kinds in
    let walls : AreLimits l = subst (λ (g : Graph). AreLimits g.limits) (sym same) is.version.small.limits in
    let weights = weights_listed l c once (subst HasWeights (sym same) is.version.small.weights) in
    let content : IsContent c = record {
      names_distinct = apart;
      kinds_distinct = kinds_apart;
      names_few = omega (arith, names_few, walls.names);
      kinds_few = omega (arith, kinds_few, walls.kinds);
      keys_distinct = once;
      edges_within = λ k d lt.
          let x = get_or c.edges k d in
          let there : is_some (get (graph_in l c).edges (key_of x)) ≡ true = ap is_some (get_listed c.edges once k d lt) in
          let at = subst HasEndsWithin (sym same) is.version.within (key_of x) there in
          let stamp = stamps k d lt in
          record {
            kind = at.0;
            source = at.1;
            target = at.2;
            weight = stamp.0;
            first = stamp.1;
            recent = stamp.2;
          };
      sums_fit = each_fits (length c.names * length c.kinds) l.weight c.edges
          (sums_within l (length c.names) (length c.kinds) walls names_few kinds_few) weights;
    } in
    record { content = content; names_few = names_few; kinds_few = kinds_few; weights_few = weights }

-- Edges as they are lent

lent_slots : (b : BlockView) (es : List Slot)
    → map (lent_as_edge b.source) (map lent_of (map (entry_in b) es)) ≡ map edge_from (map (entry_in b) es)
lent_slots b [] = refl
lent_slots b (e ∷ es) = ap (λ l. edge_from (entry_in b e) ∷ l) (lent_slots b es)

pub lent_edges : (b : BlockView) → map (lent_as_edge b.source) (map lent_of (entries_of b)) ≡ edges_in_block b
lent_edges b = lent_slots b (edges_in b.slots)

pub content_rebased : (v new : VersionView) → IsRebased v new → content new ≡ content v
content_rebased v new rebased = λ i. left_by (rebased.batches i) (rebased.opening i)
