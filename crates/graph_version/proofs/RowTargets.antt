-- The targets in a source's row are those that edges of the view lead to.
use Rattle.std.proofs.{Common.{◌≡◌, ℕ, sym, ap, ◌∙◌, subst, List, Some, true}, lemmas.List.Elements.All-contains}
use Rattle.std.specs.{Prelude.IsTrue, Prelude.◌↔◌, List.Contains, FinMap.get}
use Rattle.graph_types.specs.{Graph.{Graph, Key, Stamp, key_of, stamp_of, map_of}, View.in_view, Analyses.LeadsTo}
use Rattle.graph_types.{specs.declared.ids.{Edge.Edge, Filter.Filter}, proofs.Arcs.{contains_map, map_contains}}
use Rattle.graph_types.proofs.{Counts.{contains_filter, filter_contains}, Keys.{get_is, get_listed, find_listed}}
use Rattle.graph_types.proofs.Elements.{contains_flat, flat_contains}
use Rattle.edge_block.specs.Slots.{BlockView, entries_of}
use Rattle.edge_block.proofs.LentEntries.{of_source}
use Rattle.graph_version.specs.Rows.{row_of, blocks_of}
use Rattle.graph_version.specs.{Versions.{AreRowsOf, IsBlockOf}, Edges.{edge_from, edges_in_block, edges_in_blocks}, Shown.shown}
use Rattle.graph_version.{specs.Shown.{shown_in, targets_of}, proofs.Shown.rows_each_once}
use Rattle.graph_version.proofs.Members.{in_rows, row_with}

module _ (g : Graph) (rows : List (List BlockView)) (is : AreRowsOf g rows) (f : Filter) where
  block_source : (source : ℕ) (b : BlockView) → Contains (row_of rows source) b → b.source ≡ source
  block_source source b c = (All-contains (IsBlockOf source) (row_of rows source) b (is.blocks source) c).source_is

  -- an entry of the rows stands in the graph
  pub stands : (b : BlockView) (e : Key × Stamp) → Contains (blocks_of rows) b → Contains (entries_of b) e
      → get g.edges e.0 ≡ Some e.1
  stands b e in_blocks in_block =
      let each = rows_each_once g rows is in
      let there : Contains (edges_in_blocks (blocks_of rows)) (edge_from e) =
      contains_flat edges_in_block (blocks_of rows) b (edge_from e) in_blocks
      (contains_map edge_from (entries_of b) e in_block) in
      ap (λ m. get m e.0) (sym each.same)
      ∙ All-contains (λ (x : Edge). get (map_of (edges_in_blocks (blocks_of rows))) (key_of x) ≡ Some (stamp_of x))
      (edges_in_blocks (blocks_of rows)) (edge_from e) (get_listed (edges_in_blocks (blocks_of rows)) each.once) there

  shown_leads : (source target : ℕ) → Contains (targets_of (shown_in f (row_of rows source))) target → LeadsTo f g source target
  shown_leads source target c =
      let row = row_of rows source in
      let found = map_contains (λ (e : Key × Stamp). e.0.target) (shown_in f row) target c in
      let e = found.0 in
      let place = flat_contains (shown f) row e found.1 in
      let kept = filter_contains (in_view f) (entries_of place.0) e place.2 in
      let from : e.0.source ≡ source = of_source place.0 e kept.0 ∙ block_source source place.0 place.1 in
      let key : ◌≡◌ {A = Key} e.0 (record { kind = e.0.kind; source = source; target = target }) =
      λ i. record { kind = e.0.kind; source = from i; target = found.2 i } in (
        e.0.kind,
        e.1,
        subst (λ k. get g.edges k ≡ Some e.1) key (stands place.0 e (in_rows rows source place.0 place.1) kept.0),
        subst (λ k. IsTrue (in_view f (k, e.1))) key kept.1,
      )

  leads_shown : (source target : ℕ) → LeadsTo f g source target → Contains (targets_of (shown_in f (row_of rows source))) target
  leads_shown source target l =
      let each = rows_each_once g rows is in
      let es : List Edge = edges_in_blocks (blocks_of rows) in
      let key : Key = record { kind = l.0; source = source; target = target } in
      let r = find_listed key es l.1 (sym (get_is key es) ∙ ap (λ m. get m key) each.same ∙ l.2) in
      let place = flat_contains edges_in_block (blocks_of rows) r.0 r.1.0 in
      let b = place.0 in
      let back = map_contains edge_from (entries_of b) r.0 place.2 in
      let e = back.0 in
      let keys : ◌≡◌ {A = Key} key e.0 = r.1.1 ∙ ap key_of (sym back.2) in
      let stamps : ◌≡◌ {A = Stamp} e.1 l.1 = ap stamp_of back.2 ∙ r.1.2 in
      let row = row_with rows b place.1 in
      let from : row.0 ≡ source = sym (block_source row.0 b row.1) ∙ sym (of_source b e back.1)
      ∙ ap (λ (k : Key). k.source) (sym keys) in
      let here : Contains (row_of rows source) b = subst (λ s. Contains (row_of rows s) b) from row.1 in
      let passes : in_view f e ≡ true = ap (in_view f) (λ i. (sym keys i, stamps i)) ∙ l.3 in
      let in_row : Contains (shown_in f (row_of rows source)) e =
      contains_flat (shown f) (row_of rows source) b e here (contains_filter (in_view f) (entries_of b) e passes back.1) in
      subst (Contains (targets_of (shown_in f (row_of rows source)))) (ap (λ (k : Key). k.target) (sym keys))
      (contains_map (λ (x : Key × Stamp). x.0.target) (shown_in f (row_of rows source)) e in_row)

  -- what the row of a source shows under a filter is where the view leads from it
  pub row_targets : (source target : ℕ) → Contains
      (targets_of (shown_in f (row_of rows source))) target ↔ LeadsTo f g source target
  row_targets source target = (shown_leads source target, leads_shown source target)
