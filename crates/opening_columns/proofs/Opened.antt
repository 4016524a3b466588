-- The version over blocks that have what operations leave.
use Rattle.std.proofs.Common.{◌≡◌, ◌<◌, ◌≤◌, ◌==◌, ◌∙◌, ◌∷◌, [], ℕ, List, All, AllPairs, refl, sym, ap, subst, arith, filter, length, replicate, is_some, true≢false}
use Rattle.std.proofs.lemmas.{List.Kept.AllPairs-filter}
use Rattle.std.specs.{Prelude.{IfOk, IfErr, Result, Ok, Err}, FinMap.{FinMap, empty, get-empty}}
use Rattle.graph_types.specs.{Graph.{Graph, Stamp, HasWeights, key_cmp, map_of}, Limits.{LimitsView, AreLimits}}
use Rattle.graph_types.specs.{Step.{after, after_all, empty_graph_in}, declared.{batches.NamedOp.NamedOp, ids.Edge.Edge}}
use Rattle.graph_types.proofs.{Empty.empty_weights, Keys.HasKeysOnce, OperationParts.{after_is, parts_over}, WeightsKept.HasWeights-after_all}
use Rattle.edge_block.{specs.{Batches.HasEndsWithin, Slots.{BlockView}}, proofs.OperationLaws.step_within}
use Rattle.vertex_names.specs.Book.{Book}
use Rattle.graph_version.specs.{Begun.{begun_over, graph_by}, Edges.edges_in_blocks, Rows.{blocks_of, numbers_of, row_of}, Versions.{IsVersion, VersionView}}
use Rattle.block_pool.specs.Pools.{marked}
use Rattle.block_reclamation.specs.declared.status.BlockStatus.{BlockStatus, TheVariants.{Free, Used}}
use Rattle.batch_columns.specs.Operations.{OperationTable}
use Rattle.opening_columns.specs.{Edges.{AreRising, IsWithinBounds}, Numbers.{AreTaken, RefusesRows}, Packed.{ArePacked, IsPackedRow}, Puts.{after_puts, graph_of_puts, key_number}}
use Rattle.opening_columns.specs.{Openings.{AreLaidOut, AreLeft, IsLeftOf, IsMadeOf, RefusesColumns, RefusesEdges}, declared.{making.Made.Made, numbering.Put.Put}}
use Rattle.opening_columns.specs.declared.errors.OpenColumnsError.{OpenColumnsError}
use Rattle.opening_columns.specs.declared.errors.OpenColumnsError.TheVariants as told
use Rattle.opening_columns.proofs.Assembled.{IsFullPair, all_edges, blocks_packed, none_blank, own_source, rows_are, sources_rise}

-- the edges that sorted rows leave, with the names of the rows
pub left_is : (limits : LimitsView) (t : OperationTable) (names kinds : Book) (old new lent : List Put) (most : ℕ)
    (edges : List Edge) → ((ops : List NamedOp) × AreTaken limits t (length t.sorts) ops
    × (graph_of_puts t limits names.names kinds.names old ≡ after_all ops (empty_graph_in limits)))
    → (names.limit ≡ limits.names) × (kinds.limit ≡ limits.kinds) → lent ≡ new → most ≡ limits.weight
    → ((t : OperationTable) → (most : ℕ) → (edges : FinMap key_cmp Stamp) → after_puts t most new edges ≡ after_puts t most old edges)
    → map_of edges ≡ after_puts t most lent empty → AreRising edges → All IsWithinBounds edges
    → IsLeftOf limits t names kinds edges
left_is limits t names kinds old new lent most edges (ops, taken, graph) same_limits is weight same map rising range = record {
  ops = ops;
  taken = taken;
  left = record {
    names_limit = same_limits.0;
    kinds_limit = same_limits.1;
    rising = rising;
    range = range;
    graph = ap (λ (m : FinMap key_cmp Stamp). record { names = names.names; kinds = kinds.names; edges = m; limits = limits })
        (map ∙ (λ i. after_puts t (weight i) (is i) empty) ∙ same t limits.weight empty)
        ∙ graph;
  };
}

-- operations leave edges between names that are there
ends_after : (ops : List NamedOp) (g : Graph) → HasEndsWithin g → HasEndsWithin (after_all ops g)
ends_after [] g within = within
ends_after (op ∷ ops) g within =
    ends_after ops (after op g) (subst HasEndsWithin (sym (after_is op g)) (step_within (parts_over op g) g within))

no_ends : (limits : LimitsView) → HasEndsWithin (empty_graph_in limits)
no_ends limits k is = absurd (true≢false (sym is ∙ ap is_some (get-empty key_cmp k)))

rising_once : (edges : List Edge) → AreRising edges → HasKeysOnce edges
rising_once edges up i j d lt within same = let less = up i j d lt within in let numbers = ap key_number same in omega arith

module _ (limits : LimitsView) (blocks : ℕ) (ops : List NamedOp) (names kinds : Book) (edges : List Edge) (bs : List BlockView)
    (pool : List BlockStatus) (left : AreLeft limits ops names kinds edges) (laid : AreLaidOut blocks edges bs pool) where
  edges_are : edges_in_blocks bs ≡ edges
  edges_are = all_edges laid.runs bs laid.filled ∙ laid.are.all

  -- the blocks come by rising sources
  pub rise : AllPairs (λ a b. a.source ≤ b.source) bs
  rise =
      sources_rise laid.runs bs laid.are.each laid.filled (subst AreRising (sym laid.are.all) left.rising)
      (subst (All IsWithinBounds) (sym laid.are.all) left.range)

  module _ (rows : List (List BlockView)) (whole : blocks_of rows ≡ bs)
      (made : (s : ℕ) → row_of rows s ≡ filter (λ b. b.source == s) bs) where
    pub many : edges_in_blocks (blocks_of rows) ≡ edges
    many = ap edges_in_blocks whole ∙ edges_are

    graph : graph_by limits names.names kinds.names rows ≡ after_all ops (empty_graph_in limits)
    graph =
        (λ i. record { names = names.names; kinds = kinds.names; edges = map_of (many i); limits = limits }) ∙ left.graph

    packed : ArePacked rows
    packed s =
        subst IsPackedRow (sym (made s)) (λ i j d lt within kind.
        AllPairs-filter IsFullPair (λ (b : BlockView). b.source == s) bs
        (blocks_packed laid.runs bs laid.are.each laid.filled laid.are.packed) i j d lt within
        (own_source s bs i d (omega arith) ∙ sym (own_source s bs j d within)) kind)

    pub version_is : AreLimits limits → length (after_all ops (empty_graph_in limits)).names ≤ limits.names
        → length (after_all ops (empty_graph_in limits)).kinds ≤ limits.kinds
        → IsVersion (begun_over limits names.names kinds.names rows)
    version_is walls few few_kinds = record {
      rows = rows_are rows bs (graph_by limits names.names kinds.names rows) made whole
          (subst HasKeysOnce (sym edges_are) (rising_once edges left.rising)) (ap (λ (es : List BlockView). map_of (edges_in_blocks es)) (sym whole))
          (none_blank laid.runs bs laid.are.each laid.filled) laid.distinct;
      within = subst HasEndsWithin (sym graph) (ends_after ops (empty_graph_in limits) (no_ends limits));
      small = (let names_same = ap (λ (g : Graph). length g.names) graph in
          let kinds_same = ap (λ (g : Graph). length g.kinds) graph in
          record {
            names = omega arith;
            kinds = omega arith;
            count = omega arith;
            limits = walls;
            weights = subst HasWeights (sym graph) (HasWeights-after_all ops (empty_graph_in limits) (empty_weights limits));
          });
    }

    pub made_is : (t : OperationTable) (version : VersionView) → AreTaken limits t (length t.sorts) ops
        → AreLimits limits → version ≡ begun_over limits names.names kinds.names rows
        → IsMadeOf limits blocks t (record { version = version; pool = pool })
    made_is t version taken walls is =
        subst (λ (v : VersionView). IsMadeOf limits blocks t (record { version = v; pool = pool })) (sym is) (record {
          ops = ops;
          taken = taken;
          opened = record {
            opening = graph;
            batches = refl;
            version = version_is walls taken.names taken.kinds;
            packed = packed;
          };
          within = subst (λ (xs : List BlockView). All (λ n. n < blocks) (numbers_of xs)) (sym whole) laid.within;
          pool = laid.pool_is
              ∙ ap (λ (xs : List BlockView). marked (numbers_of xs) (Used 0) (replicate blocks Free)) (sym whole);
        })

-- why there is none
pub rows_refused : (limits : LimitsView) (blocks : ℕ) (t : OperationTable) (place : ℕ) (error : OpenColumnsError)
    → RefusesRows limits t place error → RefusesColumns limits blocks t place error
rows_refused limits blocks t place (told.BadOperation error) is = is
rows_refused limits blocks t place told.NamesFull is = is
rows_refused limits blocks t place told.KindsFull is = is
rows_refused limits blocks t place told.OutOfMemory is = is
rows_refused limits blocks t place told.BadLength is = absurd is.told
rows_refused limits blocks t place (told.PoolEmpty needed free) is = absurd is.told

pub edges_refused : (limits : LimitsView) (blocks : ℕ) (t : OperationTable) (place : ℕ) (error : OpenColumnsError)
    (names kinds : Book) (edges : List Edge) → IsLeftOf limits t names kinds edges → place ≡ 0
    → RefusesEdges blocks edges error → RefusesColumns limits blocks t place error
edges_refused limits blocks t place (told.PoolEmpty needed free) names kinds edges left first is = (
  first,
  is.0,
  is.1,
  record {
    ops = left.ops;
    taken = left.taken;
    edges = edges;
    are = ap (λ (g : Graph). g.edges) left.left.graph;
    rising = left.left.rising;
    needs = is.2;
  },
)
edges_refused limits blocks t place told.OutOfMemory names kinds edges left first is = first
edges_refused limits blocks t place told.BadLength names kinds edges left first is = absurd is
edges_refused limits blocks t place told.NamesFull names kinds edges left first is = absurd is
edges_refused limits blocks t place told.KindsFull names kinds edges left first is = absurd is
edges_refused limits blocks t place (told.BadOperation error) names kinds edges left first is = absurd is

-- whatever comes of it
pub made_in : (limits : LimitsView) (blocks : ℕ) (t : OperationTable) (names kinds : Book) (edges : List Edge)
    (r : Result Made OpenColumnsError) → IsLeftOf limits t names kinds edges
    → IfOk r (λ made. (s : OperationTable) → IsLeftOf limits s names kinds edges → IsMadeOf limits blocks s made)
    → IfOk r (IsMadeOf limits blocks t)
made_in limits blocks t names kinds edges (Ok made) left from = from t left
made_in limits blocks t names kinds edges (Err error) left from = tt

pub refused_in : (limits : LimitsView) (blocks : ℕ) (t : OperationTable) (names kinds : Book) (edges : List Edge)
    (r : Result Made OpenColumnsError) → IsLeftOf limits t names kinds edges → IfErr r (RefusesEdges blocks edges)
    → IfErr r (RefusesColumns limits blocks t 0)
refused_in limits blocks t names kinds edges (Ok made) left from = tt
refused_in limits blocks t names kinds edges (Err error) left from =
    edges_refused limits blocks t 0 error names kinds edges left refl from
