use Rattle.std.proofs.Common.{◌≡◌, ◌≤◌, ◌<◌, ◌+◌, ◌++◌, ℕ, List, length, length-append, map, get_or, ap, sym, subst, ◌∙◌, arith}
use Rattle.std.proofs.Common.{nat_eq}
use Rattle.std.{proofs.lemmas.List.length-map, specs.{List.list_any, Prelude.slice_get}}
use Rattle.std.specs.declared.option.Option.TheVariants.{Some}
use Rattle.graph_types.specs.declared.ids.VertexId.{VertexId}
use Rattle.graph_types.proofs.ListPlaces.{ranked_next}
use Rattle.edge_block.specs.Batches.{Resolved, shard_ops}
use Rattle.batch_apply.specs.{Plan.shown_op, OldRows.{old_sources, own_rows}, Shards.source_numbers, FirstSources.{AreFirst, asked_sources}}
use Rattle.batch_apply.specs.declared.{old.OldRow.OldRow, resolve.ResolvedOp.ResolvedOp}
use Rattle.batch_apply.proofs.{First.{old_first, ranked_first, few_asked}, Listing.own_few}
use Rattle.batch_apply.proofs.own_sources.first_sources.Goals as goal

-- what was listed, the old rows' first
listed_all : (first kept after list : List VertexId) (own more : List ℕ) → source_numbers first ≡ own → kept ≡ first
    → source_numbers after ≡ source_numbers kept ++ more → list ≡ after → source_numbers list ≡ own ++ more
listed_all first kept after list own more first_is kept_is after_is list_is =
    ap source_numbers list_is ∙ after_is ∙ ap (λ (l : List ℕ). l ++ more) (ap source_numbers kept_is ∙ first_is)

-- it is no longer than old rows and operations
listed_few : (workers w : ℕ) (ops : List ResolvedOp) (old : List OldRow) (list : List VertexId)
    → source_numbers list ≡ old_sources (own_rows workers w old) ++ asked_sources (shard_ops workers w (map shown_op ops))
    → length list ≤ length old + length ops
listed_few workers w ops old list is =
    let own : List ℕ = old_sources (own_rows workers w old) in
    let more : List ℕ = asked_sources (shard_ops workers w (map shown_op ops)) in
    omega (
      arith,
      ap length is,
      length-append own more,
      length-map list (λ (v : VertexId). v.0),
      length-map ops shown_op,
      few_asked workers w (map shown_op ops),
      own_few workers w old,
    )

pub returns-then-saturating_add-le-FEW-clause-sources : goal.returns-then-saturating_add-le-FEW-clause-sources
returns-then-saturating_add-le-FEW-clause-sources c =
    let rs : List Resolved = map shown_op c.args.ops.now in
    subst (λ (l : List ℕ). AreFirst c.args.workers c.args.worker rs c.args.old.now l) (sym c.in_ok-blocks.ensures.own)
    (old_first c.args.workers c.args.worker rs c.args.old.now c.requires.distinct)

pub returns-then-saturating_add-le-FEW-clause-few : goal.returns-then-saturating_add-le-FEW-clause-few
returns-then-saturating_add-le-FEW-clause-few c = omega (
  arith,
  ap length c.in_ok-blocks.ensures.own,
  own_few c.args.workers c.args.worker c.args.old.now,
  length-map c.list_old.new.sources.items (λ (v : VertexId). v.0),
)

pub rank-requires : goal.rank-requires
rank-requires c =
    let workers : ℕ = c.args.workers in
    let w : ℕ = c.args.worker in
    let all = listed_all c.list_old.new.sources.items c.reserve.new.self.items c.list_asked.new.sources.items c.as_slice.result.now
    (old_sources (own_rows workers w c.args.old.now)) (asked_sources (shard_ops workers w (map shown_op c.args.ops.now)))
    c.in_ok-blocks.ensures.own c.in_ok-reserve.ensures.items c.in_ok-list_asked.ensures c.as_slice.ensures.value in
    record {
      few = omega (
        arith,
        listed_few workers w c.args.ops.now c.args.old.now c.as_slice.result.now all,
        c.requires.few,
        c.requires.few_old,
      );
    }

pub returns-clause-sources : goal.returns-clause-sources
returns-clause-sources c =
    let workers : ℕ = c.args.workers in
    let w : ℕ = c.args.worker in
    let rs : List Resolved = map shown_op c.args.ops.now in
    let own : List ℕ = old_sources (own_rows workers w c.args.old.now) in
    let more : List ℕ = asked_sources (shard_ops workers w rs) in
    let all : source_numbers c.as_slice.result.now ≡ own ++ more = listed_all c.list_old.new.sources.items
    c.reserve.new.self.items c.list_asked.new.sources.items c.as_slice.result.now own more c.in_ok-blocks.ensures.own
    c.in_ok-reserve.ensures.items c.in_ok-list_asked.ensures c.as_slice.ensures.value in
    ranked_first workers w rs c.args.old.now (source_numbers c.in_ok-ranks.ranks.numbers.items) c.requires.placed
    c.in_ok-ranks.ensures.rising (λ n. c.in_ok-ranks.ensures.same n ∙ ap (list_any (nat_eq n)) all)

pub returns-clause-places : goal.returns-clause-places
returns-clause-places c =
    let workers : ℕ = c.args.workers in
    let w : ℕ = c.args.worker in
    let rs : List Resolved = map shown_op c.args.ops.now in
    let own : List ℕ = old_sources (own_rows workers w c.args.old.now) in
    let more : List ℕ = asked_sources (shard_ops workers w rs) in
    let list : List VertexId = c.as_slice.result.now in
    let xs : List ℕ = source_numbers c.in_ok-ranks.ranks.numbers.items in
    let ps : List ℕ = c.in_ok-ranks.ranks.places.items in
    let all : source_numbers list ≡ own ++ more = listed_all c.list_old.new.sources.items c.reserve.new.self.items
    c.list_asked.new.sources.items list own more c.in_ok-blocks.ensures.own c.in_ok-reserve.ensures.items
    c.in_ok-list_asked.ensures c.as_slice.ensures.value in
    let as_many : length list ≡ length (own ++ more) = sym (length-map list (λ (v : VertexId). v.0)) ∙ ap length all in
    let next_is : length own ≡ c.len-next.result = omega (
      arith,
      ap length c.in_ok-blocks.ensures.own,
      length-map c.list_old.new.sources.items (λ (v : VertexId). v.0),
      c.len-next.ensures,
      c.list_old.new.sources.ok.0,
    ) in
    subst (λ n. (length ps ≡ n + length more)
    × ((k : ℕ) → k < length more → slice_get xs (get_or ps (n + k) 0) ≡ Some (get_or more k 0))) next_is
    (ranked_next own more xs ps (c.in_ok-ranks.ensures.long ∙ as_many) (λ k lt. c.in_ok-ranks.ensures.places k (omega (arith, as_many, lt))
    ∙ ap (λ (l : List ℕ). Some (get_or l k 0)) all))

pub returns-clause-few : goal.returns-clause-few
returns-clause-few c =
    let workers : ℕ = c.args.workers in
    let w : ℕ = c.args.worker in
    let all = listed_all c.list_old.new.sources.items c.reserve.new.self.items c.list_asked.new.sources.items c.as_slice.result.now
    (old_sources (own_rows workers w c.args.old.now)) (asked_sources (shard_ops workers w (map shown_op c.args.ops.now)))
    c.in_ok-blocks.ensures.own c.in_ok-reserve.ensures.items c.in_ok-list_asked.ensures c.as_slice.ensures.value in
    omega (arith, listed_few workers w c.args.ops.now c.args.old.now c.as_slice.result.now all, c.in_ok-ranks.ensures.few)
