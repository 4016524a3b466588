-- Blocks exchanged for others: nothing, two exchanges as one, and the numbers afterwards.
use Rattle.std.proofs.Common.{◌≡◌, ℕ, zero, suc, ◌≤◌, Bool, false, List, [], ◌++◌, map, ◌==◌, All, refl, ap, ap₂, ◌∙◌, arith, ◌+◌}
use Rattle.std.proofs.lemmas.List.{map-append}
use Rattle.std.proofs.{Common.{◌<◌, length, count_by, flat_map, sym, subst}, lemmas.{Bool.eqb-true, Grind.common_steps}}
use Rattle.graph_types.proofs.{Sums.{count_by-append, count_map}, Times.times}
use Rattle.graph_types.proofs.{Elements.bounded, Joined.flat_same}
use Rattle.edge_block.specs.Slots.{BlockView}
use Rattle.edge_block.proofs.{BatchSums.{lists_below, same_lists_below}, BlockCounts.rows_of_others}
use Rattle.graph_version.specs.Versions.{is_in}
use Rattle.graph_version.proofs.NumbersIn.{unlisted_here}
use Rattle.batch_shards.specs.Done.{Exchanges}
use Rattle.graph_version.specs.{Drafts.row_among, Rows.{row_of, blocks_of, numbers_of}}
use Rattle.graph_version.proofs.{RowBlocks.split_rows, RowsAmong.{sources_of, among_none, among_all}}

pub nothing_exchanged : Exchanges [] [] [] []
nothing_exchanged = record { kept = []; fresh = []; taken_are = refl; before_are = λ p. refl; after_are = λ p. refl }

pub both_exchanged : (b c b' c' : List BlockView) (t t' : List ℕ) (d d' : List BlockView) → Exchanges b c t d
    → Exchanges b' c' t' d' → Exchanges (b ++ b') (c ++ c') (t ++ t') (d ++ d')
both_exchanged b c b' c' t t' d d' e e' = record {
  kept = e.kept ++ e'.kept;
  fresh = e.fresh ++ e'.fresh;
  taken_are = map-append (λ (b : BlockView). b.number) e.fresh e'.fresh ∙ ap₂ (λ x y. x ++ y) e.taken_are e'.taken_are;
  before_are = λ p.
      omega (arith, e.before_are p, e'.before_are p, count_by-append p e.kept e'.kept, count_by-append p d d', count_by-append p b b');
  after_are = λ p.
      omega (
        arith,
        e.after_are p,
        e'.after_are p,
        count_by-append p e.kept e'.kept,
        count_by-append p e.fresh e'.fresh,
        count_by-append p c c',
      );
}

pub numbers_once : (before after : List BlockView) (taken : List ℕ) (dropped : List BlockView) (numbers : List ℕ)
    → Exchanges before after taken dropped
    → ((m : ℕ) → times m (numbers_of before) ≤ 1) → ((m : ℕ) → times m taken ≤ times m numbers)
    → ((m : ℕ) → times m numbers ≤ 1)
    → All (λ n. is_in n (numbers_of before) ≡ false) numbers → (m : ℕ) → times m (numbers_of after) ≤ 1
numbers_once before after taken dropped numbers e b t n all m =
    let p : BlockView → Bool = λ x. x.number == m in
    let b1 = b m in
    let t1 = t m in
    let n1 = n m in
    let c1 = e.before_are p in
    let c2 = e.after_are p in
    let m1 = count_map (λ x. x == m) (λ (x : BlockView). x.number) before in
    let m2 = count_map (λ x. x == m) (λ (x : BlockView). x.number) after in
    let m3 = count_map (λ x. x == m) (λ (x : BlockView). x.number) e.fresh in
    let same : times m (map (λ (x : BlockView). x.number) e.fresh) ≡ times m taken = ap (times m) e.taken_are in
    elim (times m numbers) as (λ k. times m numbers ≡ k → times m (numbers_of after) ≤ 1) [
      | zero ↦ λ z. omega (arith, z, b1, t1, c1, c2, m1, m2, m3, same)
      | suc k ↦ λ z. let none = unlisted_here m numbers (numbers_of before) all (omega (arith, z)) in omega
          (arith, none, n1, t1, c1, c2, m1, m2, m3, same)
    ] refl

-- what is exchanged in the replaced rows is exchanged in the whole
module _ (xs : List ℕ) (rows : List (ℕ × List BlockView)) (before after : List (List BlockView)) (k : ℕ)
    (once : (m : ℕ) → times m xs ≤ 1) (within : All (λ x. x < k) xs)
    (sources : sources_of rows ≡ xs) (among : (s : ℕ) → row_of after s ≡ row_among rows s (row_of before s)) where
  abbrev bound : ℕ
  bound = length before + (length after + k)

  abbrev rest : List BlockView
  rest = lists_below bound (rows_of_others xs (row_of before))

  same_rest : lists_below bound (rows_of_others xs (row_of after)) ≡ rest
  same_rest = grind (arith, common_steps, same_lists_below, times, among_none, eqb-true)

  new_rows : flat_map (row_of after) xs ≡ flat_map (λ r. r.1) rows
  new_rows =
      flat_same (row_of after) (λ s. row_among rows s (row_of before s)) xs among
      ∙ ap (flat_map (λ s. row_among rows s (row_of before s))) (sym sources)
      ∙ among_all rows (row_of before) (λ m. subst (λ ss. times m ss ≤ 1) (sym sources) (once m))

  pub exchanged_all : (taken : List ℕ) (dropped : List BlockView)
      → Exchanges (flat_map (row_of before) xs) (flat_map (λ r. r.1) rows) taken dropped
      → Exchanges (blocks_of before) (blocks_of after) taken dropped
  exchanged_all taken dropped e = record {
    kept = rest ++ e.kept;
    fresh = e.fresh;
    taken_are = e.taken_are;
    before_are = λ p.
        let a = split_rows xs once p before bound (omega arith) (bounded k bound xs (omega arith) within) in
        let b = e.before_are p in
        let c = count_by-append p rest e.kept in
        omega (arith, a, b, c);
    after_are = λ p.
        let a = split_rows xs once p after bound (omega arith) (bounded k bound xs (omega arith) within) in
        let b = e.after_are p in
        let c = count_by-append p rest e.kept in
        let d = ap (count_by p) same_rest in
        let f = ap (count_by p) new_rows in
        omega (arith, a, b, c, d, f);
  }
