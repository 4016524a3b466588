-- The operations of some sources alone leave those sources' rows, and their outcomes, as all operations do.
use Rattle.std.proofs.Common.{◌∙◌, Some, None, All, filter, get_or, ◌≡◌, ℕ, ◌%◌, ◌==◌, List, [], ◌∷◌, ◌++◌}
use Rattle.std.proofs.Common.{Bool, true, false, cond, refl, sym, ap}
use Rattle.std.proofs.lemmas.{Bool.eq-eqb, List.Elements.{All-head, All-tail, All-nil, All-cons}}
use Rattle.std.proofs.{Common.arith, lemmas.Grind.common_steps}
use Rattle.graph_types.specs.Graph.{Key}
use Rattle.graph_types.specs.declared.batches.NamedOp.{NamedOp}
use Rattle.graph_types.specs.declared.batches.Outcome.TheVariants.{Expired}
use Rattle.graph_types.specs.Parts.{Parts, parts_in, names_after, kinds_after}
use Rattle.edge_block.specs.Rows.{OpenBlock}
use Rattle.edge_block.specs.{Rows.old_in_row, Batches.{Resolved, AtKey, InAll, key_is_of, acts_on, row_step}}
use Rattle.edge_block.specs.Batches.{key_outcome, outcome_in, rows_step, rows_all, outcomes_all, picked}
use Rattle.graph_types.specs.Outcomes.{together, joined}
use Rattle.graph_types.proofs.Sums.{sum_same_own}
use Rattle.edge_block.specs.Batches.{IsPlaced, is_in_shard, shard_ops, resolve_parts, resolved_by}

-- p takes the operations of the sources that pass, and each expiry
module _ (p : Resolved → Bool) (own : ℕ → Bool) where
  abbrev pub Follows : Resolved → Type 0
  Follows (AtKey source key change) = (k : Key) → key ≡ Some k → p (AtKey source key change) ≡ own k.source
  Follows (InAll time) = p (InAll time) ≡ true

  -- an operation that is not taken leaves the rows of own sources alone
  passed_by : (r : Resolved) → Follows r → p r ≡ false → (rows : ℕ → List OpenBlock) (source : ℕ) → own source ≡ true
      → rows_step r rows source ≡ rows source
  passed_by h0 h out rows source is = grind (arith, common_steps)

  abbrev pub Agree : (ℕ → List OpenBlock) → (ℕ → List OpenBlock) → Type 0
  Agree rows others = (source : ℕ) → own source ≡ true → rows source ≡ others source

  stepped : (r : Resolved) (rows others : ℕ → List OpenBlock) → Agree rows others → Agree (rows_step r rows) (rows_step r others)
  stepped r rows others a source is = ap (λ row. cond (acts_on source r) (row_step r row) row) (a source is)

  same_outcome : (sources : List ℕ) → All (λ s. own s ≡ true) sources → (r : Resolved) → Follows r → p r ≡ true
      → (rows others : ℕ → List OpenBlock) → Agree rows others → outcome_in sources r rows ≡ outcome_in sources r others
  same_outcome sources all (AtKey of None change) h is rows others a = refl
  same_outcome sources all (AtKey of (Some k) change) h is rows others a =
      ap (λ row. key_outcome change (Some k) (λ _. row)) (a k.source (sym (h k refl) ∙ is))
  same_outcome sources all (InAll time) h is rows others a =
      ap (λ n. Expired n) (sum_same_own own _ _ (λ s t. ap (old_in_row time) (a s t)) sources all)

  pub own_rows : (rs : List Resolved) → All Follows rs → (rows others : ℕ → List OpenBlock) → Agree rows others
      → Agree (rows_all (filter p rs) rows) (rows_all rs others)
  own_rows [] h rows others a = a
  own_rows (r ∷ rs) h rows others a =
      elim (p r) as (λ b. p r ≡ b → Agree (rows_all (cond b (r ∷ filter p rs) (filter p rs)) rows)
      (rows_all rs (rows_step r others))) [
        | true ↦ λ t. own_rows rs (All-tail Follows r rs h) (rows_step r rows) (rows_step r others) (stepped r rows others a)
        | false ↦ λ t. own_rows rs (All-tail Follows r rs h) rows (rows_step r others)
            (λ source is. a source is ∙ sym (passed_by r (All-head Follows r rs h) t others source is))
      ] refl

  pub own_outcomes : (sources : List ℕ) → All (λ s. own s ≡ true) sources → (rs : List Resolved) → All Follows rs
      → (rows others : ℕ → List OpenBlock) → Agree rows others
      → outcomes_all sources (filter p rs) rows ≡ picked p rs (outcomes_all sources rs others)
  own_outcomes sources all [] h rows others a = refl
  own_outcomes sources all (r ∷ rs) h rows others a =
      let rest = outcomes_all sources rs (rows_step r others) in
      elim (p r) as (λ b. p r ≡ b → outcomes_all sources (cond b (r ∷ filter p rs) (filter p rs)) rows
      ≡ cond b (outcome_in sources r others ∷ picked p rs rest) (picked p rs rest)) [
        | true ↦ λ t i. same_outcome sources all r (All-head Follows r rs h) t rows others a i
            ∷ own_outcomes sources all rs (All-tail Follows r rs h) (rows_step r rows) (rows_step r others)
            (stepped r rows others a) i
        | false ↦ λ t. own_outcomes sources all rs (All-tail Follows r rs h) rows (rows_step r others)
            (λ source is. a source is ∙ sym (passed_by r (All-head Follows r rs h) t others source is))
      ] refl

-- a source's row changes by the operations on that source alone
pub source_row : (rs : List Resolved) (rows : ℕ → List OpenBlock) (source : ℕ)
    → rows_all (filter (acts_on source) rs) rows source ≡ rows_all rs rows source
source_row rs rows source = own_rows (acts_on source) (λ other. source == other) rs
    (λ k d h. follows (get_or rs k d)) rows rows
    (λ other is. refl) source (eq-eqb source source refl) where
      follows : (r : Resolved) → Follows (acts_on source) (λ other. source == other) r
      follows (AtKey of key change) = λ k e. ap (key_is_of source) e
      follows (InAll time) = refl

pub placed : (names kinds : List (List ℕ)) (op : Parts) → IsPlaced (resolve_parts names kinds op)
placed names kinds h2 = grind (arith, common_steps)

all_placed : (most : ℕ) (ops : List NamedOp) (names kinds : List (List ℕ)) → All IsPlaced (resolved_by most ops names kinds)
all_placed most [] names kinds = All-nil IsPlaced
all_placed most (op ∷ ops) names kinds =
    All-cons IsPlaced _ _ (placed (names_after op names) (kinds_after op kinds) (parts_in most op))
    (all_placed most ops (names_after op names) (kinds_after op kinds))

abbrev own_source : ℕ → ℕ → ℕ → Bool
own_source workers w source = source % workers == w

all_follow : (workers w : ℕ) (rs : List Resolved) → All IsPlaced rs
    → All (Follows (is_in_shard workers w) (own_source workers w)) rs
all_follow workers w rs h = grind (arith, common_steps)

module _ (workers w most : ℕ) (ops : List NamedOp) (names kinds : List (List ℕ)) (rows : ℕ → List OpenBlock) where
  -- a shard alone leaves the rows of its sources as the batch leaves them
  pub shard_rows : (source : ℕ) → (source % workers == w) ≡ true
      → rows_all (shard_ops workers w (resolved_by most ops names kinds)) rows source ≡ rows_all (resolved_by most ops names kinds) rows source
  shard_rows = own_rows (is_in_shard workers w) (own_source workers w) (resolved_by most ops names kinds)
      (all_follow workers w _ (all_placed most ops names kinds)) rows rows (λ source is. refl)

  -- a shard's outcomes are those that the batch has at the shard's operations, expiries counted over the same sources
  pub shard_outcomes : (sources : List ℕ) → All (λ s. (s % workers == w) ≡ true) sources
      → outcomes_all sources (shard_ops workers w (resolved_by most ops names kinds)) rows
      ≡ picked (is_in_shard workers w) (resolved_by most ops names kinds) (outcomes_all sources (resolved_by most ops names kinds) rows)
  shard_outcomes sources all = own_outcomes (is_in_shard workers w) (own_source workers w) sources all (resolved_by most ops names kinds)
      (all_follow workers w _ (all_placed most ops names kinds)) rows rows (λ source is. refl)

-- A change tells no count, so outcomes over two lists of sources are put together place by place
one_together : (xs ys : List ℕ) (r : Resolved) (rows : ℕ → List OpenBlock)
    → outcome_in (xs ++ ys) r rows ≡ together (outcome_in xs r rows) (outcome_in ys r rows)
one_together xs ys h2 rows = grind (arith, common_steps)

pub all_together : (xs ys : List ℕ) (rs : List Resolved) (rows : ℕ → List OpenBlock)
    → outcomes_all (xs ++ ys) rs rows ≡ joined (outcomes_all xs rs rows) (outcomes_all ys rs rows)
all_together xs ys [] rows = refl
all_together xs ys (r ∷ rs) rows = λ i. one_together xs ys r rows i ∷ all_together xs ys rs (rows_step r rows) i
