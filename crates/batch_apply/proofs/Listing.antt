-- The old rows of a worker are listed before its first operation.
use Rattle.graph_types.proofs.Counts.{apart_tail}
use Rattle.std.proofs.Common.{◌≡◌, ◌≢◌, ℕ, ◌+◌, ◌<◌, ◌≤◌, ◌%◌, ◌==◌, ◌||◌, Bool, true, false, cond, List, [], ◌∷◌, ◌++◌}
use Rattle.std.proofs.Common.{length, map, take, get_or, refl, sym, ap, ◌∙◌, arith, All, AllPairs, nat_eq, max}
use Rattle.std.proofs.lemmas.{Bool.{true≢false, eq-eqb, eqb-true}, List.{append-nil, map-append, length-map}}
use Rattle.std.proofs.lemmas.List.{get_or-map, Sums.sum_by-cons}
use Rattle.std.proofs.lemmas.List.{Sums.{sum_by_push, length-filter, count_by-le-length}, Elements.{All-head, All-tail}}
use Rattle.std.{proofs.lemmas.List.Elements.{All-map, All-filter, All-weaker, filter_more, filter_passes}, specs.List.list_any}
use Rattle.std.{specs.List.sum_by, proofs.lemmas.Grind.common_steps}
use Rattle.graph_types.proofs.Elements.{pairs_head, pairs_cons}
use Rattle.edge_block.specs.{Slots.{BlockView, has_before}, Rows.shape_of, Batches.{Resolved, AtKey, InAll, shard_ops}}
use Rattle.graph_version.proofs.OldBlocks.{counted}
use Rattle.batch_shards.specs.{Shards.{resolved_at, resolved_in}, Spending.{act_time, old_blocks, latest as latest_step}}
use Rattle.batch_shards.specs.declared.shard.{Act.Act, Step.Step}
use Rattle.batch_apply.specs.{Shards.acts, Shards.has_old_shape, Shards.latest_expiry, Shards.AreShardSteps, declared.old.OldRow.OldRow}
use Rattle.batch_apply.specs.OldRows.{AreOldRows, old_sources, own_rows, blocks_in}

-- whether a source's row is one of these, and its old blocks, none where it isn't
abbrev pub is_listed : List OldRow → ℕ → Bool
is_listed old s = list_any (nat_eq s) (old_sources old)

abbrev pub listed_blocks : List OldRow → ℕ → ℕ
listed_blocks [] s = 0
listed_blocks (r ∷ old) s = cond (s == r.source.0) r.blocks (listed_blocks old s)

pub own_distinct : (workers w : ℕ) (old : List OldRow) → AllPairs (λ a b. a ≢ b) (old_sources old)
    → AllPairs (λ a b. a ≢ b) (old_sources (own_rows workers w old))
own_distinct workers w [] pairs = pairs
own_distinct workers w (r ∷ old) pairs =
    let own : List OldRow = own_rows workers w old in
    let rest : AllPairs (λ a b. a ≢ b) (old_sources own) =
    own_distinct workers w old (apart_tail r.source.0 (old_sources old) pairs) in
    let others : All (λ (q : OldRow). r.source.0 ≢ q.source.0) old = λ i d lt e.
    pairs_head r.source.0 (old_sources old) pairs i 0 (omega (arith, length-map old (λ (q : OldRow). q.source.0)))
    (e ∙ sym (get_or-map (λ (q : OldRow). q.source.0) old i d 0 lt)) in
    let first : All (λ y. r.source.0 ≢ y) (old_sources own) =
    All-map (λ y. r.source.0 ≢ y) (λ (q : OldRow). q.source.0) own
    (All-filter (λ (q : OldRow). q.source.0 % workers == w) (λ (q : OldRow). r.source.0 ≢ q.source.0) old others) in
    elim (r.source.0 % workers == w) as (λ b. AllPairs (λ a c. a ≢ c) (old_sources (cond b (r ∷ own) own))) [
      | true ↦ pairs_cons r.source.0 (old_sources own) first rest
      | false ↦ rest
    ]

pub own_listed : (workers w : ℕ) (old : List OldRow) (s : ℕ) → s % workers ≡ w → is_listed old s ≡ true
    → list_any (nat_eq s) (old_sources (own_rows workers w old)) ≡ true
own_listed workers w [] s mine listed = absurd (true≢false (sym listed))
own_listed workers w (r ∷ old) s mine listed =
    let own : List OldRow = own_rows workers w old in
    elim (s == r.source.0) as (λ b. s == r.source.0 ≡ b → (b || is_listed old s) ≡ true
    → list_any (nat_eq s) (old_sources (cond (r.source.0 % workers == w) (r ∷ own) own)) ≡ true) [
      | true ↦ λ same _.
          let here : r.source.0 % workers ≡ w = ap (λ q. q % workers) (sym (eqb-true s r.source.0 same)) ∙ mine in
          let passes : (r.source.0 % workers == w) ≡ true = ap (λ q. q == w) here ∙ eq-eqb w w refl in
          ap (λ b. list_any (nat_eq s) (old_sources (cond b (r ∷ own) own))) passes
          ∙ ap (λ b. b || list_any (nat_eq s) (old_sources own)) same
      | false ↦ λ other rest.
          let further : list_any (nat_eq s) (old_sources own) ≡ true = own_listed workers w old s mine rest in
          elim (r.source.0 % workers == w) as (λ b. list_any (nat_eq s) (old_sources (cond b (r ∷ own) own)) ≡ true) [
            | true ↦ ap (λ b. b || list_any (nat_eq s) (old_sources own)) other ∙ further
            | false ↦ further
          ]
    ] refl listed

-- a worker's rows are the worker's, and among the old ones
pub own_sources : (workers w : ℕ) (old : List OldRow) → All (λ s. s % workers ≡ w) (old_sources (own_rows workers w old))
own_sources workers w old =
    let mine : OldRow → Bool = λ (r : OldRow). r.source.0 % workers == w in
    let source : OldRow → ℕ = λ (r : OldRow). r.source.0 in
    All-map (λ s. s % workers ≡ w) source (own_rows workers w old)
    (All-weaker (λ (r : OldRow). mine r ≡ true) (λ (r : OldRow). source r % workers ≡ w)
    (λ r passes. eqb-true (source r % workers) w passes) (own_rows workers w old) (filter_passes mine old))

pub own_among : (workers w : ℕ) (old : List OldRow) (s : ℕ)
    → list_any (nat_eq s) (old_sources (own_rows workers w old)) ≡ true → is_listed old s ≡ true
own_among workers w [] s listed = listed
own_among workers w (r ∷ old) s listed =
    let own : List OldRow = own_rows workers w old in
    elim (r.source.0 % workers == w) as (λ b. list_any (nat_eq s) (old_sources (cond b (r ∷ own) own)) ≡ true
    → (s == r.source.0 || is_listed old s) ≡ true) [
      | true ↦ λ here. elim (s == r.source.0) as (λ b. (b || list_any (nat_eq s) (old_sources own)) ≡ true
          → (b || is_listed old s) ≡ true) [ true ↦ λ _. refl | false ↦ λ rest. own_among workers w old s rest ] here
      | false ↦ λ rest. elim (s == r.source.0) as (λ b. (b || is_listed old s) ≡ true) [
        | true ↦ refl
        | false ↦ own_among workers w old s rest
      ]
    ] listed

pub own_few : (workers w : ℕ) (old : List OldRow) → length (old_sources (own_rows workers w old)) ≤ length old
own_few workers w old = grind (arith, common_steps, length-map, length-filter, count_by-le-length)

-- one row more of a worker's own, or of another's
own_more : (workers w : ℕ) (old : List OldRow) (i : ℕ) (d : OldRow) (b : Bool) → i < length old
    → (get_or old i d).source.0 % workers == w ≡ b
    → own_rows workers w (take (i + 1) old) ≡ own_rows workers w (take i old) ++ cond b (get_or old i d ∷ []) []
own_more workers w old i d b lt is = grind (arith, common_steps, filter_more)

pub one_other : (workers w : ℕ) (old : List OldRow) (i : ℕ) (d : OldRow) → i < length old
    → (get_or old i d).source.0 % workers == w ≡ false
    → own_rows workers w (take (i + 1) old) ≡ own_rows workers w (take i old)
one_other workers w old i d lt is = own_more workers w old i d false lt is ∙ append-nil (own_rows workers w (take i old))

pub one_source : (workers w : ℕ) (old : List OldRow) (i : ℕ) (d : OldRow) → i < length old
    → (get_or old i d).source.0 % workers == w ≡ true
    → old_sources (own_rows workers w (take (i + 1) old))
    ≡ old_sources (own_rows workers w (take i old)) ++ (get_or old i d).source.0 ∷ []
one_source workers w old i d lt is = grind (arith, common_steps, own_more, map-append)

pub one_row : (workers w : ℕ) (old : List OldRow) (i : ℕ) (d : OldRow) → i < length old
    → (get_or old i d).source.0 % workers == w ≡ true
    → blocks_in (own_rows workers w (take (i + 1) old)) ≡ blocks_in (own_rows workers w (take i old)) + (get_or old i d).blocks
one_row workers w old i d lt is = grind (arith, common_steps, own_more, sum_by_push)

latest_acts : (rs : List Resolved) → latest_expiry (acts rs) ≡ latest_expiry rs
latest_acts [] = refl
latest_acts (AtKey source key change ∷ rs) = ap (max 0) (latest_acts rs)
latest_acts (InAll time ∷ rs) = ap (max time) (latest_acts rs)

one_act : (sources : List ℕ) (act : Act) (rest : List Resolved) (n : ℕ) → latest_expiry rest ≡ n
    → latest_expiry (resolved_at sources act ∷ rest) ≡ max (act_time act) n
one_act sources act rest n same = grind (arith, common_steps)

latest_in : (sources : List ℕ) (steps : List Step) → latest_expiry (resolved_in sources steps) ≡ latest_step steps
latest_in sources [] = refl
latest_in sources (s ∷ steps) =
    one_act sources s.act (resolved_in sources steps) (latest_step steps) (latest_in sources steps)

latest_own : (workers w : ℕ) (rs : List Resolved) → latest_expiry (shard_ops workers w rs) ≡ latest_expiry rs
latest_own workers w [] = refl
latest_own workers w (AtKey source key change ∷ rs) = grind (arith, common_steps, latest_own workers w rs)
latest_own workers w (InAll time ∷ rs) = ap (max time) (latest_own workers w rs)

pub same_latest : (workers w : ℕ) (rs : List Resolved) (is_old : ℕ → Bool) (sources : List ℕ) (steps : List Step)
    → AreShardSteps workers rs w is_old sources steps → latest_step steps ≡ latest_expiry rs
same_latest workers w rs is_old sources steps is =
    sym (latest_in sources steps) ∙ sym (latest_acts (resolved_in sources steps)) ∙ ap latest_expiry is.acts_are
    ∙ latest_acts (shard_ops workers w rs) ∙ latest_own workers w rs

-- what holds for a test of rows holds for one that agrees
pub same_old : (workers w : ℕ) (rs : List Resolved) (a b : ℕ → Bool) (sources : List ℕ) (steps : List Step)
    → ((s : ℕ) → a s ≡ b s) → AreShardSteps workers rs w a sources steps → AreShardSteps workers rs w b sources steps
same_old workers w rs a b sources steps agree is = grind (arith, common_steps)

pub some_old : (time : ℕ) (row : List BlockView) → has_old_shape time (map shape_of row) ≡ true → 0 < old_blocks time row
some_old time [] old = absurd (true≢false (sym old))
some_old time (b ∷ row) old =
    let one = counted time row b in
    elim (has_before time b.slots) as (λ t. old_blocks time (b ∷ row) ≡ cond t 1 0 + old_blocks time row
    → (t || has_old_shape time (map shape_of row)) ≡ true → 0 < old_blocks time (b ∷ row)) [
      | true ↦ λ count _. omega arith
      | false ↦ λ count rest. let more = some_old time row rest in omega arith
    ] one old

pub none_old_blocks : (time : ℕ) (row : List BlockView) → has_old_shape time (map shape_of row) ≡ false → old_blocks time row ≡ 0
none_old_blocks time [] none = refl
none_old_blocks time (b ∷ row) none =
    let one = counted time row b in
    elim (has_before time b.slots) as (λ t. old_blocks time (b ∷ row) ≡ cond t 1 0 + old_blocks time row
    → (t || has_old_shape time (map shape_of row)) ≡ false → old_blocks time (b ∷ row) ≡ 0) [
      | true ↦ λ count some. absurd (true≢false some)
      | false ↦ λ count rest. let more = none_old_blocks time row rest in omega arith
    ] one none

pub not_listed : (old : List OldRow) (s : ℕ) → is_listed old s ≡ false → listed_blocks old s ≡ 0
not_listed [] s none = refl
not_listed (r ∷ old) s none =
    elim (s == r.source.0) as (λ b. (b || is_listed old s) ≡ false → cond b r.blocks (listed_blocks old s) ≡ 0) [
      | true ↦ λ some. absurd (true≢false some)
      | false ↦ λ rest. not_listed old s rest
    ] none

-- these are the old rows of the rows
module _ (time : ℕ) (rows : ℕ → List BlockView) where
  abbrev IsRight : OldRow → Type 0
  IsRight r = (r.blocks ≡ old_blocks time (rows r.source.0)) × (0 < r.blocks)

  found : (old : List OldRow) → All IsRight old → (s : ℕ) → is_listed old s ≡ true
      → (listed_blocks old s ≡ old_blocks time (rows s)) × (0 < listed_blocks old s)
  found [] right s listed = absurd (true≢false (sym listed))
  found (r ∷ old) right s listed =
      let first : IsRight r = All-head IsRight r old right in
      elim (s == r.source.0) as (λ b. s == r.source.0 ≡ b → (b || is_listed old s) ≡ true
      → (cond b r.blocks (listed_blocks old s) ≡ old_blocks time (rows s)) × (0 < cond b r.blocks (listed_blocks old s))) [
        | true ↦ λ same _. (first.0 ∙ ap (λ x. old_blocks time (rows x)) (sym (eqb-true s r.source.0 same)), first.1)
        | false ↦ λ _ rest. found old (All-tail IsRight r old right) s rest
      ] refl listed

  module _ (old : List OldRow) (are : AreOldRows time rows old) where
    pub listed_agrees : (s : ℕ) → is_listed old s ≡ has_old_shape time (map shape_of (rows s))
    listed_agrees s =
        elim (has_old_shape time (map shape_of (rows s))) as
        (λ b. has_old_shape time (map shape_of (rows s)) ≡ b → is_listed old s ≡ b) [
          | true ↦ λ t. are.all_listed s (some_old time (rows s) t)
          | false ↦ λ f. let none = none_old_blocks time (rows s) f in
              elim (is_listed old s) as (λ b. is_listed old s ≡ b → b ≡ false) [
                | true ↦ λ t. let here = found old are.blocks s t in absurd (omega (arith, here.0, here.1, none))
                | false ↦ λ _. refl
              ] refl
        ] refl

    pub blocks_agree : (s : ℕ) → listed_blocks old s ≡ old_blocks time (rows s)
    blocks_agree s = grind (arith, common_steps, found, not_listed, none_old_blocks, listed_agrees)

    sums_agree : (xs : List OldRow) → All IsRight xs → sum_by (listed_blocks old) (old_sources xs) ≡ blocks_in xs
    sums_agree [] right = refl
    sums_agree (r ∷ xs) right =
        grind (arith, common_steps, All-head, All-tail, blocks_agree, sum_by-cons, sums_agree xs (All-tail IsRight r xs right))

    -- a worker's old rows have as many old blocks as its list says
    pub own_blocks : (workers w : ℕ)
        → sum_by (listed_blocks old) (old_sources (own_rows workers w old)) ≡ blocks_in (own_rows workers w old)
    own_blocks workers w = sums_agree (own_rows workers w old)
        (All-filter (λ (r : OldRow). r.source.0 % workers == w) IsRight old are.blocks)

    pub sum_agrees : (sources : List ℕ)
        → sum_by (listed_blocks old) sources ≡ sum_by (λ s. old_blocks time (rows s)) sources
    sum_agrees sources = grind (arith, common_steps, blocks_agree)
