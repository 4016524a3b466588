-- What a worker's shard begins with.
use Rattle.std.proofs.Common.{◌≡◌, ◌≢◌, ℕ, suc, ◌+◌, ◌<◌, ◌≤◌, ◌%◌, ◌==◌, ◌||◌, Bool, true, false, cond, List, [], ◌∷◌, ◌++◌}
use Rattle.std.proofs.Common.{length, length-append, map, take, drop, get_or, refl, sym, ap, subst, ◌∙◌, arith, All, AllPairs, nat_eq}
use Rattle.std.proofs.Common.{Option, Some, None}
use Rattle.std.proofs.lemmas.{Bool.{true≢false, eq-eqb, eqb-true, or_right}, Grind.{common_steps, flat_map-append}}
use Rattle.std.proofs.lemmas.List.{append-nil, append_assoc, map-append, take_more, drop_more}
use Rattle.std.proofs.lemmas.List.{Elements.{filter-append, All-nil, All-cons, All-head, All-tail, All-append}}
use Rattle.std.proofs.lemmas.List.{Folds.{list_any-append, list_any_at}, Kept.AllPairs-from_increasing}
use Rattle.std.specs.{List.{list_any, sum_by, Sorted.IsStrictlyIncreasing}, Prelude.IfSome}
use Rattle.graph_types.specs.Graph.{Key}
use Rattle.graph_types.proofs.{Searches.listed_is, Sums.{sum_same, below_sum}, Times.{times, listed_times}}
use Rattle.graph_types.proofs.Times.{apart_times}
use Rattle.edge_block.specs.Batches.{Resolved, AtKey, InAll, is_in_shard, shard_ops, sum_below, IsPlaced}
use Rattle.edge_block.proofs.BatchSums.{sum_all}
use Rattle.edge_block.proofs.ShardSteps.{own_key, key_in}
use Rattle.batch_shards.specs.{Shards.IsAct, declared.shard.Step.Step}
use Rattle.batch_apply.specs.{Plan.shown_op, OldRows.{old_sources, own_rows}, FirstSources.{AreFirst, AreNext, asked_sources, asked_source}}
use Rattle.batch_apply.specs.{Shards.{AreShardSteps, IsSourceBelow}, declared.old.OldRow.OldRow}
use Rattle.batch_apply.specs.declared.{own_sources.Places.Places, resolve.ResolvedOp.ResolvedOp}
use Rattle.batch_apply.proofs.Listing.{is_listed, listed_blocks, not_listed, own_distinct, own_listed, own_sources, own_among}

-- what is asked by one operation more: of the worker's, or of another
more_asked : (workers w : ℕ) (ops : List ResolvedOp) (i : ℕ) (d : ResolvedOp) (b : Bool) → i < length ops
    → is_in_shard workers w (shown_op (get_or ops i d)) ≡ b
    → asked_sources (shard_ops workers w (map shown_op (take (i + 1) ops)))
    ≡ asked_sources (shard_ops workers w (map shown_op (take i ops))) ++ asked_sources (cond b (shown_op (get_or ops i d) ∷ []) [])
more_asked workers w ops i d b lt is =
    let op : ResolvedOp = get_or ops i d in
    let rs : List Resolved = map shown_op (take i ops) in
    ap (λ (l : List ResolvedOp). asked_sources (shard_ops workers w (map shown_op l))) (take_more ops i d lt)
    ∙ ap (λ (l : List Resolved). asked_sources (shard_ops workers w l)) (map-append shown_op (take i ops) (op ∷ []))
    ∙ ap asked_sources (filter-append (is_in_shard workers w) rs (shown_op op ∷ []))
    ∙ flat_map-append asked_source (shard_ops workers w rs) (shard_ops workers w (shown_op op ∷ []))
    ∙ ap (λ c. asked_sources (shard_ops workers w rs) ++ asked_sources (cond c (shown_op op ∷ []) [])) is

pub one_asked : (workers w : ℕ) (ops : List ResolvedOp) (i : ℕ) (d : ResolvedOp) (first : List ℕ) → i < length ops
    → is_in_shard workers w (shown_op (get_or ops i d)) ≡ true
    → (first ++ asked_sources (shard_ops workers w (map shown_op (take i ops)))) ++ asked_source (shown_op (get_or ops i d))
    ≡ first ++ asked_sources (shard_ops workers w (map shown_op (take (i + 1) ops)))
one_asked workers w ops i d first lt mine =
    let so_far : List ℕ = asked_sources (shard_ops workers w (map shown_op (take i ops))) in
    let next : List ℕ = asked_source (shown_op (get_or ops i d)) in
    append_assoc first so_far next ∙ ap (λ (l : List ℕ). first ++ l)
    (ap (λ (l : List ℕ). so_far ++ l) (sym (append-nil next)) ∙ sym (more_asked workers w ops i d true lt mine))

pub none_asked : (workers w : ℕ) (ops : List ResolvedOp) (i : ℕ) (d : ResolvedOp) → i < length ops
    → is_in_shard workers w (shown_op (get_or ops i d)) ≡ false
    → asked_sources (shard_ops workers w (map shown_op (take (i + 1) ops))) ≡ asked_sources (shard_ops workers w (map shown_op (take i ops)))
none_asked workers w ops i d lt other =
    more_asked workers w ops i d false lt other ∙ append-nil (asked_sources (shard_ops workers w (map shown_op (take i ops))))

asked_own : (workers w : ℕ) (rs : List Resolved) → All IsPlaced rs → All (λ s. s % workers ≡ w) (asked_sources (shard_ops workers w rs))
asked_own workers w [] placed = All-nil (λ s. s % workers ≡ w)
asked_own workers w (r ∷ rs) placed =
    let IsOwn : ℕ → Type 0 = λ s. s % workers ≡ w in
    let rest : All IsOwn (asked_sources (shard_ops workers w rs)) = asked_own workers w rs (All-tail IsPlaced r rs placed) in
    elim (is_in_shard workers w r) as (λ b. is_in_shard workers w r ≡ b
    → All IsOwn (asked_sources (cond b (r ∷ shard_ops workers w rs) (shard_ops workers w rs)))) [
      | true ↦ λ mine. All-append IsOwn (asked_source r) (asked_sources (shard_ops workers w rs))
          (one r (own_key workers w r (All-head IsPlaced r rs placed) mine)) rest
      | false ↦ λ _. rest
    ] refl
  where
    one : (r : Resolved) → ((k : Key) → key_in r ≡ Some k → k.source % workers ≡ w) → All (λ s. s % workers ≡ w) (asked_source r)
    one (AtKey source None change) own = All-nil (λ s. s % workers ≡ w)
    one (AtKey source (Some k) change) own = All-cons (λ s. s % workers ≡ w) k.source [] (own k refl) (All-nil (λ s. s % workers ≡ w))
    one (InAll time) own = All-nil (λ s. s % workers ≡ w)

either : (a b c e : Bool) → (a ≡ true → c ≡ true) → (b ≡ true → e ≡ true) → (a || b) ≡ true → (c || e) ≡ true
either a b c e left right some = grind (arith, common_steps)

-- what the worker's operations ask for is asked for
asked_from : (workers w : ℕ) (rs : List Resolved) (s : ℕ) → list_any (nat_eq s) (asked_sources (shard_ops workers w rs)) ≡ true
    → list_any (nat_eq s) (asked_sources rs) ≡ true
asked_from workers w [] s listed = listed
asked_from workers w (r ∷ rs) s listed =
    list_any-append (nat_eq s) (asked_source r) (asked_sources rs)
    ∙ elim (is_in_shard workers w r) as (λ b.
    list_any (nat_eq s) (asked_sources (cond b (r ∷ shard_ops workers w rs) (shard_ops workers w rs))) ≡ true
    → (list_any (nat_eq s) (asked_source r) || list_any (nat_eq s) (asked_sources rs)) ≡ true) [
      | true ↦ λ here. either (list_any (nat_eq s) (asked_source r)) (list_any (nat_eq s) (asked_sources (shard_ops workers w rs)))
          (list_any (nat_eq s) (asked_source r)) (list_any (nat_eq s) (asked_sources rs)) (λ t. t) (asked_from workers w rs s)
          (sym (list_any-append (nat_eq s) (asked_source r) (asked_sources (shard_ops workers w rs))) ∙ here)
      | false ↦ λ rest. or_right (list_any (nat_eq s) (asked_source r)) (list_any (nat_eq s) (asked_sources rs))
          (asked_from workers w rs s rest)
    ] listed

-- no source that is asked for is greater than those of the operations
asked_below : (n : ℕ) (rs : List Resolved) → All (IsSourceBelow n) rs → All (λ s. s < n) (asked_sources rs)
asked_below n [] all = All-nil (λ s. s < n)
asked_below n (r ∷ rs) all = All-append (λ s. s < n) (asked_source r) (asked_sources rs)
    (one r (All-head (IsSourceBelow n) r rs all)) (asked_below n rs (All-tail (IsSourceBelow n) r rs all))
  where
    one : (r : Resolved) → IsSourceBelow n r → All (λ s. s < n) (asked_source r)
    one (AtKey source None change) below = All-nil (λ s. s < n)
    one (AtKey source (Some k) change) below = All-cons (λ s. s < n) k.source [] (below k refl) (All-nil (λ s. s < n))
    one (InAll time) below = All-nil (λ s. s < n)

-- few sources are those of the old rows
pub old_first : (workers w : ℕ) (rs : List Resolved) (old : List OldRow) → AllPairs (λ a b. a ≢ b) (old_sources old)
    → AreFirst workers w rs old (old_sources (own_rows workers w old))
old_first workers w rs old pairs = record {
  distinct = own_distinct workers w old pairs;
  own = own_sources workers w old;
  from = λ s listed. ap (λ b. b || list_any (nat_eq s) (asked_sources rs)) (own_among workers w old s listed);
  old_rows = λ s mine listed. own_listed workers w old s mine listed;
}

-- the rising sources of the old rows and of the operations
pub ranked_first : (workers w : ℕ) (rs : List Resolved) (old : List OldRow) (xs : List ℕ) → All IsPlaced rs
    → IsStrictlyIncreasing xs
    → ((n : ℕ) → list_any (nat_eq n) xs
    ≡ list_any (nat_eq n) (old_sources (own_rows workers w old) ++ asked_sources (shard_ops workers w rs)))
    → AreFirst workers w rs old xs
ranked_first workers w rs old xs placed rising same =
    let own : List ℕ = old_sources (own_rows workers w old) in
    let more : List ℕ = asked_sources (shard_ops workers w rs) in
    let all : All (λ s. s % workers ≡ w) (own ++ more) = All-append (λ s. s % workers ≡ w) own more
    (own_sources workers w old) (asked_own workers w rs placed) in
    record {
      distinct = λ i j d lt within e. let less = AllPairs-from_increasing xs rising i j d lt within in omega (arith, less, e);
      own = λ k d lt. let s : ℕ = get_or xs k d in listed_is (λ s. s % workers ≡ w) (own ++ more) all s
          (sym (same s) ∙ list_any_at (nat_eq s) xs k d lt (eq-eqb s s refl));
      from = λ s listed. either (list_any (nat_eq s) own) (list_any (nat_eq s) more) (is_listed old s)
          (list_any (nat_eq s) (asked_sources rs)) (own_among workers w old s) (asked_from workers w rs s)
          (sym (list_any-append (nat_eq s) own more) ∙ sym (same s) ∙ listed);
      old_rows = λ s mine listed. same s ∙ list_any-append (nat_eq s) own more
          ∙ ap (λ b. b || list_any (nat_eq s) more) (own_listed workers w old s mine listed);
    }

module _ (workers w : ℕ) (rs : List Resolved) (old : List OldRow) where
  abbrev own_blocks_at : ℕ → ℕ
  own_blocks_at s = cond (s % workers == w) (listed_blocks old s) 0

  quiet : (xs : List ℕ) → AreFirst workers w rs old xs → (m : ℕ) → times m xs ≡ 0 → own_blocks_at m ≡ 0
  quiet xs are m none = elim (m % workers == w) as (λ b. m % workers == w ≡ b → cond b (listed_blocks old m) 0 ≡ 0) [
    | true ↦ λ mine. elim (is_listed old m) as (λ b. is_listed old m ≡ b → listed_blocks old m ≡ 0) [
      | true ↦ λ listed. absurd (omega (
        arith,
        listed_times m xs (are.old_rows m (eqb-true (m % workers) w mine) listed),
        none,
      ))
      | false ↦ λ other. not_listed old m other
    ] refl
    | false ↦ λ _. refl
  ] refl

  summed : (xs : List ℕ) → AreFirst workers w rs old xs → (n : ℕ) → All (λ s. s < n) xs
      → sum_by (listed_blocks old) xs ≡ sum_below n own_blocks_at
  summed xs are n below =
      sum_same (listed_blocks old) own_blocks_at xs (λ k d lt. sym (ap (λ b. cond b (listed_blocks old (get_or xs k d)) 0)
      (ap (λ q. q == w) (are.own k d lt) ∙ eq-eqb w w refl)))
      ∙ sum_all own_blocks_at n xs (λ m. apart_times m xs are.distinct) below (λ m lt none. quiet xs are m none)

  -- all that a worker's shard may begin with has as many old blocks
  pub same_blocks : (xs ys : List ℕ) → AreFirst workers w rs old xs → AreFirst workers w rs old ys
      → sum_by (listed_blocks old) xs ≡ sum_by (listed_blocks old) ys
  same_blocks xs ys are are' =
      let n : ℕ = suc (sum_by (λ x. x) xs + sum_by (λ x. x) ys) in
      summed xs are n (below_sum n xs (omega arith)) ∙ sym (summed ys are' n (below_sum n ys (omega arith)))

  -- whether a source is one that is to be listed: that of an old row, or one of the first
  abbrev pub is_known : List ℕ → ℕ → Bool
  is_known first s = is_listed old s || list_any (nat_eq s) first

  pub unknown : (first : List ℕ) (s : ℕ) → is_known first s ≡ false → listed_blocks old s ≡ 0
  unknown first s other = elim (is_listed old s) as (λ b. is_listed old s ≡ b → (b || list_any (nat_eq s) first) ≡ false
      → listed_blocks old s ≡ 0) [ true ↦ λ _ e. absurd (true≢false e) | false ↦ λ none _. not_listed old s none ] refl other

  known_is : (first : List ℕ) → AreFirst workers w rs old first → (s : ℕ) → s % workers ≡ w → is_known first s ≡ true
      → list_any (nat_eq s) first ≡ true
  known_is first are s mine known = elim (is_listed old s) as (λ b. is_listed old s ≡ b
      → (b || list_any (nat_eq s) first) ≡ true → list_any (nat_eq s) first ≡ true) [
        | true ↦ λ listed _. are.old_rows s mine listed
        | false ↦ λ _ rest. rest
      ] refl known

  first_known : (first : List ℕ) (s : ℕ) → list_any (nat_eq s) first ≡ true → is_known first s ≡ true
  first_known first s here = or_right (is_listed old s) (list_any (nat_eq s) first) here

  -- a worker's rows before its first operation
  pub start : (first : List ℕ) → AreFirst workers w rs old first → AreShardSteps workers [] w (is_known first) first []
  start first are = record {
    places = refl;
    acts_are = refl;
    in_range = All-nil (λ (s : Step). IsAct (length first) s.act);
    distinct = are.distinct;
    own = are.own;
    within = λ n all below k d lt. let s : ℕ = get_or first k d in
        below s (first_known first s (list_any_at (nat_eq s) first k d lt (eq-eqb s s refl)));
    old_rows = λ s mine known. known_is first are s mine known;
  }

  -- and after its last
  pub finished : (first sources : List ℕ) (steps : List Step) → AreFirst workers w rs old first
      → AreShardSteps workers rs w (is_known first) sources steps → AreShardSteps workers rs w (is_listed old) sources steps
  finished first sources steps are is = record {
    places = is.places;
    acts_are = is.acts_are;
    in_range = is.in_range;
    distinct = is.distinct;
    own = is.own;
    within = λ n all below. is.within n all (λ s known. elim (is_listed old s) as (λ b. is_listed old s ≡ b
        → (b || list_any (nat_eq s) first) ≡ true → s < n) [
          | true ↦ λ listed _. below s listed
          | false ↦ λ other here. elim (is_listed old s) as (λ b. is_listed old s ≡ b
              → (b || list_any (nat_eq s) (asked_sources rs)) ≡ true → s < n) [
                | true ↦ λ listed _. below s listed
                | false ↦ λ _ listed. listed_is (λ s. s < n) (asked_sources rs) (asked_below n rs all) s listed
              ] refl (are.from s here)
        ] refl known);
    old_rows = λ s mine listed. is.old_rows s mine (ap (λ b. b || list_any (nat_eq s) first) listed);
  }

-- what is still asked for, with an operation of the worker's, or of another
pub next_own : (workers w : ℕ) (rs : List Resolved) (i : ℕ) (d r : Resolved) → i < length rs → get_or rs i d ≡ r
    → is_in_shard workers w r ≡ true
    → asked_sources (shard_ops workers w (drop i rs)) ≡ asked_source r ++ asked_sources (shard_ops workers w (drop (i + 1) rs))
next_own workers w rs i d r lt at mine =
    ap (λ (l : List Resolved). asked_sources (shard_ops workers w l)) (drop_more rs i d lt ∙ ap (λ x. x ∷ drop (i + 1) rs) at)
    ∙ ap (λ b. asked_sources (cond b (r ∷ shard_ops workers w (drop (i + 1) rs)) (shard_ops workers w (drop (i + 1) rs)))) mine

pub next_other : (workers w : ℕ) (rs : List Resolved) (i : ℕ) (d r : Resolved) → i < length rs → get_or rs i d ≡ r
    → is_in_shard workers w r ≡ false
    → asked_sources (shard_ops workers w (drop i rs)) ≡ asked_sources (shard_ops workers w (drop (i + 1) rs))
next_other workers w rs i d r lt at other =
    ap (λ (l : List Resolved). asked_sources (shard_ops workers w l)) (drop_more rs i d lt ∙ ap (λ x. x ∷ drop (i + 1) rs) at)
    ∙ ap (λ b. asked_sources (cond b (r ∷ shard_ops workers w (drop (i + 1) rs)) (shard_ops workers w (drop (i + 1) rs)))) other

pub next_given : (workers w : ℕ) (rs : List Resolved) (i : ℕ) (d r : Resolved) → i < length rs → get_or rs i d ≡ r
    → is_in_shard workers w r ≡ true → (sources : List ℕ) (places : Option Places)
    → IfSome places (AreNext sources (asked_sources (shard_ops workers w (drop i rs))))
    → IfSome places (AreNext sources (asked_source r ++ asked_sources (shard_ops workers w (drop (i + 1) rs))))
next_given workers w rs i d r lt at mine sources places are =
    subst (λ (l : List ℕ). IfSome places (AreNext sources l)) (next_own workers w rs i d r lt at mine) are

-- no more is asked for than there are operations
pub few_asked : (workers w : ℕ) (rs : List Resolved) → length (asked_sources (shard_ops workers w rs)) ≤ length rs
few_asked workers w [] = omega arith
few_asked workers w (r ∷ rs) =
    let rest = few_asked workers w rs in
    elim (is_in_shard workers w r) as (λ b.
    length (asked_sources (cond b (r ∷ shard_ops workers w rs) (shard_ops workers w rs))) ≤ suc (length rs)) [
      | true ↦ omega (arith, length-append (asked_source r) (asked_sources (shard_ops workers w rs)), one r, rest)
      | false ↦ omega (arith, rest)
    ]
  where
    one : (r : Resolved) → length (asked_source r) ≤ 1
    one (AtKey source None change) = omega arith
    one (AtKey source (Some k) change) = omega arith
    one (InAll time) = omega arith
