-- The operations on one source's row, among those of a shard.
use Rattle.std.proofs.Common.{◌≡◌, ℕ, zero, suc, ◌+◌, ◌-◌, ◌<◌, ◌≤◌, ◌==◌, Bool, true, false, cond, List, [], ◌∷◌, length, get_or}
use Rattle.std.proofs.{Common.{◌||◌, min, take, count_by, refl, sym, ap, ◌∙◌, arith, subst}, lemmas.Bool.false≢true}
use Rattle.std.proofs.lemmas.Bool.{or_right, eq-eqb, eqb-true, eqb-false, ne_eqb, ltb-true, ltb-false, le-ltb, or_from}
use Rattle.std.proofs.lemmas.List.Sums.{count_by_more_yes, count_by_more_no, sum_by-cons}
use Rattle.std.{specs.{List.sum_by, Prelude.nat_lt, declared.option.Option.TheVariants.Some}, proofs.lemmas.Grind.common_steps}
use Rattle.graph_types.specs.declared.{batches.Outcome.{Outcome, TheVariants.Expired}, changes.EdgeChange.EdgeChange}
use Rattle.edge_block.specs.{Rows.{OpenBlock, old_in_row}, Batches.{key_step, rows_step, rows_all, outcome_in}}
use Rattle.graph_types.specs.Outcomes.{together}
use Rattle.batch_shards.specs.{Shards.{IsAct, resolved_at, resolved_in}, Spending.takes, Groups.{is_on_row, is_past, does_act}}
use Rattle.batch_shards.specs.Groups.{may_change, key_placed, IsNextStep, LeadsToStep, IsSourceRow, IsOneMore, IsTold, outcome_over}
use Rattle.graph_types.specs.Outcomes.{told}
use Rattle.graph_types.proofs.{Cases.{or_none, or_false}, Elements.apart, Numbers.further, OutcomeSteps.told_none}
use Rattle.edge_block.proofs.OldSlots.{young_stays, young_before}
use Rattle.batch_shards.specs.{Groups.{act_step, act_outcome}, declared.shard.Act.{Act, TheVariants.{Edge, Expire}}}
use Rattle.batch_shards.{specs.declared.shard.{Place.Place, Step.Step}, proofs.ShardSteps.first_step}
use Rattle.batch_shards.proofs.ShardSteps.{all_rows_more}

-- the outcome of an operation is that of the rows which those before it leave
pub outcome_of : (counted sources : List ℕ) (steps : List Step) (k : ℕ) (rows : ℕ → List OpenBlock) → k < length steps
    → outcome_over counted sources steps rows k
    ≡ outcome_in counted (resolved_at sources (get_or steps k first_step).act)
    (rows_all (resolved_in sources (take k steps)) rows)
outcome_of counted sources [] k rows lt = absurd (omega arith)
outcome_of counted sources (s ∷ steps) zero rows lt = refl
outcome_of counted sources (s ∷ steps) (suc k) rows lt =
    outcome_of counted sources steps k (rows_step (resolved_at sources s.act) rows) (omega arith)

not_at : (row since : ℕ) (act : Act) → may_change row since act ≡ false → is_on_row row act ≡ false
not_at row since act e = grind (arith, common_steps, or_none)

-- operations past a row are those on the next row and those past both
pub past_more : (row : ℕ) (steps : List Step) → count_by (λ s. is_past row s.act) steps
    ≡ count_by (λ s. is_past (row + 1) s.act) steps + count_by (λ s. is_on_row row s.act) steps
past_more row [] = refl
past_more row (s ∷ steps) = grind (arith, common_steps, past_more row steps)

module _ (sources : List ℕ) (steps : List Step) (row source : ℕ) (is : IsSourceRow sources steps row source) where
  stepped_edge : (change : EdgeChange) (p : Place) (rows : ℕ → List OpenBlock) → (p.row == row) ≡ true
      → rows_step (resolved_at sources (Edge (Some p) change)) rows source ≡ key_step change (key_placed source (Some p)) (rows source)
  stepped_edge change p rows e = grind (arith, common_steps, eqb-true, eq-eqb)

  row_stepped : (act : Act) (rows : ℕ → List OpenBlock) → does_act row act ≡ true
      → rows_step (resolved_at sources act) rows source ≡ act_step source act (rows source)
  row_stepped act rows e = grind (arith, common_steps, false≢true, stepped_edge, or_false)

  row_passed : (since : ℕ) (act : Act) (rows : ℕ → List OpenBlock) → IsAct (length sources) act
      → old_in_row since (rows source) ≡ 0 → may_change row since act ≡ false
      → rows_step (resolved_at sources act) rows source ≡ rows source
  row_passed since act rows w young e =
      grind (arith, common_steps, ne_eqb, apart, eqb-false, or_none, young_stays, young_before, ltb-false)

  module _ (rows : ℕ → List OpenBlock) where
    abbrev pub row_by : ℕ → List OpenBlock
    row_by k = rows_all (resolved_in sources (take k steps)) rows source

    pub stepped : (k : ℕ) (blocks : List OpenBlock) → k < length steps → (let t = get_or steps k first_step in
        does_act row t.act ≡ true → blocks ≡ row_by k → act_step source t.act blocks ≡ row_by (k + 1))
    stepped k blocks lt here e = grind (arith, common_steps, first_step, row_stepped, all_rows_more)

    pub outcome_here : (k : ℕ) (blocks : List OpenBlock) (before o : Outcome) → k < length steps
        → (let t = get_or steps k first_step in does_act row t.act ≡ true → blocks ≡ row_by k
        → o ≡ told (together before (act_outcome source t.act blocks)) → IsOneMore sources steps rows source k before o)
    outcome_here k blocks before o lt here e is_o =
        grind (arith, common_steps, first_step, outcome_of, false≢true, eqb-true, or_false, sum_by-cons)

    pass : (since k : ℕ) → k < length steps → old_in_row since (row_by k) ≡ 0
        → may_change row since (get_or steps k first_step).act ≡ false → row_by (k + 1) ≡ row_by k
    pass since k lt young out = grind (arith, common_steps, all_rows_more, row_passed, first_step)

    skipped : (since gap k next : ℕ) → next ≡ k + gap → next ≤ length steps → old_in_row since (row_by k) ≡ 0
        → ((j : ℕ) (s : Step) → k ≤ j → j < next → may_change row since (get_or steps j s).act ≡ false)
        → row_by next ≡ row_by k
    skipped since zero k next e le young out = ap row_by (omega arith)
    skipped since (suc gap) k next e le young out =
        let last : next ≡ k + gap + 1 = omega arith in
        let same : row_by (k + gap) ≡ row_by k =
        skipped since gap k (k + gap) refl (omega arith) young (λ j s a b. out j s a (omega arith)) in
        ap row_by last
        ∙ pass since (k + gap) (omega arith) (ap (old_in_row since) same ∙ young)
        (out (k + gap) first_step (omega arith) (omega arith))
        ∙ same

    -- what is told of an expiry stands where it finds no edge
    outcome_stays : (since k : ℕ) (s : Step) (before : Outcome) → k < length steps → old_in_row since (row_by k) ≡ 0
        → may_change row since (get_or steps k s).act ≡ false → does_act row (get_or steps k s).act ≡ true
        → IsTold (get_or steps k s).act before → IsOneMore sources steps rows source k before before
    outcome_stays since k s before lt young out at was =
        stays (get_or steps k s).act
        (ap (λ (x : Step). x.act) (Rattle.std.proofs.lemmas.List.get_or_default steps k first_step s lt)) out at was where
          now : ℕ → List OpenBlock
          now = rows_all (resolved_in sources (take k steps)) rows

          stays : (act : Act) → (get_or steps k first_step).act ≡ act → may_change row since act ≡ false
              → does_act row act ≡ true → IsTold act before → IsOneMore sources steps rows source k before before
          stays (Edge place change) e out at was =
              absurd (false≢true (sym (or_none (is_on_row row (Edge place change)) out) ∙ or_false (is_on_row row (Edge place change)) at))
          stays (Expire time) e out at was =
              let none = young_before time since (now source) (ltb-false since time out) young in
              let sum = sum_by-cons (λ s. old_in_row time (now s)) source [] in
              let zero : sum_by (λ s. old_in_row time (now s)) (source ∷ []) ≡ 0 = omega (arith, none, sum) in
              sym (told_none before was.0 was.1)
              ∙ ap (λ x. told (together before x)) (sym (outcome_of (source ∷ []) sources steps k rows lt
              ∙ ap (λ a. outcome_in (source ∷ []) (resolved_at sources a) now) e ∙ ap Expired zero))

    -- the operations between two that may change the row leave it alone, and what was told of those that act on it stands
    module _ (since place next : ℕ) (leads : LeadsToStep (may_change row since) (does_act row) steps place next)
        (young : old_in_row since (row_by place) ≡ 0) where
      pub left_alone : row_by next ≡ row_by place
      left_alone = skipped since (next - place) place next (omega (arith, leads.ahead)) leads.within young leads.between

      pub left_told : (k : ℕ) (s : Step) (before : Outcome) → place ≤ k → k < next → does_act row (get_or steps k s).act ≡ true
          → IsTold (get_or steps k s).act before → IsOneMore sources steps rows source k before before
      left_told k s before ge lt at was =
          let same : row_by k ≡ row_by place = skipped since (k - place) place k (omega arith) (omega (arith, leads.within)) young
          (λ j t a b. leads.between j t a (omega arith)) in
          outcome_stays since k s before (omega (arith, leads.within)) (ap (old_in_row since) same ∙ young)
          (leads.between k s ge lt) at was

-- and are not counted among those on the row
pub skipped_count : (steps : List Step) (row since gap k next : ℕ) → next ≡ k + gap → next ≤ length steps
    → ((j : ℕ) (s : Step) → k ≤ j → j < next → may_change row since (get_or steps j s).act ≡ false)
    → count_by (λ s. is_on_row row s.act) (take next steps) ≡ count_by (λ s. is_on_row row s.act) (take k steps)
skipped_count steps row since zero k next e le out = ap (λ n. count_by (λ s. is_on_row row s.act) (take n steps)) (omega arith)
skipped_count steps row since (suc gap) k next e le out =
    let last : next ≡ k + gap + 1 = omega arith in
    ap (λ n. count_by (λ (s : Step). is_on_row row s.act) (take n steps)) last
    ∙ count_by_more_no (λ (s : Step). is_on_row row s.act) steps (k + gap) first_step (omega arith)
    (not_at row since (get_or steps (k + gap) first_step).act (out (k + gap) first_step (omega arith) (omega arith)))
    ∙ skipped_count steps row since gap k (k + gap) refl (omega arith) (λ j s a b. out j s a (omega arith))

-- an operation on the row's edges is one more of those
pub at_row : (steps : List Step) (row k : ℕ) → k < length steps → does_act row (get_or steps k first_step).act ≡ true
    → (count_by (λ s. is_on_row row s.act) (take (k + 1) steps)
    ≡ count_by (λ s. is_on_row row s.act) (take k steps) + takes (get_or steps k first_step).act)
    × (count_by (λ s. is_on_row row s.act) (take (k + 1) steps) ≤ count_by (λ s. is_on_row row s.act) steps)
at_row steps row k lt acts = grind (arith, common_steps, first_step, count_by_more_yes, or_false, count_by_more_no)

-- what is so of each place before one and of each behind it is so of each other place
pub beside : (P : ℕ → Type 0) (i k : ℕ) → (k < i → P k) → (i + 1 ≤ k → P k) → (k ≡ i → ⊥) → P k
beside P i k before behind ne = grind (arith, common_steps, ltb-true, ltb-false, further)

-- an operation on an edge of none of so many first rows and the next, but not on the next, is on none of the first
pub past_here : (row : ℕ) (act : Act) → is_past (row + 1) act ≡ false → does_act row act ≡ false → is_past row act ≡ false
past_here row act past out = grind (arith, common_steps, ltb-false, eqb-false, or_none, false≢true, le-ltb)

-- the next one is also that from a later place on
pub next_from : {needed of : Act → Bool} {steps : List Step} {place next : ℕ} → LeadsToStep needed of steps place next → (p : ℕ)
    → place ≤ p → p ≤ next → LeadsToStep needed of steps p next
next_from x p ge le = grind (arith, common_steps)

-- the next operation on the row's edges behind one, where the next at its place was known
pub edge_behind : (steps : List Step) (row i e behind n : ℕ) → i < length steps → IsNextStep (is_on_row row) steps i e
    → ((s : Step) → is_on_row row (get_or steps i s).act ≡ true → IsNextStep (is_on_row row) steps (i + 1) behind)
    → n ≡ cond (i == e) behind e → IsNextStep (is_on_row row) steps (i + 1) n
edge_behind steps row i e behind n lt x more is =
    subst (IsNextStep (is_on_row row) steps (i + 1)) (sym is)
    (elim (i == e) as (λ b. (i == e) ≡ b → IsNextStep (is_on_row row) steps (i + 1) (cond b behind e)) [
      | true ↦ λ t.
          let same : i ≡ e = eqb-true i e t in
          more first_step (ap (λ k. is_on_row row (get_or steps k first_step).act) same ∙ x.there first_step (omega arith))
      | false ↦ λ t.
          let other = eqb-false i e t in
          let ahead = x.ahead in
          next_from x (i + 1) (omega arith) (further e i ahead (λ s. other (sym s)))
    ] refl)

-- the next of two kinds is the earlier one of both
pub earlier_next : {p q u v : Act → Bool} {steps : List Step} {place a b : ℕ} → LeadsToStep u p steps place a
    → LeadsToStep v q steps place b → LeadsToStep (λ act. u act || v act) (λ act. p act || q act) steps place (min a b)
earlier_next {p} {q} {u} {v} {steps} {place} {a} {b} x y =
    elim (nat_lt a b) as
    (λ t. nat_lt a b ≡ t → LeadsToStep (λ act. u act || v act) (λ act. p act || q act) steps place (min a b)) [
      | true ↦ λ t.
          let lt : a < b = ltb-true a b t in
          let least : a ≡ min a b = omega arith in
          subst (LeadsToStep (λ act. u act || v act) (λ act. p act || q act) steps place) least (record {
            ahead = x.ahead;
            within = x.within;
            between = λ k s ge below. or_from (u (get_or steps k s).act) (v (get_or steps k s).act) (x.between k s ge below)
                (y.between k s ge (omega arith));
            there = λ s inside. ap (λ b. b || q (get_or steps a s).act) (x.there s inside);
          })
      | false ↦ λ t.
          let ge : b ≤ a = ltb-false a b t in
          let least : b ≡ min a b = omega arith in
          subst (LeadsToStep (λ act. u act || v act) (λ act. p act || q act) steps place) least (record {
            ahead = y.ahead;
            within = y.within;
            between = λ k s le below. or_from (u (get_or steps k s).act) (v (get_or steps k s).act)
                (x.between k s le (omega arith)) (y.between k s le below);
            there = λ s inside. or_right (p (get_or steps b s).act) (q (get_or steps b s).act) (y.there s inside);
          })
    ] refl
