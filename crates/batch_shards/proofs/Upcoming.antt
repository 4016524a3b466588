-- For each place, the first expiry that is not before it.
use Rattle.std.proofs.Common.{◌≡◌, ℕ, ◌+◌, ◌<◌, ◌==◌, Bool, true, false, List, length, get_or, set, refl, sym, ap, ◌∙◌, arith}
use Rattle.std.proofs.{Common.subst, Math.ListN.length-set, lemmas.Bool.{eqb-true, eqb-false, false≢true, eq-eqb, ne_eqb}}
use Rattle.std.proofs.lemmas.List.{get_or-set_same, get_or-set_other, get_or_default}
use Rattle.std.{specs.declared.option.Option.TheVariants.Some, proofs.lemmas.Grind.common_steps}
use Rattle.batch_shards.specs.{Groups.{is_on_row, IsNextStep, AreStepGroups}, declared.shard.{Step.Step, Place.Place, Act.Act}}
use Rattle.batch_shards.{specs.declared.shard.Act.TheVariants.Edge, proofs.ShardSteps.first_step}
use Rattle.graph_types.specs.declared.changes.EdgeChange.{EdgeChange}
use Rattle.graph_types.proofs.Numbers.{further}

-- the next operation of a kind is here, or it is the next behind
module _ (of : Act → Bool) (steps : List Step) (i : ℕ) (lt : i < length steps) where
  pub next_here : of (get_or steps i first_step).act ≡ true → IsNextStep of steps i i
  next_here here = grind (arith, common_steps, get_or_default, first_step)

  pub next_past : (behind : ℕ) → of (get_or steps i first_step).act ≡ false → IsNextStep of steps (i + 1) behind
      → IsNextStep of steps i behind
  next_past behind none x = grind (arith, common_steps, eqb-true, get_or_default, first_step, further, eqb-false)

-- the groups with one operation more in front, which is on an edge of a row, or of none
pub groups_pass : (steps : List Step) (i : ℕ) (first next : List ℕ) → i < length steps
    → ((row : ℕ) → is_on_row row (get_or steps i first_step).act ≡ false) → AreStepGroups (i + 1) steps first next
    → AreStepGroups i steps first next
groups_pass steps i first next lt none x = record {
  firsts = λ row inside. next_past (is_on_row row) steps i lt (get_or first row 0) (none row) (x.firsts row inside);
  nexts = λ row k s ge inside at.
      elim (k == i) as (λ b. (k == i) ≡ b → IsNextStep (is_on_row row) steps (k + 1) (get_or next k 0)) [
        | true ↦ λ t.
            let same : k ≡ i = eqb-true k i t in
            absurd (false≢true (sym (none row) ∙ ap (λ (t : Step). is_on_row row t.act) (get_or_default steps i first_step s lt)
            ∙ ap (λ j. is_on_row row (get_or steps j s).act) (sym same) ∙ at))
        | false ↦ λ t. x.nexts row k s (further k i ge (eqb-false k i t)) inside at
      ] refl;
}

pub groups_more : (steps : List Step) (i : ℕ) (first next : List ℕ) (p : Place) (change : EdgeChange) → i < length steps
    → (get_or steps i first_step).act ≡ Edge (Some p) change → p.row < length first → i < length next
    → AreStepGroups (i + 1) steps first next → AreStepGroups i steps (set first p.row i) (set next i (get_or first p.row 0))
groups_more steps i first next p change lt is row_in next_in x = record {
  firsts = λ row inside.
      elim (row == p.row) as (λ b. (row == p.row) ≡ b → IsNextStep (is_on_row row) steps i (get_or (set first p.row i) row 0)) [
        | true ↦ λ t.
            let same : row ≡ p.row = eqb-true row p.row t in
            subst (λ n. IsNextStep (is_on_row row) steps i n)
            (sym (ap (λ r. get_or (set first p.row i) r 0) same ∙ get_or-set_same first p.row i 0 row_in))
            (next_here (is_on_row row) steps i lt (ap (is_on_row row) is ∙ ap (λ r. p.row == r) same ∙ eq-eqb p.row p.row refl))
        | false ↦ λ t.
            let ne = eqb-false row p.row t in
            let long = length-set first p.row i in
            subst (λ n. IsNextStep (is_on_row row) steps i n) (sym (get_or-set_other first p.row row i 0 ne))
            (next_past (is_on_row row) steps i lt (get_or first row 0)
            (ap (is_on_row row) is ∙ ne_eqb p.row row (λ e. ne (sym e))) (x.firsts row (omega arith)))
      ] refl;
  nexts = λ row k s ge inside at.
      elim (k == i) as (λ b. (k == i) ≡ b
      → IsNextStep (is_on_row row) steps (k + 1) (get_or (set next i (get_or first p.row 0)) k 0)) [
        | true ↦ λ t.
            let same : k ≡ i = eqb-true k i t in
            let here : (p.row == row) ≡ true = sym (ap (λ (t : Step). is_on_row row t.act) (get_or_default steps i s first_step lt)
            ∙ ap (is_on_row row) is) ∙ ap (λ j. is_on_row row (get_or steps j s).act) (sym same) ∙ at in
            let mine : p.row ≡ row = eqb-true p.row row here in
            subst (λ j. IsNextStep (is_on_row row) steps (j + 1) (get_or (set next i (get_or first p.row 0)) j 0)) (sym same)
            (subst (λ n. IsNextStep (is_on_row row) steps (i + 1) n)
            (sym (get_or-set_same next i (get_or first p.row 0) 0 next_in ∙ ap (λ r. get_or first r 0) mine))
            (x.firsts row (omega arith)))
        | false ↦ λ t.
            let ne = eqb-false k i t in
            subst (λ n. IsNextStep (is_on_row row) steps (k + 1) n) (sym (get_or-set_other next i k (get_or first p.row 0) 0 ne))
            (x.nexts row k s (further k i ge ne) inside at)
      ] refl;
}
