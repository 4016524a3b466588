use Rattle.std.proofs.Common.{ℕ, List, length, sym, ap, ◌∙◌, subst, arith, rules, leb, leb-true}
use Rattle.std.proofs.lemmas.List.Sorted.{IsPartitionPoint-from_clause, IsPartitionedBy-leb, IsNonDecreasingBy-from_default}
use Rattle.std.proofs.lemmas.Grind.{get_or_default_zero}
use Rattle.batch_shards.{specs.{Groups.{is_expiry, IsNextStep}, Spending.AreTimesReached}, proofs.Young.{reached_rises, leads_later}}
use Rattle.batch_shards.proofs.groups.Groups.later_expiry.Goals as goal

pub returns : goal.returns
returns c = λ steps expiries reached.
    let r : List ℕ = c.as_slice.result.now in
    let are : AreTimesReached steps r = subst (AreTimesReached steps) (sym c.as_slice.ensures.value) reached in
    let first : ℕ = c.partition_point-first.result in
    let parted = IsPartitionedBy-leb (λ (t : ℕ). t) r c.args.since
    (IsNonDecreasingBy-from_default (λ (t : ℕ). t) r 0 (reached_rises steps r are)) in
    let point = IsPartitionPoint-from_clause (λ (t : ℕ). leb t c.args.since) r first
    c.partition_point-first.ensures.partitioned parted (λ a x q k. search rules) in
    let m : ℕ = c.max.result in
    let n : ℕ = c.index.result.now in
    leads_later steps r are c.args.since c.args.place first n
    (λ k lt. leb-true _ _ (point.0 k 0 (omega arith) lt))
    (subst (λ j. IsNextStep is_expiry steps j n) c.max.ensures
    (subst (IsNextStep is_expiry steps m) (sym (c.index.ensures ∙ get_or_default_zero c.args.self.now.expiries.items m n
    (omega (
      arith,
      c.max.ensures,
      c.requires.place,
      c.requires.reached,
      c.partition_point-first.ensures.bound,
      ap length c.as_slice.ensures.value,
    ))))
    (expiries.are m (omega arith) (omega (arith, expiries.long)))))
