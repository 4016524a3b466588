-- A collection leaves a desk.
use Rattle.std.proofs.Common.{◌≡◌, ℕ, ◌+◌, ◌<◌, ◌≤◌, ◌==◌, true, false, cond, List, [], ◌∷◌, ◌++◌, length, map, count_by, refl}
use Rattle.std.proofs.{Common.{sym, ap, ap₂, subst, ◌∙◌, arith}, lemmas.{Grind.common_steps, Option.slice_get-map}}
use Rattle.std.{proofs.lemmas.{List.{append-nil, length-map}, Bool.{eq-eqb, or_right}}, specs.declared.option.Option.Option}
use Rattle.std.specs.{declared.option.Option.TheVariants.Some, Prelude.{slice_get, if◌then◌else◌}, Option.option_map}
use Rattle.edge_block.specs.Slots.{BlockView}
use Rattle.graph_version.specs.{Rows.row_of, Rows.numbers_of, Versions.VersionView}
use Rattle.block_reclamation.specs.Status.{is_among, is_retired, is_reclaimable, is_used, is_at, recycled}
use Rattle.block_reclamation.specs.declared.{copies.PinCopy.PinCopy, status.BlockStatus.{BlockStatus, TheVariants.Free}}
use Rattle.block_reclamation.proofs.Recycling.{one_recycled, born_recycled}
use Rattle.graph_types.proofs.{Numbers.apart_test, Sums.count_more}
use Rattle.store_steps.specs.Journal.{Collected, Ledger, opened_ledger, is_legal, replay}
use Rattle.store_steps.specs.Desks.{DeskView, IsDesk, IsCollected, birth_at, births_in, collections}
use Rattle.store_steps.proofs.{Births.{birth_in, birth_from, row_listed}, Accepting.replay_more}

-- what is freed and what is left are the retired blocks
pub recycled_and_left : (copy : PinCopy) (xs : List BlockStatus) → count_by (is_reclaimable copy) xs + count_by is_retired (map (recycled copy) xs)
    ≡ count_by is_retired xs
recycled_and_left copy [] = omega arith
recycled_and_left copy (x ∷ xs) =
    let a = count_more (is_reclaimable copy) x xs in
    let b = count_more is_retired (recycled copy x) (map (recycled copy) xs) in
    let c = count_more is_retired x xs in
    let rest = recycled_and_left copy xs in
    let one = one_recycled copy x in
    omega arith

same_if_none : (copy : PinCopy) (xs : List BlockStatus) → count_by (is_reclaimable copy) xs ≡ 0 → map (recycled copy) xs ≡ xs
same_if_none copy [] none = refl
same_if_none copy (x ∷ xs) none =
    let a = count_more (is_reclaimable copy) x xs in
    let rest : map (recycled copy) xs ≡ xs = same_if_none copy xs (omega arith) in
    let here : cond {A = ℕ} (is_reclaimable copy x) 1 0 ≡ 0 = omega arith in
    let stays : recycled copy x ≡ x = elim (is_reclaimable copy x) as (λ t. cond {A = ℕ} t 1 0 ≡ 0
    → (if t then Free else x) ≡ x) [ true ↦ λ e. absurd (omega arith) | false ↦ λ e. refl ] here in
    cc

legal_if : (l : Ledger) (copy : PinCopy) (count : ℕ) → copy.last ≤ length l.batches → 0 < count → count ≡ count_by (is_reclaimable copy) l.pool
    → is_legal l (Collected copy count) ≡ true
legal_if l copy count low some is = grind (arith, common_steps)

-- the desk after a collection
abbrev pub desk_collected : DeskView → PinCopy → DeskView
desk_collected d copy = record {
  opened = d.opened;
  last = d.last;
  journal = d.journal ++ collections copy (count_by (is_reclaimable copy) d.pool);
  pool = map (recycled copy) d.pool;
}

replays_on : (d : DeskView) (copy : PinCopy) → IsDesk d → copy.last ≤ length d.last.batches → (n : ℕ) → count_by (is_reclaimable copy) d.pool ≡ n
    → replay (d.journal ++ collections copy n) (opened_ledger (length d.pool) d.opened)
    ≡ Some (record { batches = d.last.batches; pool = map (recycled copy) d.pool })
replays_on d copy desk low n is = grind (arith, common_steps, append-nil, same_if_none, apart_test, replay_more, legal_if)

pub collected_desk : (d : DeskView) (copy : PinCopy) → IsDesk d → copy.last ≤ length d.last.batches → IsDesk (desk_collected d copy)
collected_desk d copy desk low = grind (arith, common_steps, length-map, replays_on, slice_get-map, born_recycled)

pub is_collected : (d e : DeskView) (copy : PinCopy) → e ≡ desk_collected d copy → IsCollected d copy e
is_collected d e copy is = grind (arith, common_steps)

is_desk_collected : (d e : DeskView) (copy : PinCopy) → IsCollected d copy e → e ≡ desk_collected d copy
is_desk_collected d e copy is = λ i. record { opened = is.opened i; last = is.last i; journal = is.journal i; pool = is.pool i }

pub collected_is_desk : (d e : DeskView) (copy : PinCopy) → IsDesk d → copy.last ≤ length d.last.batches → IsCollected d copy e → IsDesk e
collected_is_desk d e copy desk low is = subst IsDesk (sym (is_desk_collected d e copy is)) (collected_desk d copy desk low)

-- Births: none of the last version's blocks is recycled

birth_recycled : (copy : PinCopy) (p : Option BlockStatus) → is_at is_used p ≡ true
    → birth_in (option_map (recycled copy) p) ≡ birth_in p
birth_recycled copy p born = grind (arith, common_steps)

same_births : (p q : List BlockStatus) (bs : List BlockView)
    → ((m : ℕ) → is_among m (numbers_of bs) ≡ true → birth_at p m ≡ birth_at q m)
    → map (λ b. birth_at p b.number) bs ≡ map (λ b. birth_at q b.number) bs
same_births p q [] same = refl
same_births p q (b ∷ bs) same =
    let here : (b.number == b.number) ≡ true = eq-eqb b.number b.number refl in
    ap₂ (λ x xs. x ∷ xs) (same b.number (rw here refl))
    (same_births p q bs (λ m is. same m (or_right (b.number == m) (is_among m (numbers_of bs)) is)))

pub births_collected : (d e : DeskView) (copy : PinCopy) → IsDesk d → IsCollected d copy e
    → (source : ℕ) → births_in e source ≡ births_in d source
births_collected d e copy desk collected source =
    ap (λ (v : VersionView). map (λ b. birth_at e.pool b.number) (row_of v.rows source)) collected.last
    ∙ same_births e.pool d.pool (row_of d.last.rows source) (λ m is.
    birth_from e.pool m ∙ ap (λ p. birth_in (slice_get p m)) collected.pool ∙ ap birth_in (slice_get-map (recycled copy) d.pool m)
    ∙ birth_recycled copy (slice_get d.pool m) (desk.listed m ∙ row_listed d.last.rows source m is) ∙ sym (birth_from d.pool m))
