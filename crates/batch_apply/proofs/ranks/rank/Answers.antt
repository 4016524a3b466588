use Rattle.std.proofs.Common.{◌≡◌, ◌≢◌, ◌<◌, ◌-◌, ◌==◌, ℕ, List, length, get_or, set, Some, nat_eq, true, false, arith, ap}
use Rattle.std.proofs.Common.{sym, refl, subst, ◌∙◌, inl, inr}
use Rattle.std.proofs.lemmas.{Bool.{eqb-true, eqb-false, eq-eqb}, Map.Keys.any_passes_from_place}
use Rattle.std.proofs.lemmas.List.{length-set, get_or-set_same, get_or-set_other, get_or_default, Folds.{list_any_at, Any-from_list_any}}
use Rattle.std.proofs.lemmas.Option.{slice_get_within, get_or_from_slice_get, slice_get-get_or}
use Rattle.std.specs.{Prelude.slice_get, List.list_any}
use Rattle.graph_types.proofs.Cases.{same_bool}
use Rattle.batch_apply.specs.{Sorting.{ranked_numbers, entry_at}, declared.counting.Entry.Entry}
use Rattle.batch_apply.proofs.Vertices.{as_many}
use Rattle.batch_apply.proofs.ranks.rank.Goals as goal

pub loop-index-preserved : goal.loop-index-preserved
loop-index-preserved c =
    let z : Entry = record { number = 0; place = 0 } in
    let entries : List Entry = c.in_ok-entries.entries.items in
    let list : List ℕ = ranked_numbers c.args.list.now in
    let old : List ℕ = ranked_numbers c.loop-index.numbers.items in
    let new : List ℕ = ranked_numbers c.add_number.new.numbers.items in
    let places : List ℕ = c.loop-index.places.items in
    let i : ℕ = c.loop-index.index in
    let e : Entry = c.index-entry.result.now in
    let add = c.in_ok-add_number.ensures in
    let lt : i < length entries = omega arith in
    let is : e ≡ entry_at entries i = c.index-entry.ensures ∙ get_or_default entries i e z lt in
    let at_place = ap (λ (x : Entry). x.place) is in
    let at_number = ap (λ (x : Entry). x.number) is in
    let right = c.in_ok-entries.ensures.are.right i lt in
    let there : get_or list e.place 0 ≡ e.number = ap (λ p. get_or list p 0) at_place ∙ right.1 ∙ sym at_number in
    let v : ℕ = c.len-in-loop-index.result - 1 in
    let last : v ≡ length c.add_number.new.numbers.items - 1 =
    omega (arith, c.len-in-loop-index.ensures, c.add_number.new.numbers.ok.0) in
    let many : length list ≡ length c.args.list.now = as_many c.args.list.now in
    let long : length places ≡ length list = c.loop-index.invariant.long ∙ sym many in
    record {
      rising = add.rising;
      least = λ k j within le lt'. omega (arith, add.least k within, c.in_ok-entries.ensures.rising i j (omega (arith, le)) lt', at_number);
      from = λ k within. elim (add.from k within) as (λ _. list_any (nat_eq (get_or new k 0)) list ≡ true) [
        | inl before ↦ subst (λ n. list_any (nat_eq n) list ≡ true)
            (sym (get_or_from_slice_get new k (get_or old k 0) 0 (add.kept k before ∙ slice_get-get_or old k 0 (omega (arith, before, as_many c.loop-index.numbers.items)))))
            (c.loop-index.invariant.from k before)
        | inr same ↦ subst (λ n. list_any (nat_eq n) list ≡ true) (sym same)
            (list_any_at (nat_eq e.number) list e.place 0 (omega (arith, at_place, right.0))
            (eq-eqb e.number (get_or list e.place 0) (sym there)))
      ];
      few = omega (arith, add.few, c.loop-index.invariant.few);
      long = length-set places e.place v ∙ c.loop-index.invariant.long;
      placed = λ j less.
          let p : ℕ = (entry_at entries j).place in
          elim (p == e.place) as (λ t. (p == e.place) ≡ t → slice_get new (get_or (set places e.place v) p 0) ≡ Some (get_or list p 0)) [
            | true ↦ λ t.
                let same : p ≡ e.place = eqb-true p e.place t in
                let value : get_or (set places e.place v) p 0 ≡ length c.add_number.new.numbers.items - 1 =
                ap (λ q. get_or (set places e.place v) q 0) same
                ∙ get_or-set_same places e.place v 0 (omega (arith, at_place, right.0, long)) ∙ last in
                ap (slice_get new) value ∙ add.last ∙ ap (λ n. Some n) (sym there ∙ ap (λ q. get_or list q 0) (sym same))
            | false ↦ λ t.
                let other : p ≢ e.place = eqb-false p e.place t in
                let apart : j ≢ i = λ one. other (ap (λ q. (entry_at entries q).place) one ∙ sym at_place) in
                let before : j < i = omega (arith, less, apart) in
                let stays : get_or (set places e.place v) p 0 ≡ get_or places p 0 = get_or-set_other places e.place p v 0 other in
                let was = c.loop-index.invariant.placed j before in
                let in_old = slice_get_within old (get_or places p 0) (get_or list p 0) was in
                ap (slice_get new) stays
                ∙ add.kept (get_or places p 0) (omega (arith, in_old, as_many c.loop-index.numbers.items)) ∙ was
          ] refl;
    }

pub returns-clause-places : goal.returns-clause-places
returns-clause-places c = λ k lt.
    let (i, within, here) = c.in_ok-entries.ensures.are.all k (omega (arith, lt, as_many c.args.list.now)) in
    subst (λ p. slice_get (ranked_numbers c.loop-index.numbers.items) (get_or c.loop-index.places.items p 0) ≡ Some (get_or (ranked_numbers c.args.list.now) p 0)) here
    (c.loop-index.invariant.placed i (omega (arith, within)))

pub returns-clause-same : goal.returns-clause-same
returns-clause-same c = λ n.
    let numbers : List ℕ = ranked_numbers c.loop-index.numbers.items in
    let list : List ℕ = ranked_numbers c.args.list.now in
    same_bool (list_any (nat_eq n) numbers) (list_any (nat_eq n) list)
    (λ t.
    let (k, x, within, here, same) = Any-from_list_any (nat_eq n) numbers t in
    let value : get_or numbers k 0 ≡ n = get_or_default numbers k 0 x within ∙ here ∙ sym (eqb-true n x same) in
    subst (λ m. list_any (nat_eq m) list ≡ true) value (c.loop-index.invariant.from k (omega (arith, within, as_many c.loop-index.numbers.items))))
    (λ t.
    let (k, x, within, here, same) = Any-from_list_any (nat_eq n) list t in
    let value : get_or list k 0 ≡ x = get_or_default list k 0 x within ∙ here in
    any_passes_from_place (nat_eq n) numbers (get_or c.loop-index.places.items k 0) (get_or list k 0)
    (returns-clause-places c k (omega (arith, within, as_many c.args.list.now))) (ap (nat_eq n) value ∙ same))
