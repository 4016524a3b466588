use Rattle.std.proofs.Common.{◌≡◌, ◌≢◌, ◌∙◌, ℕ, List, ap, inl, inr, get_or, rules, ◌<◌, ◌%◌, [], length, arith, Option, refl, sym}
use Rattle.std.proofs.{Common.{map, set}, Math.Seq.map-set_same, lemmas.Result.{IfErr-at_err, on_ok_weaker, on_err_weaker}}
use Rattle.std.specs.{Arc.arc_value, Result.IsOk, declared.sync.Arc.Arc, declared.alloc.Global.Global}
use Rattle.graph_types.proofs.ListPlaces.{changed_part}
use Rattle.vertex_names.specs.{declared.shelf.Shelf.Shelf, Shelves.found_on, Index.found_at}
use Rattle.vertex_names.proofs.Parts.{with_number, with_number-other}
use Rattle.list_pieces.proofs.Shown.{always-OnErr}
use Rattle.vertex_names.proofs.index.put_in.Goals as goal

abbrev shown_shelf : Arc Shelf Global → List (List (ℕ × List (ℕ × ℕ)))
shown_shelf s = arc_value {X = Shelf} s

pub returns-in_err-shelves-clause-unchanged : goal.returns-in_err-shelves-clause-unchanged
returns-in_err-shelves-clause-unchanged c =
    let h : Arc Shelf Global = c.index_mut.result.now in
    let kept : shown_shelf c.make_mut.follows.lender-at-none ≡ shown_shelf h =
    elim (IfErr-at_err _ c.in_err-shelves.was c.make_mut.follows.holds-at-none) [ inl e ↦ e | inr e ↦ e ] in
    let same = map-set_same shown_shelf c.args.shelves.now.items c.args.place c.make_mut.follows.lender-at-none h
    (kept ∙ ap shown_shelf c.index_mut.ensures.value) in
    let found : (q : ℕ) → found_at (map shown_shelf (set c.args.shelves.now.items c.args.place c.make_mut.follows.lender-at-none)) q
    ≡ found_at (map shown_shelf c.args.shelves.now.items) q =
    λ q. ap (λ (ps : List (List (List (ℕ × List (ℕ × ℕ))))). found_at ps q) same in
    always-OnErr _ found

pub returns : goal.returns
returns c =
    let h : Arc Shelf Global = c.index_mut.result.now in
    let same : c.in_ok-shelves.field-0.now ≡ shown_shelf h = elim c.in_ok-shelves.ensures.value [ inl e ↦ e | inr e ↦ e ] in
    let ok : IsOk c.make_mut.result = search rules in
    let from : c.in_ok-shelves.field-0.now ≡ shown_shelf (get_or c.args.shelves.now.items c.args.place h) =
    same ∙ ap shown_shelf c.index_mut.ensures.value in
    let room : c.args.place < length c.args.shelves.now.items = omega (arith, c.requires.place, c.requires.whole) in
    let into : shown_shelf (c.make_mut.follows.lender c.put.new.self) ≡ c.put.new.self = c.make_mut.follows.holds c.put.new.self ok in
    let part : (change : ℕ → Option ℕ → Option ℕ) → ((q : ℕ) → found_on c.put.new.self q ≡ change q (found_on c.in_ok-shelves.field-0.now q))
    → ((q : ℕ) (found : Option ℕ) → q % 32 ≢ c.args.place → change q found ≡ found) → (q : ℕ)
    → found_at (map shown_shelf (set c.args.shelves.now.items c.args.place (c.make_mut.follows.lender c.put.new.self))) q
    ≡ change q (found_at (map shown_shelf c.args.shelves.now.items) q) =
    λ change here. changed_part shown_shelf [] (λ q. q % 32) found_on change c.args.shelves.now.items c.args.place (c.make_mut.follows.lender c.put.new.self) h room
    (λ q. ap (λ (ps : List (List (ℕ × List (ℕ × ℕ)))). found_on ps q) into ∙ here q
    ∙ ap (λ (ps : List (List (ℕ × List (ℕ × ℕ)))). change q (found_on ps q)) from) in
    record {
      put = on_ok_weaker c.put.result
          (λ put. part (with_number c.args.hash c.args.number) put
          (with_number-other (λ q. q % 32) c.args.hash c.args.number c.args.place (sym c.requires.place))) c.put.ensures.put;
      unchanged = on_err_weaker c.put.result (λ kept. part (λ _ found. found) kept (λ _ _ _. refl)) c.put.ensures.unchanged;
    }
