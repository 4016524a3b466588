use Rattle.std.proofs.Common.{◌≡◌, ◌≢◌, ◌∙◌, ℕ, List, ap, inl, inr, get_or, rules, ◌<◌, ◌%◌, ◌/◌, [], length, arith, Option, refl, sym}
use Rattle.std.proofs.{Common.{map, set}, Math.Seq.map-set_same, lemmas.Result.{IfErr-at_err, on_ok_weaker, on_err_weaker}}
use Rattle.std.specs.{Arc.arc_value, Result.IsOk, declared.sync.Arc.Arc, declared.alloc.Global.Global}
use Rattle.graph_types.proofs.ListPlaces.{changed_part}
use Rattle.vertex_names.specs.{declared.part.Part.Part, Order.found_in, Shelves.found_on}
use Rattle.vertex_names.proofs.Parts.{with_number, with_number-other}
use Rattle.list_pieces.proofs.Shown.{always-OnErr}
use Rattle.vertex_names.proofs.shelf.put_in.Goals as goal

abbrev shown_part : Arc Part Global → List (ℕ × List (ℕ × ℕ))
shown_part p = arc_value {X = Part} p

pub returns-in_err-parts-clause-unchanged : goal.returns-in_err-parts-clause-unchanged
returns-in_err-parts-clause-unchanged c =
    let h : Arc Part Global = c.index_mut.result.now in
    let kept : shown_part c.make_mut.follows.lender-at-none ≡ shown_part h =
    elim (IfErr-at_err _ c.in_err-parts.was c.make_mut.follows.holds-at-none) [ inl e ↦ e | inr e ↦ e ] in
    let same = map-set_same shown_part c.args.parts.now.items c.args.place c.make_mut.follows.lender-at-none h
    (kept ∙ ap shown_part c.index_mut.ensures.value) in
    let found : (q : ℕ) → found_on (map shown_part (set c.args.parts.now.items c.args.place c.make_mut.follows.lender-at-none)) q
    ≡ found_on (map shown_part c.args.parts.now.items) q =
    λ q. ap (λ (ps : List (List (ℕ × List (ℕ × ℕ)))). found_on ps q) same in
    always-OnErr _ found

pub returns : goal.returns
returns c =
    let h : Arc Part Global = c.index_mut.result.now in
    let same : c.in_ok-parts.field-0.now ≡ shown_part h = elim c.in_ok-parts.ensures.value [ inl e ↦ e | inr e ↦ e ] in
    let ok : IsOk c.make_mut.result = search rules in
    let from : c.in_ok-parts.field-0.now ≡ shown_part (get_or c.args.parts.now.items c.args.place h) =
    same ∙ ap shown_part c.index_mut.ensures.value in
    let room : c.args.place < length c.args.parts.now.items = omega (arith, c.requires.place, c.requires.whole) in
    let into : shown_part (c.make_mut.follows.lender c.put.new.self) ≡ c.put.new.self = c.make_mut.follows.holds c.put.new.self ok in
    let part : (change : ℕ → Option ℕ → Option ℕ) → ((q : ℕ) → found_in c.put.new.self q ≡ change q (found_in c.in_ok-parts.field-0.now q))
    → ((q : ℕ) (found : Option ℕ) → q / 32 % 16 ≢ c.args.place → change q found ≡ found) → (q : ℕ)
    → found_on (map shown_part (set c.args.parts.now.items c.args.place (c.make_mut.follows.lender c.put.new.self))) q
    ≡ change q (found_on (map shown_part c.args.parts.now.items) q) =
    λ change here. changed_part shown_part [] (λ q. q / 32 % 16) found_in change c.args.parts.now.items c.args.place (c.make_mut.follows.lender c.put.new.self) h room
    (λ q. ap (λ (ps : List (ℕ × List (ℕ × ℕ))). found_in ps q) into ∙ here q
    ∙ ap (λ (ps : List (ℕ × List (ℕ × ℕ))). change q (found_in ps q)) from) in
    record {
      put = on_ok_weaker c.put.result
          (λ put. part (with_number c.args.hash c.args.number) put
          (with_number-other (λ q. q / 32 % 16) c.args.hash c.args.number c.args.place (sym c.requires.place))) c.put.ensures.put;
      unchanged = on_err_weaker c.put.result (λ kept. part (λ _ found. found) kept (λ _ _ _. refl)) c.put.ensures.unchanged;
    }
