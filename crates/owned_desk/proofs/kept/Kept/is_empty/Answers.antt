use Rattle.std.proofs.Common.{◌≡◌, ℕ, ◌<◌, List, false, length, map, get_or, refl, sym, ap, ◌∙◌, below_more, arith}
use Rattle.std.proofs.{Math.ListN.get_or-map, lemmas.List.get_or_default}
use Rattle.std.specs.{Prelude.{Option, None, Some, option_map, is_some}, Arc.arc_value}
use Rattle.graph_version.specs.{declared.versions.Version.Version}
use Rattle.owned_desk.specs.Kept.{KeptView, seat_version}
use Rattle.owned_desk.proofs.kept.Kept.is_empty.Goals as goal

is_none : {A : Type 0} (x : Option A) → false ≡ is_some x → x ≡ None
is_none None isnt = refl
is_none (Some x) isnt = absurd (cc (isnt))

none_at : {A B : Type 0} (f : A → B) (xs : List (Option A)) (i : ℕ) (x : Option A) → i < length xs → false ≡ is_some (get_or xs i x)
    → get_or (map (option_map f) xs) i None ≡ None
none_at f xs i x low isnt =
    get_or-map (option_map f) xs i None ∙ ap (option_map f) (get_or_default xs i None x low ∙ is_none (get_or xs i x) isnt)

pub loop-version-preserved : goal.loop-version-preserved
loop-version-preserved c =
    let at : seat_version c.args.self.now.versions c.loop-version.version-index ≡ None =
    sym (ap (λ (k : KeptView). seat_version k.versions c.loop-version.version-index) c.self.view_is)
    ∙ none_at (arc_value {X = Version}) c.self.inside.versions c.loop-version.version-index c.version-item.result
    (let many = c.type_inv.version-items in let low = c.loop-version-test.true in omega (arith, many, low)) c.if-is_some.ensures in
    below_more _ _ c.loop-version.invariant at
