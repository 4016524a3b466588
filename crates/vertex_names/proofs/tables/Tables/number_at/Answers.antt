use Rattle.std.{proofs.Common.{◌≡◌, ◌≢◌, ◌∙◌, ℕ, List, sym, ap, subst, Some, None, true≢false, AllPairs}, specs.List.slice_get}
use Rattle.graph_types.proofs.ListedNames.{listed_at}
use Rattle.vertex_names.{specs.Index.{found_at, text_hash}, proofs.Names.{none_listed, SomeIff-among}}
use Rattle.vertex_names.proofs.tables.Tables.number_at.Goals as goal

pub returns-in_err-first : goal.returns-in_err-first
returns-in_err-first c =
    let none : found_at c.self.inside.index (text_hash c.args.name.now) ≡ None =
    ap (λ h. found_at c.self.inside.index h) (sym c.requires.hash) ∙ sym c.first.ensures ∙ c.in_err-first.was in
    rw (c.from_residual.ensures, ← c.self.view_is)
    (none_listed c.self.inside.texts c.self.inside.index c.self.inside.others.items c.args.name.now c.self.invariant none)

pub returns-then-is_at : goal.returns-then-is_at
returns-then-is_at c =
    let distinct : AllPairs (λ a b. a ≢ b) c.self.inside.texts =
    subst (λ (names : List (List ℕ)). AllPairs (λ a b. a ≢ b) names) (sym c.self.view_is) c.requires.distinct in
    let at : slice_get c.self.inside.texts c.in_ok-first.first ≡ Some c.args.name.now = c.is_at.ensures.0 c.if-is_at.true in
    rw (← c.self.view_is) (listed_at c.self.inside.texts c.in_ok-first.first c.args.name.now distinct at)

pub returns : goal.returns
returns c =
    let distinct : AllPairs (λ a b. a ≢ b) c.self.inside.texts =
    subst (λ (names : List (List ℕ)). AllPairs (λ a b. a ≢ b) names) (sym c.self.view_is) c.requires.distinct in
    let found : found_at c.self.inside.index (text_hash c.args.name.now) ≡ Some c.in_ok-first.first =
    ap (λ h. found_at c.self.inside.index h) (sym c.requires.hash) ∙ sym c.first.ensures ∙ c.in_ok-first.was in
    let other : ¬ (slice_get c.self.inside.texts c.in_ok-first.first ≡ Some c.args.name.now) =
    λ at. true≢false (sym (c.is_at.ensures.1 at) ∙ c.if-is_at.false) in
    rw (← c.self.view_is)
    (SomeIff-among c.self.inside.texts c.self.inside.index c.self.inside.others.items c.args.name.now c.in_ok-first.first
    c.find_among.result distinct c.self.invariant found other
    c.find_among.ensures.found (rw c.deref.ensures.value at c.find_among.ensures.absent))
