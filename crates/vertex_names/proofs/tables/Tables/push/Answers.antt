use Rattle.std.proofs.Common.{◌≡◌, ◌∙◌, ◌++◌, ◌∷◌, [], ℕ, List, length, ap, subst}
use Rattle.vertex_names.{specs.Index.{text_hash, Stands}, proofs.Names.{IsIndexed-kept, IsIndexed-pushed}}
use Rattle.vertex_names.proofs.tables.Tables.push.Goals as goal

pub invariant_of-self : goal.invariant_of-self
invariant_of-self c = IsIndexed-kept _ _ _ _ _ c.self.invariant c.enter.ensures.kept

pub invariant_of-self-in_err-push : goal.invariant_of-self-in_err-push
invariant_of-self-in_err-push c =
    rw c.in_err-push.ensures.unchanged (IsIndexed-kept _ _ _ _ _ c.self.invariant c.enter.ensures.kept)

pub invariant_of-self-2 : goal.invariant_of-self-2
invariant_of-self-2 c =
    let names : List (List ℕ) = c.self.inside.texts in
    let pushed : c.push.new.self ≡ names ++ c.args.name.now ∷ [] =
    c.in_ok-push.ensures.pushed ∙ ap (λ (n : List ℕ). names ++ n ∷ []) c.in_ok-text.ensures in
    let stands : Stands c.enter.new.index c.enter.new.others.items (text_hash c.args.name.now) (length names) =
    subst (λ (h : ℕ). Stands c.enter.new.index c.enter.new.others.items h (length names)) c.requires.hash
    (subst (λ (n : ℕ). Stands c.enter.new.index c.enter.new.others.items c.args.hash n) c.len-number.ensures
    c.in_ok-enter.ensures.entered) in
    rw pushed (IsIndexed-pushed _ _ _ _ (IsIndexed-kept _ _ _ _ _ c.self.invariant c.enter.ensures.kept) stands)

pub returns-clause-pushed : goal.returns-clause-pushed
returns-clause-pushed c =
    let names : List (List ℕ) = c.self.inside.texts in
    let pushed : c.push.new.self ≡ names ++ c.args.name.now ∷ [] =
    c.in_ok-push.ensures.pushed ∙ ap (λ (n : List ℕ). names ++ n ∷ []) c.in_ok-text.ensures in
    rw (← c.self.view_is) pushed
