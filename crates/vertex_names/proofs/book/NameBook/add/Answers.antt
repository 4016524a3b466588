use Rattle.std.proofs.Common.{◌≡◌, ◌∙◌, ◌++◌, ◌∷◌, ◌<◌, [], ℕ, List, length, false, sym, ap, arith}
use Rattle.graph_types.{specs.Answer.is_listed, proofs.NameNumbers.number_absent}
use Rattle.vertex_names.{specs.{Book.Book, Tables.names_of}, proofs.Names.{not_listed, IsBook-pushed}}
use Rattle.vertex_names.proofs.book.NameBook.add.Goals as goal

pub invariant_of-self-2 : goal.invariant_of-self-2
invariant_of-self-2 c =
    let names : List (List ℕ) = names_of c.self.inside.tables in
    let new : is_listed names c.args.name.now ≡ false =
    not_listed _ _ c.args.name.now c.self.view_is c.in_default-number_at.ensures in
    let count : c.len-number.result ≡ length names =
    c.len-number.ensures.value ∙ ap (λ (b : Book). length b.names) (sym c.self.view_is) in
    let room : length names < c.self.inside.limit = omega (arith, count) in
    let pushed : names_of c.push_name.new.tables ≡ names ++ c.args.name.now ∷ [] = c.in_ok-push_name.ensures.pushed in
    rw pushed (IsBook-pushed c.self.inside.limit names c.args.name.now c.requires new room c.self.invariant)

pub returns-clause-number : goal.returns-clause-number
returns-clause-number c =
    let new : is_listed (names_of c.self.inside.tables) c.args.name.now ≡ false =
    not_listed _ _ c.args.name.now c.self.view_is c.in_default-number_at.ensures in
    rw (← c.self.view_is)
    (c.len-number.ensures.value ∙ ap (λ (b : Book). length b.names) (sym c.self.view_is) ∙ sym (number_absent _ _ new))
