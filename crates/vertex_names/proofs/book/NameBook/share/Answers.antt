use Rattle.std.proofs.Common.{ℕ, List, ap, ◌∙◌}
use Rattle.vertex_names.specs.Book.{Book}
use Rattle.vertex_names.proofs.book.NameBook.share.Goals as goal

pub returns : goal.returns
returns c =
    ap (λ (all : List (List ℕ)). let b : Book = record { limit = c.self.inside.limit; names = all } in b) c.in_ok-shared.ensures
    ∙ c.self.view_is
