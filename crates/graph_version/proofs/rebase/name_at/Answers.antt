use Rattle.std.proofs.Common.{◌≡◌, ◌∙◌, [], sym, ap, rules}
use Rattle.std.specs.Prelude.{None, option_copied, slice_get}
use Rattle.graph_types.proofs.ListedNames.{none_at}
use Rattle.graph_version.proofs.rebase.name_at.Goals as goal

pub returns-in-None : goal.returns-in-None
returns-in-None c =
    let blank : c.of-in-None.result ≡ [] = search rules in
    let none : slice_get c.args.book.now.names c.args.number ≡ None = sym c.name.ensures ∙ ap option_copied c.in-None.is in
    blank ∙ sym (none_at c.args.book.now.names c.args.number none)
