use Rattle.std.proofs.Common.{rules}
use Rattle.vertex_names.proofs.book.NameBook.is_empty.Goals as goal

-- Its search is long where it fails.
pub returns : goal.returns
returns c = search rules
