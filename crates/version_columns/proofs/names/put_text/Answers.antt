use Rattle.std.proofs.Common.{rules}
use Rattle.std.proofs.lemmas.Slice.{overwrites}
use Rattle.version_columns.proofs.names.put_text.Goals as goal

pub returns : goal.returns
returns c = search (rules, overwrites)
