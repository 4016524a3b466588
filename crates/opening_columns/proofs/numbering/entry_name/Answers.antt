use Rattle.std.proofs.Common.{◌≡◌, ◌∙◌, sym, true, true≢false, arith}
use Rattle.std.proofs.lemmas.Grind.{common_steps}
use Rattle.graph_types.{specs.Valid.is_name, proofs.NameTexts.no_text_no_name}
use Rattle.opening_columns.specs.Numbers.{may_name}
use Rattle.opening_columns.proofs.SeenNames.{named_is_name}
use Rattle.opening_columns.proofs.numbering.entry_name.Goals as goal

pub returns-in-Err : goal.returns-in-Err
returns-in-Err c =
    let bytes = c.in_ok-bytes.bytes.now in
    let may : may_name c.args.is_kind bytes ≡ true = grind (arith, common_steps) in
    let name : is_name bytes ≡ true = named_is_name c.args.is_kind bytes may in
    absurd (true≢false (sym name ∙ no_text_no_name bytes c.in-Err.ensures.cases.0))
