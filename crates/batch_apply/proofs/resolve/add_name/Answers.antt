use Rattle.std.proofs.Common.{◌≡◌, ◌∙◌, ℕ, List, Some, sym, ap}
use Rattle.std.proofs.lemmas.Result.{IfOk-weaker}
use Rattle.graph_types.specs.Step.{with_name, number_of}
use Rattle.graph_types.proofs.ListedNames.{placed}
use Rattle.batch_apply.{specs.Plan.known, proofs.Names.target_known}
use Rattle.batch_apply.proofs.resolve.add_name.Goals as goal

pub returns-in-None-clause-number : goal.returns-in-None-clause-number
returns-in-None-clause-number c =
    let names : List (List ℕ) = c.args.names.now.names in
    let name : List ℕ = c.args.name.now in
    IfOk-weaker c.add.result (λ n. n ≡ number_of names name) (λ n. known (with_name names name) name ≡ Some n)
    (λ n is. sym (ap Some (is ∙ placed names name) ∙ target_known names name)) c.add.ensures.number
