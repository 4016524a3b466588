use Rattle.std.proofs.{Common.◌≡◌, Common.◌∙◌, Common.{ap, ap₂, codes, false, rules, true}, lemmas.Result.IfOk-weaker}
use Rattle.clap.specs.{Simple.{app_of, new_app, with_rule}, Walk.{Rule, rule_of}}
use Rattle.stinger_server.proofs.command_line.drive_command.Goals as goal

pub returns : goal.returns
returns g c =
    let start : app_of c.override_usage.result ≡ new_app (codes "drive") = search rules in
    let local : c.required.result.global ≡ false = search rules in
    let rule = ap rule_of c.required.ensures ∙ ap (λ (r : Rule). record r { required = true }) c.number.ensures.rule in
    IfOk-weaker c.arg.result _ _ (λ command h. h.shape local ∙ ap₂ with_rule start rule) c.arg.ensures
