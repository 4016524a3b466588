use Rattle.std.proofs.{Common.◌≡◌, Common.◌∙◌, Common.ap₂, Common.codes, Common.rules, lemmas.Result.IfOk-weaker}
use Rattle.clap.specs.Simple.{app_of, new_app, with_rule}
use Rattle.stinger_server.proofs.command_line.run_command.Goals as goal

pub returns : goal.returns
returns g c =
    let start : app_of c.override_usage.result ≡ new_app (codes "run") = search rules in
    let workers = c.in_ok-arg.ensures.shape c.size-workers.ensures.local ∙ ap₂ with_rule start c.size-workers.ensures.rule in
    let blocks = c.in_ok-arg-2.ensures.shape c.size-blocks.ensures.local ∙ ap₂ with_rule workers c.size-blocks.ensures.rule in
    let seats = c.in_ok-arg-3.ensures.shape c.size-seats.ensures.local ∙ ap₂ with_rule blocks c.size-seats.ensures.rule in
    IfOk-weaker c.arg-4.result _ _ (λ command h. h.shape c.flag.ensures.local ∙ ap₂ with_rule seats c.flag.ensures.rule)
    c.arg-4.ensures
