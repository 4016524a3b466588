use Rattle.std.proofs.Common.{◌∙◌, [], ◌∷◌, ap}
use Rattle.clap.specs.Walk.{Rule, rule_of}
use Rattle.stinger_server.proofs.command_line.size.Goals as goal

pub returns-clause-rule : goal.returns-clause-rule
returns-clause-rule g c =
    ap rule_of c.default_value.ensures ∙ ap (λ (r : Rule). record r { defaults = c.args.default.now ∷ [] }) c.number.ensures.rule
