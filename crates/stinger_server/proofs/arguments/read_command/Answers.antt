use Rattle.std.proofs.Common.{◌∙◌, ap, ap₂, map}
use Rattle.clap.specs.{Faults.{fault_of, is_simple_and_free}, Simple.{is_simple, subcommand_of}, Words.subcommand_rows_of}
use Rattle.stinger_server.proofs.Served.{asked_well, explained}
use Rattle.stinger_server.proofs.arguments.read_command.Goals as goal

pub returns-in-Ok-order_of : goal.returns-in-Ok-order_of
returns-in-Ok-order_of g c =
    asked_well (map (λ argument. argument.now) c.args.arguments.now) _ (subcommand_rows_of c.in-Ok.matches) _
    (ap₂ fault_of c.in_ok-command.ensures c.without_help.ensures)
    (c.in-Ok.ensures.kinds (ap is_simple_and_free c.in_ok-command.ensures))
    ((c.in-Ok.ensures.matches (ap is_simple c.in_ok-command.ensures)).1
    ∙ ap₂ subcommand_of c.in_ok-command.ensures c.without_help.ensures) c.in-Ok-order_of.ensures

pub returns-in-Ok : goal.returns-in-Ok
returns-in-Ok g c =
    asked_well (map (λ argument. argument.now) c.args.arguments.now) _ (subcommand_rows_of c.in-Ok.matches) _
    (ap₂ fault_of c.in_ok-command.ensures c.without_help.ensures)
    (c.in-Ok.ensures.kinds (ap is_simple_and_free c.in_ok-command.ensures))
    ((c.in-Ok.ensures.matches (ap is_simple c.in_ok-command.ensures)).1
    ∙ ap₂ subcommand_of c.in_ok-command.ensures c.without_help.ensures) c.in-Err-order_of.ensures

pub returns : goal.returns
returns g c =
    explained c.explain.result (map (λ argument. argument.now) c.args.arguments.now) _ _
    (ap₂ fault_of c.in_ok-command.ensures c.without_help.ensures)
    (c.in-Err.ensures.kinds (ap is_simple_and_free c.in_ok-command.ensures)) c.explain.ensures.known c.explain.ensures.order
