use Rattle.std.proofs.Common.{rules}
use Rattle.graph_types.proofs.Cases.{err_always}
use Rattle.script_server.proofs.script.Run.print.Goals as goal

pub returns-in_err-error_line-in-Refused-clause-part : goal.returns-in_err-error_line-in-Refused-clause-part
returns-in_err-error_line-in-Refused-clause-part g c =
    rw c.in-Refused.is (err_always _ _ c.in_err-error_line-in-Refused.ensures.part)

pub returns-in_err-put-in-Lines-clause-part : goal.returns-in_err-put-in-Lines-clause-part
returns-in_err-put-in-Lines-clause-part g c = search rules

pub returns-clause-whole : goal.returns-clause-whole
returns-clause-whole g c = search rules
