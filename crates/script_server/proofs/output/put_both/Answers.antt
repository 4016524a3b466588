use Rattle.std.proofs.lemmas.Result.{on_err_weaker}
use Rattle.graph_types.proofs.{Cases.{err_always, on_ok_map}, Prefixes.appends_then}
use Rattle.script_server.proofs.Writing.{part_longer, part_then}
use Rattle.script_server.proofs.output.put_both.Goals as goal

pub returns-in_err-put-clause-part : goal.returns-in_err-put-clause-part
returns-in_err-put-clause-part g c = err_always _ _ (part_longer _ _ c.args.text.now _ c.in_err-put.ensures.part)

pub returns-clause-whole : goal.returns-clause-whole
returns-clause-whole g c =
    on_ok_map _ _ _ (appends_then _ _ _ c.args.text.now c.args.end.now c.in_ok-put.ensures.whole) c.put_flushed.ensures.whole

pub returns-clause-part : goal.returns-clause-part
returns-clause-part g c =
    on_err_weaker _ (part_then _ _ _ c.args.text.now c.args.end.now c.in_ok-put.ensures.whole) c.put_flushed.ensures.part
