use Rattle.std.proofs.Common.{rules}
use Rattle.graph_types.proofs.Cases.{err_always}
use Rattle.script_server.proofs.Flushed.{all_of_it}
use Rattle.script_server.proofs.output.put_flushed.Goals as goal

pub returns-clause-flushed : goal.returns-clause-flushed
returns-clause-flushed g c = search rules

pub returns-clause-part : goal.returns-clause-part
returns-clause-part g c = err_always _ _ (all_of_it _ _ _ _ c.in_ok-put.ensures.whole c.flush.ensures.bytes)
