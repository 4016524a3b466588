use Rattle.std.proofs.{Common.◌∙◌, Common.sym, Common.ap, lemmas.Bool.false≢true}
use Rattle.block_pool.proofs.StatusReads.{status_read}
use Rattle.block_reclamation.specs.Status.{is_retired}
use Rattle.block_pool.proofs.numbers.Numbers.dates_of.Goals as goal

pub unreachable-requires : goal.unreachable-requires
unreachable-requires c =
    let read = status_read c.args.self.now c.args.number c.get.result c.requires.within c.get.ensures in
    false≢true (ap is_retired (sym (read ∙ c.in-Free.is)) ∙ c.requires.retired)

pub unreachable-requires-in-Granted : goal.unreachable-requires-in-Granted
unreachable-requires-in-Granted c =
    let read = status_read c.args.self.now c.args.number c.get.result c.requires.within c.get.ensures in
    false≢true (ap is_retired (sym (read ∙ c.in-Granted.is)) ∙ c.requires.retired)

pub unreachable-requires-in-Used : goal.unreachable-requires-in-Used
unreachable-requires-in-Used c =
    let read = status_read c.args.self.now c.args.number c.get.result c.requires.within c.get.ensures in
    false≢true (ap is_retired (sym (read ∙ c.in-Used.is)) ∙ c.requires.retired)

pub returns : goal.returns
returns c =
    let read = status_read c.args.self.now c.args.number c.get.result c.requires.within c.get.ensures in
    read ∙ c.in-Retired.is
