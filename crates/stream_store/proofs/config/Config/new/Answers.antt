use Rattle.std.proofs.Common.{rules}
use Rattle.stream_store.proofs.Configured.{standard_made}
use Rattle.stream_store.proofs.config.Config.new.Goals as goal

pub returns : goal.returns
returns c = standard_made c.args.workers c.args.blocks c.args.seats c.standard.result c.within.result c.standard.ensures.value
    c.standard.ensures.limits (search rules) c.within.ensures
