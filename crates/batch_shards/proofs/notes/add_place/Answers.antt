use Rattle.std.proofs.Common.{refl}
use Rattle.batch_shards.proofs.notes.add_place.Goals as goal

pub returns : goal.returns
returns c = record {
  before = c.index_mut.result.now;
  after = c.push.new.self;
  before_is = c.index_mut.ensures.value;
  after_is = c.in_ok-push.ensures.items;
  lists_are = refl;
}
