use Rattle.desk_columns.proofs.Fed.{fed_insertions}
use Rattle.desk_columns.proofs.Replayed.{based, cut, joined, replayed_content}
use Rattle.desk_columns.proofs.SentBatches.{taken_once}
use Rattle.desk_columns.proofs.laws.law_replay.Goals as goal

pub returns : goal.returns
returns c = record {
  content = replayed_content;
  cut = cut;
  joined = joined;
  base = based;
  insertions = fed_insertions;
  once = taken_once;
}
