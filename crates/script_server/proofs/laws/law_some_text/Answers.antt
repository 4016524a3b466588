use Rattle.std.proofs.Common.{[], refl}
use Rattle.feed_csv.specs.Records.{records_of}
use Rattle.graph_types.{specs.Graph.content_of, proofs.Empty.empty_content_in}
use Rattle.script_server.proofs.SomeText.{some_text}
use Rattle.script_commands.specs.States.{set_up}
use Rattle.script_server.proofs.laws.law_some_text.Goals as goal

pub returns : goal.returns
returns c = record {
  from_nothing = λ config bytes are few. some_text config.limits are (set_up config) (records_of bytes)
      (content_of [] [] [], empty_content_in config.limits, refl) few;
  from_content = λ setup opening bytes are is same few. some_text setup.opening.limits are setup (records_of bytes)
      (opening, is, same) few;
}
