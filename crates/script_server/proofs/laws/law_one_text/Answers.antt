use Rattle.feed_csv.specs.Records.{records_of}
use Rattle.script_server.proofs.OneText.{one_text}
use Rattle.script_server.proofs.laws.law_one_text.Goals as goal

pub returns : goal.returns
returns c = λ setup bytes. one_text setup (records_of bytes)
