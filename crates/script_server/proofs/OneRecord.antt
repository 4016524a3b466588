-- A turn, from what the calls below it say.
use Rattle.std.proofs.Common.{◌≡◌, ℕ, ◌+◌, ◌<◌, List, string_bytes, arith, refl, subst, ◌∙◌, ap, inr}
use Rattle.std.specs.{Prelude.{Option, Some, Result, Ok, Err, IfOk}, Io.KnownBytes.Appends}
use Rattle.epoch_core.specs.Worlds.{start_in}
use Rattle.stream_store.specs.Configs.{ConfigView}
use Rattle.feed_csv.specs.{Records.record_limit, declared.command.Command.Command}
use Rattle.feed_csv.specs.declared.command.FeedWord.{FeedWord}
use Rattle.script_server.specs.declared.script.{Run.Run, ServeFault.{ServeFault, TheVariants.Write}}
use Rattle.script_commands.specs.declared.server.{Server.Server, Stop.Stop}
use Rattle.script_commands.specs.declared.server.Response.TheVariants.{Refused}
use Rattle.script_commands.specs.{Machine.StartsMachine, Servers.{IsServer, ReopensIn, result_of}}
use Rattle.script_commands.specs.States.{IsRecordResult, Progress, RecordResult, printed}
use Rattle.script_server.specs.Ends.{NoMemory, NoStore, TellsEnd, Unwritten}
use Rattle.script_server.specs.Runs.{CompletesRecord, CountsRecord, EndsRun, ShowsRun, ShowsStart}
use Rattle.script_server.specs.Writes.{AppendsPart, output}
use Rattle.script_lines.specs.declared.words.Word.TheVariants.{Feed}

-- a record that is no command was refused
pub refused : (row_item : Result Command FeedWord) (word : FeedWord) (old new : Run) (before after : Option (List ℕ))
    → row_item ≡ Err word → IsServer old.server
    → Appends before after (printed (old.records + 1) (result_of (Refused (Feed word)) (string_bytes old.lines)))
    → CountsRecord old (Refused (Feed word)) new
    → CompletesRecord row_item old new (output before after)
refused row_item word old new before after is server written counted =
    let same : new.server ≡ old.server = counted.server in
    record {
      server = rw same server;
      records = counted.records;
      errors = omega (arith, counted.errors);
      response = Refused (Feed word);
      lines = string_bytes old.lines;
      step = λ here shows.
          let number : old.records ≡ here.records = shows.records in (
            rw is refl,
            rw (← number) written,
            record {
              server = rw (same, is) shows.server;
              records = counted.records ∙ ap (λ n. n + 1) number;
              errors = counted.errors ∙ ap (λ n. n + 1) shows.errors;
            },
          );
      machine = rw is same;
    }

-- an end at a command: in what it came to a write failed; there was no memory for it; or it opened no store
pub obeyed_unwritten : (command : Command) (old : Run) (outcome : RecordResult) (before after : Option (List ℕ))
    → ((here : Progress) → ShowsRun old here → IsRecordResult (Ok command) here.state outcome)
    → AppendsPart before after (printed (old.records + 1) outcome)
    → EndsRun (Some (Ok command)) old Write (output before after)
obeyed_unwritten command old outcome before after comes part = record {
  end = Unwritten outcome;
  given = λ same. cc;
  can = comes;
  told = inr (refl, part);
}

pub lacks_memory : (command : Command) (old : Run) (fault : ServeFault) (before after : Option (List ℕ))
    → old.records < record_limit → TellsEnd NoMemory old.records fault (output before after)
    → EndsRun (Some (Ok command)) old fault (output before after)
lacks_memory command old fault before after room told = record {
  end = NoMemory;
  given = λ same. cc;
  can = λ here shows. subst (λ (n : ℕ). n < record_limit) shows.records room;
  told = told;
}

pub lacks_store : (command : Command) (old : Run) (fault : ServeFault) (before after : Option (List ℕ))
    → ReopensIn command old.server → TellsEnd NoStore old.records fault (output before after)
    → EndsRun (Some (Ok command)) old fault (output before after)
lacks_store command old fault before after reopens told = record {
  end = NoStore;
  given = λ same. cc;
  can = λ here shows. reopens here.state shows.server;
  told = told;
}

-- a run over a server that has begun shows the start
pub starts_there : (config : ConfigView) (server : Result Server Stop) (result : Result Run ServeFault)
    → IfOk server (StartsMachine config) → IfOk result (λ run. server ≡ Ok run.server)
    → IfOk result (λ run. ShowsStart run.server)
starts_there config server (Err fault) starts over = tt
starts_there config server (Ok run) starts over =
    let begun : StartsMachine config run.server = subst (λ s. IfOk s (StartsMachine config)) over starts in
    (start_in config.limits config.seats config.blocks, begun.0, begun.1)
