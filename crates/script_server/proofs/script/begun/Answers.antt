use Rattle.std.proofs.{Common.{arith, inl, inr, refl, rules}, lemmas.Grind.common_steps}
use Rattle.std.specs.Prelude.{Err}
use Rattle.script_commands.specs.States.{Setup}
use Rattle.script_server.specs.{Runs.IsStartup, Writes.output, declared.script.ServeFault.TheVariants.Write}
use Rattle.script_server.proofs.script.begun.Goals as goal

pub returns-in-Ok-clause-starts : goal.returns-in-Ok-clause-starts
returns-in-Ok-clause-starts g c = λ setup shows. (
  c.over.ensures.server,
  c.over.ensures.counts.0,
  c.over.ensures.counts.1,
  c.over.ensures.beginning setup (rw c.in-Ok.is at shows),
  refl,
)

pub returns-in-Err-Start-clause-starts : goal.returns-in-Err-Start-clause-starts
returns-in-Err-Start-clause-starts g c = λ setup shows. inl (refl, refl)

pub returns-in_ok-last_line-in-Err-Memory-clause-starts : goal.returns-in_ok-last_line-in-Err-Memory-clause-starts
returns-in_ok-last_line-in-Err-Memory-clause-starts g c = λ setup shows.
    inr (inl (refl, c.in_ok-last_line-in-Err-Memory.ensures.whole))

pub returns-in_err-last_line-in-Err-Memory-clause-starts : goal.returns-in_err-last_line-in-Err-Memory-clause-starts
returns-in_err-last_line-in-Err-Memory-clause-starts g c =
    let told : (setup : Setup) → IsStartup setup (Err Write) (output _ _) =
    λ setup. inr (inr (refl, c.in_err-last_line-in-Err-Memory.ensures.part)) in
    first_of (search (rules, told), grind (arith, common_steps, told))
