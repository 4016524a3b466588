-- What the line of a collection says of the versions that sessions hold.
use Rattle.std.specs.Prelude.{◌≡◌, ℕ, Bool, false, not, ◌&&◌, List, length, map, count_by, slice_get, Option, None, Some, Ok}
use Rattle.std.specs.{List.list_any, List.range_with_len}
use Rattle.block_reclamation.specs.{Copies.least_of, Status.{is_among, is_at, is_retired}}
use Rattle.epoch_core.specs.declared.events.Event.{Event}
use Rattle.epoch_core.specs.{Runs.Runs, Versions.blocks_at}
use Rattle.epoch_core.specs.Worlds.{IsStart, MachineState, World, held_in, last_blocks, last_number}
use Rattle.feed_csv.specs.declared.command.Command.{TheVariants.Collect}
use Rattle.script_lines.specs.Lines.{collect_line}
use Rattle.script_commands.specs.{Machine.ShowsMachine, Servers.ShowsServer, States.{IsCommandResult, RecordResult, ServerState}}
use Rattle.script_commands.specs.declared.server.Server.{Server}

-- whether the version of this number lists the block; where there is no number, none does
abbrev pub lists_block : World → ℕ → Option ℕ → Bool
lists_block w b None = false
lists_block w b (Some n) = is_among b (blocks_at w.opening w.versions n)

-- whether the version that some session holds lists the block
abbrev pub is_held : World → ℕ → Bool
is_held w b = list_any (λ session. lists_block w b (held_in session)) w.sessions

-- how many blocks there are of which this is so
abbrev pub count_blocks : World → (ℕ → Bool) → ℕ
count_blocks w is_so = count_by is_so (range_with_len 0 (length w.status))

-- the line of a collection: its floor is the least of the last version's number and all held numbers; recycled are the retired
-- blocks that no held version lists; and left retired those that a held version lists and the last version doesn't
abbrev pub held_line : World → List ℕ
held_line w =
    collect_line (least_of (last_number w) (map held_in w.sessions))
    (count_blocks w (λ b. is_at is_retired (slice_get w.status b) && not (is_held w b)))
    (count_blocks w (λ b. is_held w b && not (is_among b (last_blocks w))))

-- whatever run of the machine leads to a world that the server shows, a collection prints this line
abbrev pub TellsWhatIsHeld : Type 0
TellsWhatIsHeld =
    (server : Server) (s : ServerState) (start here : MachineState) (events : List Event) (outcome : RecordResult) → IsStart start
    → Runs start events here → ShowsMachine server here.world → ShowsServer server s → IsCommandResult Collect s outcome
    → outcome ≡ Ok (held_line here.world)
