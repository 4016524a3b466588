-- What the fields of the machine show.
use Rattle.epoch_core.specs.{declared.session_states.Parts.Parts, Worlds.MachineState}

abbrev pub state_of : Parts → MachineState
state_of p = record {
  world = record {
    opening = p.opening;
    heap = p.heap.items;
    status = p.status.items;
    versions = p.versions.items;
    floor = p.floor;
    copy = p.copy;
    sessions = p.sessions.items;
  };
  replies = p.replies.items;
}
