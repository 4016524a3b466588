-- The laws of the machine: snapshot isolation, blocks and pins, and the rule of a Post.
use Rattle.std.specs.{Prelude.◌≡◌, Prelude.◌↔◌, Prelude.ℕ, Prelude.List, Prelude.length, Prelude.IsTrue, List.AllZip}
use Rattle.graph_types.specs.declared.batches.NamedOp.{NamedOp}
use Rattle.epoch_core.specs.{declared.events.Event.Event, Collections.LeavesWhatPinsNeed, Collections.LeavesNoneUnpinned}
use Rattle.epoch_core.specs.Collections.{LeavesWhatIsHeld, LeavesWhatMayBeHeld}
use Rattle.epoch_core.specs.{declared.events.Event.TheVariants.Post, Posts.MayPost, Holdings.holdings, Holdings.questions}
use Rattle.epoch_core.specs.{Worlds.World, Worlds.MachineState, Worlds.IsStart, Worlds.replies_of, Machine.Answers}
use Rattle.epoch_core.specs.{Runs.run, Runs.Runs, Runs.is_done, Epochs.FillsNoHeldBlock, Epochs.PinsInOrder, Epochs.IsPartition}

-- in one world: the replies to a session are, one by one, the answers to the requests of its holdings, each
-- over what the batches up to the held version leave
abbrev pub RepliesAreAnswers : Type 0
RepliesAreAnswers =
    (start end : MachineState) (events : List Event) (s : ℕ) → IsStart start → Runs start events end
    → AllZip Answers (questions (holdings s start.world events)) (replies_of end s)

-- in two worlds: where a session has the same holdings in two lists of events, from any two starts (their limits too may
-- differ), it has the same list of
-- replies in both. They are the same where they are as many, and the k-th ones hold versions of equal graphs and have equal
-- lists of requests that were replied to
abbrev pub AgreeingRunsReplyAlike : Type 0
AgreeingRunsReplyAlike =
    (s : ℕ) (start end : MachineState) (events : List Event) (other_start other_end : MachineState) (other_events : List Event)
    → IsStart start → Runs start events end → IsStart other_start → Runs other_start other_events other_end
    → holdings s start.world events ≡ holdings s other_start.world other_events → replies_of end s ≡ replies_of other_end s

-- at every moment of every list of events from a start
abbrev pub Always : (ℕ → World → Type 0) → Type 0
Always P = (start : MachineState) (events : List Event) → IsStart start → P (length start.world.status) (run events start.world)

abbrev pub AlwaysFillsNoHeldBlock : Type 0
AlwaysFillsNoHeldBlock = Always (λ blocks w. FillsNoHeldBlock w)

abbrev pub PinsAlwaysInOrder : Type 0
PinsAlwaysInOrder = Always (λ blocks w. PinsInOrder w)

abbrev pub BlocksAlwaysPartitioned : Type 0
BlocksAlwaysPartitioned = Always IsPartition

abbrev pub CollectionsLeaveWhatPinsNeed : Type 0
CollectionsLeaveWhatPinsNeed = Always (λ blocks w. LeavesWhatPinsNeed w)

abbrev pub CollectionsLeaveNoneUnpinned : Type 0
CollectionsLeaveNoneUnpinned = Always (λ blocks w. LeavesNoneUnpinned w)

abbrev pub CollectionsLeaveWhatIsHeld : Type 0
CollectionsLeaveWhatIsHeld = Always (λ blocks w. LeavesWhatIsHeld w)

abbrev pub CollectionsLeaveWhatMayBeHeld : Type 0
CollectionsLeaveWhatMayBeHeld = Always (λ blocks w. LeavesWhatMayBeHeld w)

-- in every world a Post is done exactly where its rule holds
abbrev pub PostsByItsRule : Type 0
PostsByItsRule = (w : World) (batch : List NamedOp) (blocks : List ℕ) → IsTrue (is_done w (Post batch blocks))
    ↔ MayPost w batch blocks
