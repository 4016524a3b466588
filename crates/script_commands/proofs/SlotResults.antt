-- Slots: how many there are, what one finds, and what a slot's command is answered.
use Rattle.std.proofs.{Common.{◌≡◌, ℕ, zero, suc, List, length, replicate, refl}, lemmas.List.{length-replicate, length-set}}
use Rattle.std.specs.Prelude.{Result, Ok, None, Err, slice_get, Option, Some, slice_set}
use Rattle.std.proofs.{Common.{◌≤◌, [], ◌∷◌, sym, ap, ◌∙◌, arith}, lemmas.List.{length-append, take-append-le}}
use Rattle.graph_types.specs.{Graph.{Graph, unlimited}, declared.requests.Request.Request}
use Rattle.graph_types.specs.declared.requests.Request.TheVariants.{Levels, Labels, Cores, Degrees, OneEdge}
use Rattle.graph_types.specs.Step.{left_by}
use Rattle.graph_types.proofs.ListPlaces.{set_else}
use Rattle.epoch_core.specs.Worlds.{Answer}
use Rattle.feed_csv.specs.declared.command.Command.{Command}
use Rattle.feed_csv.specs.declared.command.Command.TheVariants.{Op, Commit, OpenSlot, CloseSlot, Query, Collect, Stat, Rebase}
use Rattle.feed_csv.specs.declared.command.FeedWord.{FeedWord}
use Rattle.script_lines.specs.declared.words.Word.{Word}
use Rattle.script_commands.specs.States.{ServerState, Held, rebased, RecordResult, after_item, version_in, Reopens, rebase_result}
use Rattle.script_commands.specs.States.{answer_result, lines_unless, open_refusal, close_result, version, after_commit}

rebased_many : (s : ServerState) (r : Result Held Word) → length (rebased s r).held ≡ length s.held
rebased_many s (Ok held) = length-replicate (length s.held) None
rebased_many s (Err word) = refl

pub slots_many : (item : Result Command FeedWord) (outcome : RecordResult) (s : ServerState)
    → length (after_item item outcome s).held ≡ length s.held
slots_many (Err word) outcome s = refl
slots_many (Ok (Op op)) (Ok lines) s = refl
slots_many (Ok (Op op)) (Err word) s = refl
slots_many (Ok Commit) (Ok lines) s = refl
slots_many (Ok Commit) (Err word) s = refl
slots_many (Ok (OpenSlot slot)) (Ok lines) s = length-set s.held slot _
slots_many (Ok (OpenSlot slot)) (Err word) s = refl
slots_many (Ok (CloseSlot slot)) (Ok lines) s = length-set s.held slot None
slots_many (Ok (CloseSlot slot)) (Err word) s = refl
slots_many (Ok (Query slot request)) (Ok lines) s = refl
slots_many (Ok (Query slot request)) (Err word) s = refl
slots_many (Ok Collect) (Ok lines) s = refl
slots_many (Ok Collect) (Err word) s = refl
slots_many (Ok Stat) (Ok lines) s = refl
slots_many (Ok Stat) (Err word) s = refl
slots_many (Ok (Rebase slot)) (Ok lines) s = rebased_many s (version_in (slice_get s.held slot))
slots_many (Ok (Rebase slot)) (Err word) s = refl

pub no_rebase : (command : Command) (s : ServerState) → ((slot : ℕ) → command ≡ Rebase slot → ⊥) → Reopens (Ok command) s → ⊥
no_rebase command s other reopens =
    let both : Ok command ≡ Ok (Rebase reopens.0) = reopens.2 in
    let same : command ≡ Rebase reopens.0 = cc in
    other reopens.0 same

pub never_reopens : (word : FeedWord) (s : ServerState) → Reopens (Err word) s → ⊥
never_reopens word s reopens = let no : Err word ≡ Ok (Rebase reopens.0) = reopens.2 in cc

pub refused_there : (s : ServerState) (r : Result Held Word) (word : Word) (held : Held) → Err word ≡ rebase_result s r
    → r ≡ Ok held → ⊥
refused_there s (Ok h) word held is same = cc
refused_there s (Err other) word held is same = cc

-- what an answer comes to doesn't show the limits of its graph
pub one_result : (slot : ℕ) (request : Request) (g : Graph) (answer : Answer)
    → answer_result slot request g answer ≡ answer_result slot request (unlimited g) answer
one_result slot (Levels source filter) g answer = refl
one_result slot (Labels filter) g answer = refl
one_result slot (Cores filter) g answer = refl
one_result slot (Degrees filter) g answer = refl
one_result slot (OneEdge kind source target) g answer = refl

pub found_held : (o : Option (Option Held)) (held : Held) → version_in o ≡ Ok held → o ≡ Some (Some held)
found_held None held is = cc
found_held (Some None) held is = cc
found_held (Some (Some h)) held is = cc

pub none_replicated : (n slot : ℕ) (held : Held) → version_in (slice_get (replicate n None) slot) ≡ Ok held → ⊥
none_replicated zero slot held is = cc
none_replicated (suc n) zero held is = cc
none_replicated (suc n) (suc slot) held is = none_replicated n slot held is

-- what a slot was before a record that opened or closed it
pub was_free : (o : Option (Option Held)) (lines line : List ℕ) → Ok lines ≡ lines_unless (open_refusal o) line → o ≡ Some None
was_free None lines line is = cc
was_free (Some None) lines line is = refl
was_free (Some (Some held)) lines line is = cc

pub was_held : (slot : ℕ) (r : Result Held Word) (lines : List ℕ) → Ok lines ≡ close_result slot r → (held : Held) × (r ≡ Ok held)
was_held slot (Ok held) lines is = (held, refl)
was_held slot (Err word) lines is = absurd (cc)

-- the slot holds no version, or one of this graph, whatever the limits
abbrev pub Stands : ℕ → ServerState → Option Graph → Type 0
Stands slot s None = (held : Held) → version_in (slice_get s.held slot) ≡ Ok held → ⊥
Stands slot s (Some g) =
    (held : Held) × (version_in (slice_get s.held slot) ≡ Ok held) × (held.number ≤ length s.batches)
    × (unlimited (version held.number s) ≡ g)

-- where a run has come to, a slot holds no version, or one of some graph
pub record Standing (slot : ℕ) (s : ServerState) : Type 0 where
  pub now : Option Graph
  pub stands : Stands slot s now

pub one_graph : (slot : ℕ) (s : ServerState) (held : Held) (now : Option Graph) → Stands slot s now
    → version_in (slice_get s.held slot) ≡ Ok held → (g : Graph) × Stands slot s (Some g)
one_graph slot s held None stands at = absurd (stands held at)
one_graph slot s held (Some g) stands at = (g, stands)

pub stands_committed : (slot : ℕ) (s : ServerState) (now : Option Graph) → Stands slot s now → Stands slot (after_commit s) now
stands_committed slot s None stands = stands
stands_committed slot s (Some g) stands = (
  stands.0,
  stands.1,
  omega (arith, stands.2, length-append s.batches (s.pending ∷ [])),
  ap (λ batches. unlimited (left_by batches s.opening)) (take-append-le stands.0.number s.batches (s.pending ∷ []) stands.2)
      ∙ stands.3,
)

-- a slot that is opened, or closed
pub stands_else : (slot other : ℕ) (s : ServerState) (to : Option Held) (now : Option Graph) → (slot ≡ other → ⊥) → Stands slot s now
    → Stands slot (record s { held = slice_set s.held other to }) now
stands_else slot other s to None ne stands =
    λ held is. stands held (ap version_in (sym (set_else s.held other slot to ne)) ∙ is)
stands_else slot other s to (Some g) ne stands =
    (stands.0, ap version_in (set_else s.held other slot to ne) ∙ stands.1, stands.2, stands.3)
