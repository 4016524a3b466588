-- Laws about the definitions.
use Rattle.std.specs.Prelude.{◌≡◌, ◌↔◌, ℕ, ◌+◌, List, Result, IsPermutation, IsTrue, All, true}
use Rattle.std.specs.{declared.option.Option.TheVariants.Some, FinMap.{FinMap, get, len}}
use Rattle.graph_types.specs.{Graph.{Graph, Key, Stamp, key_cmp, graph_in, content_of, IsContent, HasWeights}, Step.{after_all, left_by}}
use Rattle.graph_types.specs.Step.{stamp_after, stays_from, expired, count_before, MeetsNameLimit, MeetsKindLimit}
use Rattle.graph_types.specs.{Limits.LimitsView, Step.is_within_limits, Valid.{is_name, is_kind_name, IsBatch}, Answer.IsAnswer}
use Rattle.graph_types.specs.declared.{batches.NamedOp.NamedOp, changes.EdgeChange.EdgeChange, contents.Content.Content}
use Rattle.graph_types.specs.declared.{ids.Edge.Edge, requests.{Request.Request, Reply.Reply, AskError.AskError}}

-- over one graph a request has one answer
abbrev pub HasOneAnswer : Type 0
HasOneAnswer =
    (request : Request) (g : Graph) (x y : Result Reply AskError) → IsAnswer request g x → IsAnswer request g y → x ≡ y

-- over the graph of each content a request has an answer, whatever the limits
abbrev pub HasSomeAnswer : Type 0
HasSomeAnswer =
    (request : Request) (limits : LimitsView) (c : Content) → IsContent c
    → (answer : Result Reply AskError) × IsAnswer request (graph_in limits c) answer

-- no answer depends on the limits of a graph
abbrev pub IsFreeOfLimits : Type 0
IsFreeOfLimits =
    (request : Request) (g : Graph) (limits : LimitsView) (answer : Result Reply AskError)
    → IsAnswer request g answer ↔ IsAnswer request (record g { limits = limits }) answer

-- operations and batches leave the limits as they were
pub record KeepLimits : Type 0 where
  pub ops : (ops : List NamedOp) (g : Graph) → (after_all ops g).limits ≡ g.limits
  pub batches : (batches : List (List NamedOp)) (g : Graph) → (left_by batches g).limits ≡ g.limits

-- a content whose edges are listed in another order is the same graph, and so has the same answers
abbrev pub IsFreeOfEdgeOrder : Type 0
IsFreeOfEdgeOrder =
    (limits : LimitsView) (c : Content) (edges : List Edge) → IsContent c → IsPermutation c.edges edges
    → graph_in limits (content_of c.names c.kinds edges) ≡ graph_in limits c

-- a batch leaves a graph within the limits where it meets neither
abbrev pub MeetsNoLimit : Type 0
MeetsNoLimit =
    (ops : List NamedOp) (g : Graph)
    → (is_within_limits (after_all ops g) ≡ true) ↔ ((MeetsNameLimit ops g → ⊥) × (MeetsKindLimit ops g → ⊥))

-- a graph whose vertices and kinds are called by names
pub record HasNames (g : Graph) : Type 0 where
  pub names : All (λ name. IsTrue (is_name name)) g.names
  pub kinds : All (λ name. IsTrue (is_kind_name name)) g.kinds

-- valid batches leave such a graph of such a graph
abbrev pub KeepsNames : Type 0
KeepsNames = (batches : List (List NamedOp)) (g : Graph) → All IsBatch batches → HasNames g → HasNames (left_by batches g)

-- batches leave a graph whose weights are within its limit of such a graph, whatever their operations
abbrev pub KeepsWeights : Type 0
KeepsWeights = (batches : List (List NamedOp)) (g : Graph) → HasWeights g → HasWeights (left_by batches g)

-- an edge that stays keeps the time of its first insertion
abbrev pub KeepsFirstTime : Type 0
KeepsFirstTime = (change : EdgeChange) (before after : Stamp) → stamp_after change (Some before) ≡ Some after
    → after.first ≡ before.first

-- an expiry leaves at each key what was last touched at its time or later, and counts the edges that the map then lacks
pub record Expires : Type 0 where
  pub stays : (time : ℕ) (edges : FinMap key_cmp Stamp) (key : Key)
      → get (expired time edges) key ≡ stays_from time (get edges key)
  pub counted : (time : ℕ) (edges : FinMap key_cmp Stamp)
      → count_before time edges + len (expired time edges) ≡ len edges
