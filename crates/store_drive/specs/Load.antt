-- What is fed to a store, and what its readers ask of it. The load is this project's own: 24 vertices, three kinds, and names,
-- weights and times that the numbers of a batch and of a place in it give.
use Rattle.std.specs.Prelude.{ℕ, ◌+◌, ◌*◌, ◌%◌, ◌==◌, ◌||◌, ℤ, pos, codes, decimal, if◌then◌else◌, List, [], ◌∷◌, ◌++◌, map}
use Rattle.std.specs.{Prelude.{IfSome, slice_get, Bool, ◌&&◌, nat_lt}, List.range_with_len, declared.option.Option.Option}
use Rattle.std.specs.declared.option.Option.TheVariants.{None, Some}
use Rattle.graph_types.specs.declared.batches.NamedOp.{NamedOp, TheVariants.{Insert, Incr, Remove}}
use Rattle.graph_types.specs.declared.requests.{NamedFilter.NamedFilter, Request.{Request, TheVariants.{Levels, Labels, Cores}}}
use Rattle.graph_types.specs.declared.requests.Request.TheVariants.{Degrees, OneEdge}
use Rattle.version_shelf.specs.Shelves.{ToldView}
use Rattle.stream_store.specs.Stores.{IsReceiptOf}
use Rattle.store_drive.specs.declared.feeder.Answered.{Answered}

-- the name of a vertex and of a kind: a letter and a number
abbrev pub vertex_name : ℕ → List ℕ
vertex_name n = codes "v" ++ decimal n

abbrev pub kind_name : ℕ → List ℕ
kind_name n = codes "k" ++ decimal n

-- the names and the weight at a place of a batch
abbrev pub load_source : ℕ → ℕ → List ℕ
load_source batch place = vertex_name ((3 * batch + place) % 24)

abbrev pub target_at : ℕ → ℕ → List ℕ
target_at batch place = vertex_name ((5 * batch + 2 * place) % 24)

abbrev pub load_kind : ℕ → List ℕ
load_kind place = kind_name (place % 3)

abbrev pub load_weight : ℕ → ℕ → ℤ
load_weight batch place = pos (1 + (batch + place) % 5)

-- the operation at a place of a batch, at the time that is the batch's number: the places 3 and 6 add to a weight, the place 7
-- removes an edge, and all others insert one
abbrev pub load_operation : ℕ → ℕ → NamedOp
load_operation batch place =
    if (place == 3) || (place == 6)
    then Incr (load_kind place) (load_source batch place) (target_at batch place) (load_weight batch place) batch
    else (if place == 7
    then Remove (load_kind place) (load_source batch place) (target_at batch place)
    else Insert (load_kind place) (load_source batch place) (target_at batch place) (load_weight batch place) batch)

-- the batch of a number: eight operations
abbrev pub batch_at : ℕ → List NamedOp
batch_at batch = map (load_operation batch) (range_with_len 0 8)

-- the edges of a kind, or of any, whose recent time is in a window
abbrev pub named_filter : Option (List ℕ) → ℕ → ℕ → NamedFilter
named_filter kind lo hi = record { kind = kind; lo = lo; hi = hi }

-- what each version is asked: by walks over it, and of its edges one by one
abbrev pub walks : List Request
walks =
    Levels (vertex_name 3) (named_filter None 0 64)
    ∷ Labels (named_filter None 0 64)
    ∷ Cores (named_filter (Some (kind_name 0)) 0 32)
    ∷ []

abbrev pub requests : List Request
requests =
    walks
    ++ Degrees (named_filter None 16 48)
    ∷ OneEdge (kind_name 1) (vertex_name 4) (vertex_name 7)
    ∷ []

-- the number and the outcomes are those of a receipt of the load's batch of this number
pub record IsBatchAnswered (batch : ℕ) (answered : Answered) : Type 0 where
  pub told : ToldView
  pub receipt_is : IsReceiptOf (batch_at batch) answered.number answered.outcomes told

-- each at its place, the first of which is that of batch 1
abbrev pub AreAnswered : List Answered → Type 0
AreAnswered list = (place : ℕ) → IfSome (slice_get list place) (IsBatchAnswered (place + 1))

-- the version of this number is neither the empty one nor that behind all 64 batches
abbrev pub lies_between : ℕ → Bool
lies_between number = nat_lt 0 number && nat_lt number 64

-- how many of these answers, which a version of this number gave, are of such a version
abbrev pub between_of : ℕ → ℕ → ℕ
between_of number answers = if lies_between number then answers else 0
