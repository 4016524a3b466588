-- What the analyses measure on a view: levels, labels and core numbers.
use Rattle.std.specs.Prelude.{◌≡◌, ◌≢◌, ℕ, ◌≤◌, List, length, slice_get, Bool, IsTrue, zero, suc, ◌⊎◌, All, AllPairs}
use Rattle.std.specs.{FinMap.get, declared.option.Option.{Option, TheVariants.{None, Some}}}
use Rattle.graph_types.specs.{Graph.{Graph, Stamp}, View.in_view, declared.ids.Filter.Filter}

-- an edge of the view leads from a to b
abbrev pub LeadsTo : Filter → Graph → ℕ → ℕ → Type 0
LeadsTo f g a b =
    (kind : ℕ) × (stamp : Stamp) × (get g.edges (record { kind = kind; source = a; target = b }) ≡ Some stamp)
    × IsTrue (in_view f (record { kind = kind; source = a; target = b }, stamp))

-- an edge of the view joins a and b, in either direction
abbrev pub Joins : Filter → Graph → ℕ → ℕ → Type 0
Joins f g a b = LeadsTo f g a b ⊎ LeadsTo f g b a

-- a walk of n steps
abbrev pub Walk : (ℕ → ℕ → Type 0) → ℕ → ℕ → ℕ → Type 0
Walk Step a b zero = a ≡ b
Walk Step a b (suc n) = (c : ℕ) × Walk Step a c n × Step c b

-- n is the least length of a walk from a to b
abbrev pub IsDistance : (ℕ → ℕ → Type 0) → ℕ → ℕ → ℕ → Type 0
IsDistance Step a b n = Walk Step a b n × ((m : ℕ) → Walk Step a b m → n ≤ m)

-- the level of v from the source: the least length of a walk, and none where there is no walk
abbrev pub IsLevel : Filter → Graph → ℕ → ℕ → Option ℕ → Type 0
IsLevel f g source v None = (n : ℕ) → Walk (LeadsTo f g) source v n → ⊥
IsLevel f g source v (Some n) = IsDistance (LeadsTo f g) source v n

-- a walk joins u and v, each edge taken in either direction
abbrev pub Connects : Filter → Graph → ℕ → ℕ → Type 0
Connects f g u v = (n : ℕ) × Walk (Joins f g) u v n

-- the label of v: the least vertex that a walk joins to v
abbrev pub IsLabel : Filter → Graph → ℕ → ℕ → Type 0
IsLabel f g v u = Connects f g u v × ((w : ℕ) → Connects f g w v → u ≤ w)

-- Cores as Seidman has them (Network structure and minimum degree, 1983), without asking that a core be connected;
-- direction and kind don't matter.

-- at least k distinct members of the set, v not among them, are joined to v
abbrev pub HasNeighbors : Filter → Graph → (ℕ → Bool) → ℕ → ℕ → Type 0
HasNeighbors f g member k v =
    (others : List ℕ) × (k ≤ length others) × AllPairs (λ a b. a ≢ b) others
    × All (λ w. (w ≢ v) × IsTrue (member w) × Joins f g v w) others

-- each member of the set has at least k neighbors in it
abbrev pub IsDense : Filter → Graph → ℕ → (ℕ → Bool) → Type 0
IsDense f g k member = (v : ℕ) → IsTrue (member v) → HasNeighbors f g member k v

-- v is in the k-core, the union of all sets of which each member has at least k neighbors in the set
abbrev pub InCore : Filter → Graph → ℕ → ℕ → Type 0
InCore f g k v = (member : ℕ → Bool) × IsTrue (member v) × IsDense f g k member

-- the core number of v: the greatest k whose core holds it
abbrev pub IsCoreNumber : Filter → Graph → ℕ → ℕ → Type 0
IsCoreNumber f g v k = InCore f g k v × ((j : ℕ) → InCore f g j v → j ≤ k)

-- one value for each of n vertices, in number order, each as the property says
pub record IsTable {X : Type 0} (n : ℕ) (Is : ℕ → X → Type 0) (values : List X) : Type 0 where
  pub one_each : length values ≡ n
  pub each : (v : ℕ) (x : X) → slice_get values v ≡ Some x → Is v x

-- the levels from a source, the labels and the core numbers of all vertices
abbrev pub AreLevels : Filter → Graph → ℕ → List (Option ℕ) → Type 0
AreLevels f g source levels = IsTable (length g.names) (IsLevel f g source) levels

abbrev pub AreLabels : Filter → Graph → List ℕ → Type 0
AreLabels f g labels = IsTable (length g.names) (IsLabel f g) labels

abbrev pub AreCoreNumbers : Filter → Graph → List ℕ → Type 0
AreCoreNumbers f g numbers = IsTable (length g.names) (IsCoreNumber f g) numbers
