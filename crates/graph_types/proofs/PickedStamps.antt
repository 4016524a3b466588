-- Stamps and keys that tests of kind, source and target pick, and stamps that stay from a time on.
use Rattle.std.proofs.Common.{◌≡◌, ℕ, ◌<◌, ◌≤◌, Bool, true, cond, ◌&&◌, List, length, is_some, Some, None, Option, arith, ◌==◌}
use Rattle.std.proofs.lemmas.{Bool.{false≢true, ltb-true, lt-ltb}, Grind.common_steps}
use Rattle.std.specs.Option.{option_or}
use Rattle.std.specs.Ordering.{eq_by_cmp}
use Rattle.graph_types.specs.Graph.{Stamp, Graph, Key, key_cmp}
use Rattle.graph_types.specs.Step.{stays_from, stamp_after, changed_key, kinds_made, names_made, is_before}
use Rattle.graph_types.specs.declared.changes.EdgeChange.{EdgeChange, TheVariants.{Insert, Incr, Remove}}
use Rattle.graph_types.proofs.NameLists.{named}

none_there : (b : Bool) (x : Option Stamp) → None ≡ cond b None (cond b x None)
none_there h0 x = grind (arith, common_steps)

-- what stays is there before
pub was_there : (time : ℕ) (o : Option Stamp) → is_some (stays_from time o) ≡ true → is_some o ≡ true
was_there time h1 is = grind (arith, common_steps)

pub stays_or : (time : ℕ) (a b : Option Stamp) → (is_some a ≡ true → b ≡ None)
    → option_or (stays_from time a) (stays_from time b) ≡ stays_from time (option_or a b)
stays_or time h1 b alone = grind (arith, common_steps)

pub within_kind : (time : ℕ) (b : Bool) (o : Option Stamp)
    → cond b (stays_from time o) None ≡ stays_from time (cond b o None)
within_kind time h1 o = grind (arith, common_steps)

pub nothing : (s t : Bool) (y : Option Stamp) → y ≡ option_or (cond s (cond t None None) None) y
nothing h0 t y = grind (arith, common_steps)

pub pick : (kind source target : Bool) (x : Stamp) (r y : Option Stamp)
    → cond (kind && (source && target)) (Some x) (option_or (cond source (cond kind r None) None) y)
    ≡ option_or (cond source (cond kind (option_or (cond target (Some x) None) r) None) None) y
pick h0 h1 t x r y = grind (arith, common_steps)

pub join : (s : Bool) (a c y : Option Stamp) → option_or (cond s a None) (option_or (cond s c None) y)
    ≡ option_or (cond s (option_or a c) None) y
join h0 a c y = grind (arith, common_steps)

pub none_here : (s : Bool) (y : Option Stamp) → y ≡ option_or (cond s None None) y
none_here h0 y = grind (arith, common_steps)

pub more_some : (s t : Bool) (a r : Option Stamp) → is_some (cond s (cond t r None) None) ≡ true
    → is_some (cond s (cond t (option_or a r) None) None) ≡ true
more_some h0 h1 h2 r is = grind (arith, common_steps)

pub apart_here : (s : Bool) (a c y : Option Stamp) → is_some (cond s a None) ≡ true → (is_some a ≡ true → c ≡ None)
    → (is_some (cond s (option_or a c) None) ≡ true → y ≡ None) → option_or (cond s c None) y ≡ None
apart_here h0 a c y is none rest = grind (arith, common_steps)

pub later_some : (s : Bool) (a c : Option Stamp) → is_some (cond s c None) ≡ true → is_some (cond s (option_or a c) None) ≡ true
later_some h0 a c is = grind (arith, common_steps)

pub lies : (change : EdgeChange) (kind source target : List ℕ) (g : Graph) (before : Option Stamp)
    → is_some (stamp_after change before) ≡ true
    → let k = changed_key change kind source target g in (k.kind < length (kinds_made change kind g.kinds))
    × (k.source < length (names_made change source target g.names)) × (k.target < length (names_made change source target g.names))
lies (Insert weight time most) kind source target g before is =
    let n = named g.names g.kinds kind source target in (n.kind, n.source, n.target)
lies (Incr amount time most) kind source target g before is =
    let n = named g.names g.kinds kind source target in (n.kind, n.source, n.target)
lies Remove kind source target g before is = absurd (false≢true is)

both : (a b : Bool) (x y : Option Stamp) → cond a (cond b x y) None ≡ cond (a && b) x (cond a y None)
both h0 b x y = grind (arith, common_steps)

pub picked_either : (b : Bool) (s : Stamp) (o : Option Stamp) → o ≡ Some s → cond b (Some s) o ≡ Some s
picked_either b s o e = grind (arith, common_steps)

-- an edge that is old at a time is old at each later one
pub older : (s t : ℕ) (x : Stamp) → s ≤ t → is_before s x ≡ true → is_before t x ≡ true
older s t x le e = let lt : x.recent < s = ltb-true x.recent s e in lt-ltb x.recent t (omega arith)

placed_if : (a b c : Bool) (s : ℕ) (q k : Key) → q.source ≡ s → cond (a && (b && c)) (Some q) None ≡ Some k
    → cond b (Some s) None ≡ Some k.source
placed_if a b c s q k own is = grind (arith, common_steps)

pub below_if : (a b c : Bool) (q k : Key) (n : ℕ) → cond (a && (b && c)) (Some q) None ≡ Some k → (b ≡ true → q.source < n)
    → k.source < n
below_if a b c q k n is below = grind (arith, common_steps)

abbrev pub tests_of_key : Key → Key → Bool → Bool
tests_of_key q k same = (q.kind == k.kind) && (same && (q.target == k.target))

-- keys tie where their three numbers are equal
pub tied : (q k : Key) → eq_by_cmp key_cmp q k ≡ tests_of_key q k (q.source == k.source)
tied q k = grind (arith, common_steps)

-- what a row of this source has at a key
abbrev pub stands : ℕ → ℕ → Option Stamp → Option Stamp
stands source at o = cond (at == source) o None

-- an edge in a slot stands at its key, and is some of what the slots have there
pub stands_at_itself : (source kind : ℕ) (r : Option Stamp) → stands source source (cond (kind == kind) r None) ≡ r
stands_at_itself source kind r = grind (arith, common_steps)

pub source_if : (source at : ℕ) (o : Option Stamp) → is_some (stands source at o) ≡ true → at ≡ source
source_if source at o is = grind (arith, common_steps)

abbrev pub one_if : Bool → ℕ
one_if b = cond b 1 0

-- what a change writes bears a time that isn't before this one
abbrev pub IsFrom : ℕ → EdgeChange → Type 0
IsFrom s (Insert weight time most) = s ≤ time
IsFrom s (Incr amount time most) = s ≤ time
IsFrom s Remove = Unit {0}
