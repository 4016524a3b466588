use Rattle.std.proofs.Common.{◌≡◌, ◌<◌, ◌+◌, ◌++◌, [], ℕ, List, Bool, arith, length, inl, inr, ◌∙◌, sym, ap, subst, false}
use Rattle.std.proofs.lemmas.{Grind.common_steps, Bool.cases_Bool, List.Elements.All-filter, List.Sums.count_by-le-length}
use Rattle.std.specs.{Prelude.{All, IsTrue, filter}, List.Contains, declared.{alloc.Global.Global, vec.Vec.Vec}}
use Rattle.graph_types.proofs.Counts.{Contains-nil}
use Rattle.graph_cores.specs.{Rows.neighbor_row, Peel.is_alive, Peel.is_low, Peel.is_high, Peel.IsPeeling, Peel.IsBetween}
use Rattle.graph_cores.proofs.{RowSteps.row_within, PeelSteps.round, PeelSteps.after, PeelSteps.none_left, PeelSteps.first}
use Rattle.graph_cores.proofs.peeling.rounds.Goals as goal

all_gone : (alive : List Bool) (n : ℕ) → ((v : ℕ) → IsTrue (is_alive alive v) → ⊥) → (v : ℕ) → v < n → is_alive alive v ≡ false
all_gone alive n none v lt = elim (cases_Bool (is_alive alive v)) [ inl on ↦ absurd (none v on) | inr off ↦ off ]

pub loop-k-init : goal.loop-k-init
loop-k-init c =
    let n = length c.args.cores.now in
    let rows = c.args.rows.now in
    record {
      empty = c.in_ok-stack.ensures.items;
      within = c.requires.vertices_within;
      between = λ f g nb. first f g n (neighbor_row rows) nb
          (λ u. row_within n rows.starts.items rows.ends.items u c.requires.rows.within) c.args.alive.now c.args.degrees.now
          c.args.cores.now c.args.vertices.items c.requires.alive c.requires.degrees c.requires.vertices;
    }

pub peel_level-requires-clause-stack : goal.peel_level-requires-clause-stack
peel_level-requires-clause-stack c =
    let n = length c.args.cores.now in
    let low = is_low c.loop-k.alive c.loop-k.degrees c.loop-k.k in
    let e : c.split.new.stack.items ≡ filter low c.loop-k.left.items =
    c.in_ok-split.ensures.low ∙ ap (λ (xs : List ℕ). xs ++ filter low c.deref.result.now) c.loop-k.invariant.empty
    ∙ ap (filter low) c.deref.ensures.value in
    let all : All (λ w. w < n) c.split.new.stack.items =
    subst (All (λ w. w < n)) (sym e) (All-filter low (λ w. w < n) c.loop-k.left.items c.loop-k.invariant.within) in
    λ i d lt.
    let below = all i d lt in
    omega arith

pub loop-k-preserved : goal.loop-k-preserved
loop-k-preserved c =
    let n = length c.args.cores.now in
    let rows = c.args.rows.now in
    let k = c.loop-k.k in
    let left = c.loop-k.left.items in
    let alive = c.loop-k.alive in
    let degrees = c.loop-k.degrees in
    let low = is_low alive degrees k in
    let high = is_high alive degrees k in
    let long : length c.loop-k.cores ≡ n = omega arith in
    let e : c.split.new.stack.items ≡ filter low left = c.in_ok-split.ensures.low
    ∙ ap (λ (xs : List ℕ). xs ++ filter low c.deref.result.now) c.loop-k.invariant.empty
    ∙ ap (filter low) c.deref.ensures.value in
    let h : c.split.new.more.items ≡ filter high left = c.in_ok-split.ensures.high
    ∙ ap (λ (xs : List ℕ). xs ++ filter high c.deref.result.now) c.clear.ensures.items
    ∙ ap (filter high) c.deref.ensures.value in
    let swapped : c.swap.new.x.items ≡ filter high left = ap (λ (v : Vec ℕ Global). v.items) c.swap.ensures.x_after ∙ h in
    record {
      empty = c.in_ok-peel_level.ensures.empty;
      within = subst (All (λ w. w < n)) (sym swapped) (All-filter high (λ w. w < n) left c.loop-k.invariant.within);
      between = λ f g nb.
          let rows_in : (u : ℕ) → All (λ w. w < n) (neighbor_row rows u) =
          λ u. row_within n rows.starts.items rows.ends.items u c.requires.rows.within in
          let i = c.loop-k.invariant.between f g nb in
          let start : IsPeeling f g n (neighbor_row rows) alive degrees c.loop-k.cores c.split.new.stack.items k =
          subst (λ xs. IsPeeling f g n (neighbor_row rows) alive degrees c.loop-k.cores xs k) (sym e)
          (round f g n (neighbor_row rows) nb rows_in alive degrees c.loop-k.cores left k i) in
          let end = c.in_ok-peel_level.ensures.peeling f g nb
          (subst (λ m. IsPeeling f g m (neighbor_row rows) alive degrees c.loop-k.cores c.split.new.stack.items k)
          (sym long) start) in
          let end_n = subst
          (λ m. IsPeeling f g m
          (neighbor_row rows) c.peel_level.new.alive c.peel_level.new.degrees c.peel_level.new.cores [] k) long end in
          subst (λ xs. IsBetween f g n (neighbor_row rows) c.peel_level.new.alive c.peel_level.new.degrees c.peel_level.new.cores xs
          (k + 1)) (sym swapped)
          (after f g n (neighbor_row rows) nb rows_in alive c.peel_level.new.alive degrees c.peel_level.new.degrees
          c.peel_level.new.cores left k end_n i.all c.in_ok-peel_level.ensures.shrinks);
    }

pub returns-then-is_empty : goal.returns-then-is_empty
returns-then-is_empty c = λ f g nb.
    let n = length c.args.cores.now in
    let rows = c.args.rows.now in
    let i = c.loop-k.invariant.between f g nb in
    let none : c.loop-k.left.items ≡ [] = grind (arith, common_steps) in
    none_left f g n (neighbor_row rows) nb
    (λ u. row_within n rows.starts.items rows.ends.items u c.requires.rows.within) c.loop-k.alive c.loop-k.degrees
    c.loop-k.cores c.loop-k.left.items c.loop-k.k (omega arith) i
    (all_gone c.loop-k.alive n (λ v on. Contains-nil v (subst (λ xs. Contains xs v) none (i.all v on))))

pub returns : goal.returns
returns c = λ f g nb.
    let n = length c.args.cores.now in
    let rows = c.args.rows.now in
    let i = c.loop-k.invariant.between f g nb in
    none_left f g n (neighbor_row rows) nb
    (λ u. row_within n rows.starts.items rows.ends.items u c.requires.rows.within) c.loop-k.alive c.loop-k.degrees
    c.loop-k.cores c.loop-k.left.items c.loop-k.k (omega arith) i
    (all_gone c.loop-k.alive n (λ v on.
    let many = i.many v on in
    let count = i.count v in
    let most = count_by-le-length (is_alive c.loop-k.alive) (neighbor_row rows v) in
    let short = c.requires.short v in
    omega arith))
