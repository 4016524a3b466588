use Rattle.std.proofs.Common.{◌++◌, ℕ, Bool, get_or, arith, ap, sym, ◌∙◌}
use Rattle.std.proofs.Common.{◌&&◌, true, false, suc}
use Rattle.std.proofs.lemmas.{Bool.{le-leb, lt-leb}, List.{append-nil, take_all}}
use Rattle.std.specs.{Prelude.{filter, nat_le, nat_lt}, declared.{vec.Vec.Vec, alloc.Global.Global}}
use Rattle.graph_types.specs.Arcs.{at}
use Rattle.graph_types.proofs.Sums.{one_more}
use Rattle.graph_cores.specs.Peel.{is_low, is_high}
use Rattle.graph_cores.proofs.peeling.split.Goals as goal
use Rattle.graph_cores.proofs.peeling.split.Goals.{then-alive-place+then-degrees-place+in_ok-push}
use Rattle.graph_cores.proofs.peeling.split.Goals.{then-alive-place+else-degrees-place+in_ok-push-2, else-alive-place}

pub loop-vertex-init : goal.loop-vertex-init
loop-vertex-init c = record { low = sym (append-nil c.args.stack.now.items); high = sym (append-nil c.args.more.now.items) }

pub bounds-alive-place : goal.bounds-alive-place
bounds-alive-place c = c.requires.alive c.loop-vertex.vertex-index 0 c.loop-vertex-test.true

pub bounds-degrees-place : goal.bounds-degrees-place
bounds-degrees-place c = c.requires.degrees c.loop-vertex.vertex-index 0 c.loop-vertex-test.true

pub loop-vertex-preserved : goal.loop-vertex-preserved
loop-vertex-preserved c =
    let alive = c.args.alive.now in
    let degrees = c.args.degrees.now in
    let k = c.args.k in
    let from = c.args.from.now in
    let i = c.loop-vertex.vertex-index in
    let v = get_or from i 0 in
    let stack = c.loop-vertex.stack.items in
    let more = c.loop-vertex.more.items in
    let lt = c.loop-vertex-test.true in
    let low = λ (b : Bool). one_more (is_low alive degrees k) c.args.stack.now.items from stack c.if-alive-place.stack.items i b lt
    c.loop-vertex.invariant.low in
    let high = λ (b : Bool). one_more (is_high alive degrees k) c.args.more.now.items from more c.if-alive-place.more.items i b lt
    c.loop-vertex.invariant.high in
    elim c.if-alive-place.branch [
      | then-alive-place+then-degrees-place+in_ok-push w ↦ record {
        low = low true (λ j. w.if-alive-place.true j && le-leb (at degrees v) k w.if-degrees-place.true j)
            (ap (λ (x : Vec ℕ Global). x.items) w.stack-is ∙ w.in_ok-push.ensures.items);
        high = high false (λ j. w.if-alive-place.true j && lt-leb (suc k) (at degrees v) (omega (arith, w.if-degrees-place.true)) j)
            (ap (λ (x : Vec ℕ Global). x.items) w.more-is ∙ sym (append-nil more));
      }
      | then-alive-place+else-degrees-place+in_ok-push-2 w ↦ record {
        low = low false (λ j. w.if-alive-place.true j && lt-leb (at degrees v) k (omega (arith, w.if-degrees-place.false)) j)
            (ap (λ (x : Vec ℕ Global). x.items) w.stack-is ∙ sym (append-nil stack));
        high = high true (λ j. w.if-alive-place.true j && le-leb (suc k) (at degrees v) (omega (arith, w.if-degrees-place.false)) j)
            (ap (λ (x : Vec ℕ Global). x.items) w.more-is ∙ w.in_ok-push-2.ensures.items);
      }
      | else-alive-place w ↦ record {
        low = low false (λ j. w.if-alive-place.false j && nat_le (at degrees v) k)
            (ap (λ (x : Vec ℕ Global). x.items) w.stack-is ∙ sym (append-nil stack));
        high = high false (λ j. w.if-alive-place.false j && nat_lt k (at degrees v))
            (ap (λ (x : Vec ℕ Global). x.items) w.more-is ∙ sym (append-nil more));
      }
    ]

pub returns : goal.returns
returns c =
    let all = take_all c.loop-vertex.vertex-index c.args.from.now c.loop-vertex-test.false in record {
      low = c.loop-vertex.invariant.low
          ∙ ap (λ xs. c.args.stack.now.items ++ filter (is_low c.args.alive.now c.args.degrees.now c.args.k) xs) all;
      high = c.loop-vertex.invariant.high
          ∙ ap (λ xs. c.args.more.now.items ++ filter (is_high c.args.alive.now c.args.degrees.now c.args.k) xs) all;
    }
