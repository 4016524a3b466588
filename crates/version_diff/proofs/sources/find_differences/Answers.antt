use Rattle.std.proofs.Common.{◌≡◌, ℕ, ◌<◌, ◌≤◌, ◌==◌, ◌++◌, List, length, get_or, drop, take, false, inl, inr, sym, ap, ◌∙◌, arith, length-append}
use Rattle.std.proofs.{lemmas.{List.nil_from_length, Bool.Decides.leb_tells}, Math.Seq.take-append_seam}
use Rattle.std.specs.List.{list_any}
use Rattle.graph_types.specs.declared.ids.VertexId.{VertexId}
use Rattle.version_diff.specs.Differences.{difference_at}
use Rattle.version_diff.specs.declared.rows.EdgeDifference.{EdgeDifference}
use Rattle.version_diff.proofs.Onward.{further, one_more, before_next, behind_all, past_one, nothing_until}
use Rattle.version_diff.proofs.sources.find_differences.Goals as goal
use Rattle.version_diff.proofs.sources.find_differences.Goals.{else-loop-source-test, then-loop-source-test+else-source-next+then-source-vertices}

pub returns-then-before-eq0 : goal.returns-then-before-eq0
returns-then-before-eq0 c =
    let f = c.args.view.now in
    let p = c.args.pair.now in
    let xs : List VertexId = c.sources-source-items.result.now in
    let i = c.loop-source.source-index in
    let d : VertexId = record { 0 = 0 } in
    let s = (get_or xs i d).0 in
    let old : List EdgeDifference = c.loop-source.differences.items in
    let so_far = c.loop-source.invariant in
    let are = c.sources-source-items.ensures.pair in
    let until = nothing_until f p xs i c.loop-source.next s are c.sources-source-items.ensures.version so_far.past
    (λ t from lt. before_next t xs i d are.rising c.loop-source-test.true lt) in
    let there = further f p c.args.from c.loop-source.next s old so_far.onward c.if-source-next.false so_far.differences_are until in
    let none : length old ≡ 0 = omega (arith, c.len-before.ensures, c.if-before-eq0.true) in
    let added = ap length c.in_ok-push_source.ensures in
    let both = length-append old (difference_at f p s) in
    record {
      next = s;
      onward = omega (arith, so_far.onward, c.if-source-next.false);
      there = omega (arith, c.if-source-vertices.false, c.vertices-vertices.ensures);
      none_before = sym there ∙ nil_from_length old none;
      long = omega (arith, c.if-count-room.true, c.len-count.ensures, added, both, none);
      counted = omega (arith, c.len-count.ensures, added, both, none);
    }

pub returns-then-count-room : goal.returns-then-count-room
returns-then-count-room c =
    let f = c.args.view.now in
    let p = c.args.pair.now in
    let xs : List VertexId = c.sources-source-items.result.now in
    let i = c.loop-source.source-index in
    let d : VertexId = record { 0 = 0 } in
    let s = (get_or xs i d).0 in
    let old : List EdgeDifference = c.loop-source.differences.items in
    let so_far = c.loop-source.invariant in
    let are = c.sources-source-items.ensures.pair in
    let until = nothing_until f p xs i c.loop-source.next s are c.sources-source-items.ensures.version so_far.past
    (λ t from lt. before_next t xs i d are.rising c.loop-source-test.true lt) in
    let there = further f p c.args.from c.loop-source.next s old so_far.onward c.if-source-next.false so_far.differences_are until in
    let added = ap length c.in_ok-push_source.ensures in
    let both = length-append old (difference_at f p s) in
    let many : c.len-before.result ≡ length old = omega (arith, c.len-before.ensures) in
    let back : c.truncate.new.self.items ≡ old =
    c.truncate.ensures.items ∙ ap (take c.len-before.result) c.in_ok-push_source.ensures
    ∙ ap (λ n. take n (old ++ difference_at f p s)) many ∙ take-append_seam old (difference_at f p s) in
    record {
      onward = omega (arith, so_far.onward, c.if-source-next.false);
      most = inl (omega (arith, c.if-source-vertices.false, c.vertices-vertices.ensures));
      differences_are = back ∙ there;
      fits = omega (arith, ap length back, so_far.fits);
      whole = inr (omega (arith, ap length back, c.if-count-room.true, c.len-count.ensures, added, both));
      some = inl (omega (arith, ap length back, c.if-before-eq0.false, c.len-before.ensures));
    }

pub loop-source-preserved : goal.loop-source-preserved
loop-source-preserved c =
    let f = c.args.view.now in
    let p = c.args.pair.now in
    let xs : List VertexId = c.sources-source-items.result.now in
    let i = c.loop-source.source-index in
    let d : VertexId = record { 0 = 0 } in
    let s = (get_or xs i d).0 in
    let old : List EdgeDifference = c.loop-source.differences.items in
    let so_far = c.loop-source.invariant in
    let are = c.sources-source-items.ensures.pair in
    let until = nothing_until f p xs i c.loop-source.next s are c.sources-source-items.ensures.version so_far.past
    (λ t from lt. before_next t xs i d are.rising c.loop-source-test.true lt) in
    let there = further f p c.args.from c.loop-source.next s old so_far.onward c.if-source-next.false so_far.differences_are until in
    let from_here : c.args.from ≤ s = omega (arith, so_far.onward, c.if-source-next.false) in
    record {
      onward = omega (arith, from_here);
      most = inl (omega (arith, c.if-source-vertices.false));
      differences_are = c.in_ok-push_source.ensures ∙ one_more f p c.args.from s old from_here there;
      fits = omega (arith, c.if-count-room.false, c.len-count.ensures);
      past = λ t from none. so_far.past t (omega (arith, c.if-source-next.false, from))
          (past_one t xs i d c.loop-source-test.true (omega (arith, from)) none);
    }

pub returns : goal.returns
returns c =
    let f = c.args.view.now in
    let p = c.args.pair.now in
    let xs : List VertexId = c.sources-source-items.result.now in
    let i = c.loop-source.source-index in
    let d : VertexId = record { 0 = 0 } in
    let so_far = c.loop-source.invariant in
    let are = c.sources-source-items.ensures.pair in
    let vertices = c.vertices-vertices.result in
    let end = c.max-end.result in
    let onward : c.loop-source.next ≤ end = omega (arith, c.max-end.ensures, so_far.most) in
    let clear : (t : ℕ) → c.loop-source.next ≤ t → t < end → list_any (λ (v : VertexId). t == v.0) (drop i xs) ≡ false =
    λ t from lt. elim c.loop-source-test.branch [
      | else-loop-source-test w ↦ behind_all t xs i w.loop-source-test.false
      | then-loop-source-test+else-source-next+then-source-vertices w ↦
          let below : t < (get_or xs i d).0 = omega (arith, from, lt, so_far.onward, c.max-end.ensures, w.if-source-vertices.true) in
          before_next t xs i d are.rising w.loop-source-test.true below
    ] in
    record {
      onward = omega (arith, so_far.onward, onward);
      most = elim (leb_tells vertices c.args.from) [
        | inl no_more ↦ inr (let le = no_more.1 in omega (arith, le, c.max-end.ensures))
        | inr more ↦ inl (let lt = more.1 in omega (arith, lt, c.max-end.ensures, c.vertices-vertices.ensures))
      ];
      differences_are = further f p c.args.from c.loop-source.next end c.loop-source.differences.items so_far.onward onward
          so_far.differences_are (nothing_until f p xs i c.loop-source.next end are c.sources-source-items.ensures.version so_far.past clear);
      fits = so_far.fits;
      whole = inl (omega (arith, c.max-end.ensures, c.vertices-vertices.ensures));
      some = inr (omega (arith, c.max-end.ensures, c.vertices-vertices.ensures));
    }
