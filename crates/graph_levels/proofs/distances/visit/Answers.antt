use Rattle.std.proofs.Common.{◌≡◌, ◌+◌, ◌++◌, ◌∷◌, ◌∙◌, [], List, ℕ, cond, drop, get_or, refl, sym, ap, subst, arith}
use Rattle.std.{proofs.lemmas.List.{at_drop_all, at_drop_more}, specs.declared.{vec.Vec.Vec, alloc.Global.Global}}
use Rattle.graph_types.specs.declared.ids.VertexId.{VertexId}
use Rattle.graph_types.proofs.Cases.{alike}
use Rattle.graph_levels.{specs.Reached.{AreVertexMarks, IsMarked, met, stands_in}, proofs.Marking.marks_more}
use Rattle.graph_levels.proofs.distances.visit.Goals as goal
use Rattle.graph_levels.proofs.distances.visit.Goals.{then-not-is_marked+in_ok-push, else-not-is_marked}

pub loop-target-init : goal.loop-target-init
loop-target-init c = record { rows = refl; marks = c.requires.marks; long = refl }

pub is_marked-requires : goal.is_marked-requires
is_marked-requires c =
    let within = c.requires.within c.loop-target.target-index 0 c.loop-target-test.true in
    let long = c.loop-target.invariant.long in omega arith

pub mark-requires : goal.mark-requires
mark-requires c =
    let within = c.requires.within c.loop-target.target-index 0 c.loop-target-test.true in
    let long = c.loop-target.invariant.long in omega arith

pub loop-target-preserved : goal.loop-target-preserved
loop-target-preserved c =
    let level = c.args.level in
    let targets = c.args.targets.now in
    let i = c.loop-target.target-index in
    let v = get_or targets i 0 in
    let marks = c.loop-target.marks in
    let rows = c.loop-target.rows.items in
    let more : List (VertexId × ℕ) = rows ++ (record { 0 = v }, level) ∷ [] in
    let stands : stands_in v rows ≡ c.is_marked.result =
    alike (IsMarked marks v) c.is_marked.result (stands_in v rows) c.is_marked.ensures (c.loop-target.invariant.marks v) in
    let put : c.if-not-is_marked.rows.items ≡ cond (stands_in v rows) rows more = elim c.if-not-is_marked.branch [
      | then-not-is_marked+in_ok-push w ↦ ap (λ (x : Vec (VertexId × ℕ) Global). x.items) w.rows-is ∙ w.in_ok-push.ensures.items
          ∙ ap (λ b. cond b rows more) (sym (stands ∙ w.if-not-is_marked.true))
      | else-not-is_marked w ↦ ap (λ (x : Vec (VertexId × ℕ) Global). x.items) w.rows-is
          ∙ ap (λ b. cond b rows more) (sym (stands ∙ w.if-not-is_marked.false))
    ] in
    record {
      rows = ap (λ xs. met level (drop (i + 1) targets) xs) put
          ∙ sym (at_drop_more (λ xs. met level xs rows) targets i 0 c.loop-target-test.true) ∙ c.loop-target.invariant.rows;
      marks = elim c.if-not-is_marked.branch [
        | then-not-is_marked+in_ok-push w ↦ subst (λ (m : List ℕ × List (VertexId × ℕ)). AreVertexMarks m.0 m.1)
            (λ j. (sym w.marks-is j, sym (ap (λ (x : Vec (VertexId × ℕ) Global). x.items) w.rows-is ∙ w.in_ok-push.ensures.items) j))
            (marks_more marks w.mark.new.marks rows level v c.loop-target.invariant.marks w.mark.ensures.marked w.mark.ensures.others)
        | else-not-is_marked w ↦ subst (λ (m : List ℕ × List (VertexId × ℕ)). AreVertexMarks m.0 m.1)
            (λ j. (sym w.marks-is j, sym (ap (λ (x : Vec (VertexId × ℕ) Global). x.items) w.rows-is) j))
            c.loop-target.invariant.marks
      ];
      long = c.if-not-is_marked.auto.marks ∙ c.loop-target.invariant.long;
    }

pub returns : goal.returns
returns c = record {
  rows = sym (at_drop_all (λ xs. met c.args.level xs c.loop-target.rows.items) c.args.targets.now c.loop-target.target-index
      c.loop-target-test.false) ∙ c.loop-target.invariant.rows;
  marks = c.loop-target.invariant.marks;
}
