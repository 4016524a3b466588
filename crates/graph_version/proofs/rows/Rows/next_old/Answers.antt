use Rattle.std.proofs.Common.{◌≡◌, ◌∙◌, ◌≤◌, ◌<◌, ◌/◌, ◌%◌, ◌*◌, ℕ, [], List, length, get_or, take, ap, sym, subst, arith}
use Rattle.std.{specs.declared.{sync.Arc.Arc, alloc.Global.Global}}
use Rattle.edge_block.specs.Slots.{BlockView}
use Rattle.graph_version.specs.{Ages.{AreYoung, is_old_row}, Rows.{row_of, IsBlankFrom}, RowHalls.{AreHalls, in_hall, in_halls}}
use Rattle.graph_version.{specs.declared.row_hall.Hall.Hall, proofs.Ages.{none_past, young_in_pieces, young_on}}
use Rattle.list_pieces.proofs.Padded.{cut_at}
use Rattle.graph_version.proofs.ShownHalls.{same_len}
use Rattle.graph_version.proofs.rows.Rows.next_old.Goals as goal

-- young rows of a hall are so among all
young_at : (time : ℕ) (halls : List (Arc Hall Global)) (page : List (List BlockView)) (source many : ℕ) (hall : Arc Hall Global)
    → AreHalls halls → source / 65536 < length halls → hall ≡ get_or halls (source / 65536) hall → page ≡ in_hall hall
    → AreYoung time page (source % 65536) many → AreYoung time (in_halls halls) source many
young_at time halls page source many hall are within here shown young =
    young_in_pieces in_hall 65536 time halls source (source / 65536) (source % 65536) hall many are (omega arith) within
    (omega arith) (subst (λ (p : List (List BlockView)). AreYoung time p (source % 65536) many) (shown ∙ ap in_hall here) young)

-- the rows that are shown are those of the halls
same_row : (len : ℕ) (halls : List (Arc Hall Global)) (rows : List (List BlockView)) → take len (in_halls halls) ≡ rows
    → IsBlankFrom len (in_halls halls) → (s : ℕ) → row_of rows s ≡ row_of (in_halls halls) s
same_row len halls rows is blank s = ap (λ l. row_of l s) (sym is) ∙ cut_at len (in_halls halls) [] blank s

pub returns-then-young-eq0 : goal.returns-then-young-eq0
returns-then-young-eq0 c =
    let halls : List (Arc Hall Global) = c.self.inside.halls.items in
    let source : ℕ = c.loop-source.source in
    let within : c.self.inside.len ≤ length halls * 65536 = c.self.invariant.2 in
    let lt : source < c.self.inside.len = c.loop-source-test.true in
    let young = young_at c.args.time halls c.deref.result.now source c.young_from-young.result c.index.result.now c.self.invariant.0
    (omega (arith, within, lt)) c.index.ensures c.deref.ensures c.young_from-young.ensures in (
      c.loop-source.invariant.from,
      ap (is_old_row c.args.time) (same_row c.self.inside.len halls c.args.self.now c.self.view_is c.self.invariant.3 source)
          ∙ young.old c.if-young-eq0.true,
      c.loop-source.invariant.young,
    )

pub loop-source-smaller : goal.loop-source-smaller
loop-source-smaller c =
    let len = same_len c.self.inside.len c.self.inside.halls.items c.args.self.now c.self.view_is c.self.invariant.0 c.self.invariant.2 in
    let lt : c.loop-source.source < c.self.inside.len = c.loop-source-test.true in
    omega (arith, len, lt, c.if-young-eq0.false)

pub loop-source-preserved : goal.loop-source-preserved
loop-source-preserved c =
    let halls : List (Arc Hall Global) = c.self.inside.halls.items in
    let source : ℕ = c.loop-source.source in
    let within : c.self.inside.len ≤ length halls * 65536 = c.self.invariant.2 in
    let lt : source < c.self.inside.len = c.loop-source-test.true in
    let young = young_at c.args.time halls c.deref.result.now source c.young_from-young.result c.index.result.now c.self.invariant.0
    (omega (arith, within, lt)) c.index.ensures c.deref.ensures c.young_from-young.ensures in
    let from : c.args.from.0 ≤ source = c.loop-source.invariant.from in
    record {
      from = omega arith;
      young = young_on c.args.time c.args.from.0 source c.young_from-young.result c.args.self.now c.loop-source.invariant.young
          (λ s ge less. ap (is_old_row c.args.time)
          (same_row c.self.inside.len halls c.args.self.now c.self.view_is c.self.invariant.3 s) ∙ young.young s ge less);
    }

pub returns : goal.returns
returns c =
    let len = same_len c.self.inside.len c.self.inside.halls.items c.args.self.now c.self.view_is c.self.invariant.0 c.self.invariant.2 in
    none_past c.args.time c.args.from.0 c.loop-source.source c.args.self.now c.loop-source.invariant.young
    (omega (arith, len, c.loop-source-test.false))
