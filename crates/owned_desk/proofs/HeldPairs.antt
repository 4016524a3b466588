-- Two versions that are held.
use Rattle.std.proofs.Common.{◌≡◌, ℕ, ◌≤◌, false, List, get_or, sym, ap, subst, ◌∙◌, arith}
use Rattle.std.proofs.lemmas.{Grind.common_steps}
use Rattle.std.specs.Prelude.{Option, Some, nat_lt}
use Rattle.block_reclamation.specs.{declared.copies.Pin.Pin, Copies.pin_at}
use Rattle.edge_block.{proofs.BlockCounts.default_same, specs.Slots.BlockView}
use Rattle.graph_types.specs.declared.ids.VertexId.{VertexId}
use Rattle.graph_version.{proofs.Members.in_rows, specs.{Differences.DifferAt, Rows.row_of, Versions.VersionView}}
use Rattle.version_diff.specs.Pairs.{AreSameByNumber, IsNamedAfter}
use Rattle.owned_desk.specs.declared.owned.Hold.{Hold}
use Rattle.owned_desk.specs.Kept.{IsSeatVersion, IsVersionOf}
use Rattle.owned_desk.specs.Owned.{OwnedView, HoldsVersion, KeepsOwned, held_pin}
use Rattle.owned_desk.specs.Touched.{AreTouchedSince, number_at}
use Rattle.owned_desk.proofs.GrownNames.{named_after}

-- a hold's version is that of the hold's number
held_version : (o : OwnedView) (touched : List ℕ) (hold : Hold) (v : VersionView) (keeps : KeepsOwned o touched) → HoldsVersion o hold v
    → IsVersionOf touched keeps.kept.block_of o.desk (held_pin hold.number) v
held_version o touched hold v keeps holds =
    subst (λ (p : Option Pin). IsSeatVersion touched keeps.kept.block_of o.desk p (Some v)) holds.is_of.1
    (subst (λ (x : Option VersionView). IsSeatVersion touched keeps.kept.block_of o.desk (pin_at o.board.pins holds.seat) x)
    holds.version (keeps.kept.each holds.seat holds.is_of.0))

not_greater : (n x : ℕ) → false ≡ nat_lt n x → x ≤ n
not_greater n x isnt = grind (arith, common_steps)

module _ (o : OwnedView) (touched : List ℕ) (first second : Hold) (v w : VersionView) (keeps : KeepsOwned o touched)
    (of_first : HoldsVersion o first v) (of_second : HoldsVersion o second w) where
  one : IsVersionOf touched keeps.kept.block_of o.desk (held_pin first.number) v
  one = held_version o touched first v keeps of_first

  other : IsVersionOf touched keeps.kept.block_of o.desk (held_pin second.number) w
  other = held_version o touched second w keeps of_second

  -- the one with the greater number is named after the other
  pub held_named : first.number ≤ second.number → IsNamedAfter v w
  held_named ordered =
      named_after v w o.desk.last.batches one.former.later other.former.later (sym one.former.opening ∙ other.former.opening)
      one.former.batches other.former.batches (let less = one.number in let more = other.number in omega (arith, ordered, less, more))

  -- a number stands for one block in both
  pub held_alike : (source : ℕ) → AreSameByNumber (row_of v.rows source) (row_of w.rows source)
  held_alike source j d within i e inside same =
      let row : List BlockView = row_of v.rows source in
      let later : List BlockView = row_of w.rows source in
      let b : BlockView = get_or row i e in
      let c : BlockView = get_or later j d in
      one.blocks b (in_rows v.rows source b (i, inside, default_same row i e inside)) ∙ ap keeps.kept.block_of same
      ∙ sym (other.blocks c (in_rows w.rows source c (j, within, default_same later j d within)))

  -- they have the same rows but where batches after the first touched them
  pub held_differ : (sources : List VertexId) → first.number ≤ second.number → AreTouchedSince first.number touched sources
      → DifferAt sources v.rows w.rows
  held_differ sources ordered since s none =
      let low = not_greater first.number (number_at touched s) (sym none ∙ since.are s) in
      let less = one.number in
      let more = other.number in
      one.former.rows s (omega (arith, low, less)) ∙ sym (other.former.rows s (omega (arith, low, more, ordered)))
