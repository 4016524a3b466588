use Rattle.std.proofs.lemmas.Bool.{eqb-true, eq-eqb}
use Rattle.lane_scan.proofs.Lanes.{same_columns}
use Rattle.lane_scan.proofs.are_equal_lanes_32.Goals as goal

pub returns : goal.returns
returns c =
    let same = same_columns c.args.left.now c.args.right.now c.requires.left c.requires.right in
    ((λ none. same.0 (eqb-true _ 0 none)), (λ equal. eq-eqb _ 0 (same.1 equal)))
