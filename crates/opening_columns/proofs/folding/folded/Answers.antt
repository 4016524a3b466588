use Rattle.std.proofs.Common.{◌<◌, ◌∙◌, ap, sym, take, length, get_or, List, arith, ℕ}
use Rattle.std.proofs.lemmas.List.{take_more, get_or_default}
use Rattle.std.specs.FinMap.{get, empty}
use Rattle.graph_types.specs.{Step.{set_at, stamp_after}}
use Rattle.batch_columns.specs.Operations.{table_of}
use Rattle.opening_columns.specs.{Puts.{after_puts, put_key}, declared.numbering.Put.Put}
use Rattle.opening_columns.proofs.PutMaps.{one_more, put_number}
use Rattle.opening_columns.proofs.folding.folded.Goals as goal

abbrev z : Put
z = record { source = 0; target = 0; place = 0; kind = record { 0 = 0 } }

pub loop-put-preserved : goal.loop-put-preserved
loop-put-preserved c =
    let i : ℕ = c.loop-put.put-index in
    let t = table_of c.args.columns.now in
    let most = c.args.most in
    let puts : List Put = c.args.puts.now in
    let lt : i < length puts = omega arith in
    let p : Put = get_or puts i z in
    let w = c.in_ok-put_in.ensures in
    let old = c.loop-put.invariant.map in
    let change = c.change_at-change.ensures in
    record {
      map = w.map ∙ (λ j. set_at (old j) (put_key p) (stamp_after (change j) (get (old j) (put_key p))))
          ∙ sym (ap (λ (ps : List Put). after_puts t most ps empty) (take_more puts i z lt) ∙ one_more t most (take i puts) p empty);
      rising = w.edges.rising;
      range = w.edges.range;
      below = λ j d le less k e within.
          let here = w.edges.below k e within in
          let up = c.requires.rising i j d (omega arith) less in
          let same = ap put_number (get_or_default puts i d z lt) in
          omega (arith, here, up, same);
    }
