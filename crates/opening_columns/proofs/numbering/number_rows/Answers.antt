use Rattle.std.proofs.Common.{◌≡◌, ◌+◌, ◌∙◌, ap, sym, subst, length, true, false, arith, List}
use Rattle.batch_columns.specs.Operations.{table_of}
use Rattle.vertex_names.specs.Book.{Book, empty_book}
use Rattle.opening_columns.specs.declared.numbering.Put.{Put}
use Rattle.opening_columns.proofs.RowsTaken.{AreNumbered, none_numbered, one_numbered, first_refused, none_seen, unseen_long}
use Rattle.opening_columns.proofs.numbering.number_rows.Goals as goal

pub loop-place-init : goal.loop-place-init
loop-place-init c =
    let t = table_of c.args.columns.now in
    let names : c.new-names.result ≡ empty_book c.args.limits.names = c.new-names.ensures ∙ ap empty_book c.names.ensures.number in
    let kinds : c.new-kinds.result ≡ empty_book c.args.limits.kinds = c.new-kinds.ensures ∙ ap empty_book c.kinds.ensures.number in
    record {
      numbered = subst (λ (b : Book). AreNumbered c.args.limits t 0 b c.new-kinds.result c.in-Ok-with_capacity.puts.items) (sym names)
          (subst (λ (b : Book). AreNumbered c.args.limits t 0 (empty_book c.args.limits.names) b c.in-Ok-with_capacity.puts.items) (sym kinds)
          (subst (λ (ps : List Put). AreNumbered c.args.limits t 0 (empty_book c.args.limits.names) (empty_book c.args.limits.kinds) ps)
          (sym c.in-Ok-with_capacity.ensures.items) (none_numbered c.args.limits t)));
      seen = none_seen false c.args.columns.now.text.now c.args.columns.now.ends.now c.new-names.result.names
          (length c.args.columns.now.ends.now) c.as_mut_slice-seen.result.now (c.as_mut_slice-seen.ensures.value ∙ c.in-Ok.ensures);
      long = unseen_long (length c.args.columns.now.ends.now) c.as_mut_slice-seen.result.now
          (c.as_mut_slice-seen.ensures.value ∙ c.in-Ok.ensures);
      seen_kinds = none_seen true c.args.columns.now.kind_text.now c.args.columns.now.kind_ends.now c.new-kinds.result.names
          (length c.args.columns.now.kind_ends.now) c.as_mut_slice-seen_kinds.result.now
          (c.as_mut_slice-seen_kinds.ensures.value ∙ c.in-Ok-unseen.ensures);
      kinds_long = unseen_long (length c.args.columns.now.kind_ends.now) c.as_mut_slice-seen_kinds.result.now
          (c.as_mut_slice-seen_kinds.ensures.value ∙ c.in-Ok-unseen.ensures);
    }

pub loop-place-preserved : goal.loop-place-preserved
loop-place-preserved c =
    let inv = c.loop-place.invariant in
    let t = table_of c.args.columns.now in
    record {
      numbered = subst (AreNumbered c.args.limits t (c.loop-place.place + 1) c.put_at.new.names c.put_at.new.kinds)
          (sym c.in-Ok-push.ensures.items)
          (one_numbered c.args.limits t c.loop-place.place c.loop-place.names c.loop-place.kinds c.put_at.new.names c.put_at.new.kinds
          c.loop-place.puts.items c.in-Ok-put_at.put inv.numbered c.in-Ok-put_at.ensures.put);
      seen = c.in-Ok-put_at.ensures.seen;
      long = (let long = inv.long in let same = c.put_at.auto.seen in omega arith);
      seen_kinds = c.in-Ok-put_at.ensures.seen_kinds;
      kinds_long = (let long = inv.kinds_long in let same = c.put_at.auto.seen_kinds in omega arith);
    }

pub returns-in-Err-clause-refused : goal.returns-in-Err-clause-refused
returns-in-Err-clause-refused c =
    let inv = c.loop-place.invariant in
    c.refused_row.ensures c.args.limits
    (first_refused c.args.limits (table_of c.args.columns.now) c.loop-place.place c.loop-place.names c.loop-place.kinds
    c.loop-place.puts.items c.in-Err.why inv.numbered (omega arith) c.in-Err.ensures.refused)
