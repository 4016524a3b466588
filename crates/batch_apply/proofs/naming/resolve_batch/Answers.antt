use Rattle.std.proofs.Common.{◌≡◌, ◌∙◌, ◌∷◌, ◌++◌, ◌+◌, ◌-◌, ℕ, List, length, map, take, drop, drop-cons, add-one, rules, sym, ap}
use Rattle.std.proofs.{Common.{subst, arith}, lemmas.{List.Elements.All-push, Grind.common_steps}}
use Rattle.graph_types.specs.declared.batches.NamedOp.{NamedOp}
use Rattle.graph_types.specs.Parts.{names_after, kinds_after, names_after_all, kinds_after_all}
use Rattle.graph_types.proofs.Cases.{err_then}
use Rattle.edge_block.specs.Batches.{resolved_by}
use Rattle.edge_block.proofs.ShardResults.{placed_in}
use Rattle.vertex_names.specs.Book.{Book}
use Rattle.batch_apply.specs.{Plan.{shown_op, WasFound, IsInRange, IsSeen, IsUnplanned}, Listed.{AreKnown, AreNoted, found_by}}
use Rattle.batch_apply.proofs.{Notes.{known_first, known_noted, known_rest, nothing_noted}, Resolving.{one_more, all_resolved}}
use Rattle.batch_apply.proofs.Leaving.{unplanned_all}
use Rattle.batch_apply.proofs.naming.resolve_batch.Goals as goal

pub loop-k-preserved : goal.loop-k-preserved
loop-k-preserved c =
    let k : ℕ = c.loop-k.k in
    let ops : List NamedOp = c.args.ops.now in
    let op : NamedOp = c.index-ops-k.result in
    let rest : List NamedOp = drop (k + 1) ops in
    let names : List (List ℕ) = c.loop-k.names.names in
    let kinds : List (List ℕ) = c.loop-k.kinds.names in
    let step : drop k ops ≡ op ∷ drop (k + 1) ops = search (rules, drop-cons) in
    let more_names : c.resolve_op.new.names.names ≡ names_after op names = ap (λ (b : Book). b.names) c.in_ok-resolved.ensures.names in
    let more_kinds : c.resolve_op.new.kinds.names ≡ kinds_after op kinds = ap (λ (b : Book). b.names) c.in_ok-resolved.ensures.kinds in
    record {
      names = ap (names_after_all rest) more_names ∙ ap (λ l. names_after_all l names) (sym step) ∙ c.loop-k.invariant.names;
      kinds = ap (kinds_after_all rest) more_kinds ∙ ap (λ l. kinds_after_all l kinds) (sym step) ∙ c.loop-k.invariant.kinds;
      found = (λ i. map shown_op (c.in-Ok.ensures.items i) ++ resolved_by c.args.most rest (more_names i) (more_kinds i))
          ∙ one_more c.args.most (drop k ops) rest op c.loop-k.found.items c.in_ok-resolved.resolved.op names kinds
          (resolved_by c.args.most ops c.args.names.now.names c.args.kinds.now.names) step c.in_ok-resolved.ensures.op c.loop-k.invariant.found;
      changes = rw c.in-Ok.ensures.items (All-push IsInRange c.loop-k.found.items c.in_ok-resolved.resolved.op
          c.loop-k.invariant.changes c.in_ok-resolved.ensures.change);
      limit = ap (λ (b : Book). b.limit) c.in_ok-resolved.ensures.names ∙ c.loop-k.invariant.limit;
      few = ap (λ (b : Book). b.limit) c.in_ok-resolved.ensures.kinds ∙ c.loop-k.invariant.few;
      within = c.in_ok-resolved.ensures.within;
      seen = subst (λ l. IsSeen l c.in_ok-resolved.resolved.kind) (sym more_kinds) c.in_ok-resolved.ensures.kind;
      known =
          let (name, are, right) = c.loop-k.invariant.known in
          let first = subst (λ os. AreKnown name names os c.args.known.now k) step are in (
            name,
            subst (λ l. AreKnown name l rest c.args.known.now (k + 1)) (sym more_names)
                (known_rest name names op rest c.args.known.now k first),
            subst (λ l. AreNoted name l c.note_ends.new.noted.items) (sym more_names)
                (subst (λ l. AreNoted name (names_after op names) l) (sym c.note_ends.ensures)
                (known_noted name names _ op rest c.args.most c.args.known.now c.loop-k.noted.items k (shown_op c.in_ok-resolved.resolved.op)
                first right c.in_ok-resolved.ensures.op)),
          );
    }

pub resolve_op-requires-clause-found : goal.resolve_op-requires-clause-found
resolve_op-requires-clause-found c =
    let k : ℕ = c.loop-k.k in
    let step : drop k c.args.ops.now ≡ c.index-ops-k.result ∷ drop (k + 1) c.args.ops.now =
    rw add-one (drop-cons c.args.ops.now k c.index-ops-k.result c.loop-k-test.true)
    ∙ ap (λ (o : NamedOp). o ∷ drop (k + 1) c.args.ops.now) (sym c.index-ops-k.is) in
    let (name, are, right) = c.loop-k.invariant.known in
    let first = subst (λ os. AreKnown name c.loop-k.names.names os c.args.known.now k) step are in
    subst (λ e. WasFound c.loop-k.names.names c.index-ops-k.result e) (sym c.found_by.ensures)
    (subst (λ l. WasFound c.loop-k.names.names c.index-ops-k.result (found_by c.args.known.now l k)) (sym c.deref.ensures.value)
    (known_first name c.loop-k.names.names c.index-ops-k.result (drop (k + 1) c.args.ops.now) c.args.known.now c.loop-k.noted.items k
    right first))

pub loop-k-init : goal.loop-k-init
loop-k-init c =
    let (name, are) = c.requires.known in
    record {
      names = search rules;
      kinds = search rules;
      found = grind (arith, common_steps);
      changes = grind (arith, common_steps);
      limit = search rules;
      few = search rules;
      within = search rules;
      seen = search rules;
      known = (name, are, nothing_noted name c.args.names.now.names c.no_notes-noted.result.items c.no_notes-noted.ensures);
    }

pub returns-clause-placed : goal.returns-clause-placed
returns-clause-placed c =
    placed_in c.args.most (map shown_op c.loop-k.found.items) c.args.ops.now c.args.names.now.names c.args.kinds.now.names
    (all_resolved c.args.most c.args.ops.now c.loop-k.k c.loop-k.found.items c.loop-k.names.names c.loop-k.kinds.names
    (resolved_by c.args.most c.args.ops.now c.args.names.now.names c.args.kinds.now.names) c.loop-k-test.false c.loop-k.invariant.found)

pub returns-in_err-resolved-clause-refused : goal.returns-in_err-resolved-clause-refused
returns-in_err-resolved-clause-refused c =
    let k : ℕ = c.loop-k.k in
    let ops : List NamedOp = c.args.ops.now in
    let op : NamedOp = c.index-ops-k.result in
    let behind : take (length ops - (k + 1)) (drop (k + 1) ops) ≡ drop (k + 1) ops = grind (arith, common_steps) in
    let step : drop k ops ≡ op ∷ take (length ops - (k + 1)) (drop (k + 1) ops) =
    rw add-one (drop-cons ops k op c.loop-k-test.true) ∙ ap (λ (o : NamedOp). o ∷ drop (k + 1) ops) (sym c.index-ops-k.is)
    ∙ ap (λ (os : List NamedOp). op ∷ os) (sym behind) in
    err_then c.from_residual-in_err-resolved.result (λ error. IsUnplanned error ops c.args.names.now c.args.kinds.now)
    c.in_err-resolved.field-0.0 c.from_residual-in_err-resolved.ensures.1
    (unplanned_all c.in_err-resolved.field-0.0 ops (drop k ops) c.args.names.now c.args.kinds.now c.loop-k.names c.loop-k.kinds
    c.loop-k.invariant.names c.loop-k.invariant.kinds c.loop-k.invariant.limit c.loop-k.invariant.few
    (subst (λ (os : List NamedOp). IsUnplanned c.in_err-resolved.field-0.0 os c.loop-k.names c.loop-k.kinds) (sym step)
    c.in_err-resolved.ensures.refused))
