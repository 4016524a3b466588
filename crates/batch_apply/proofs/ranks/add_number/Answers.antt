use Rattle.std.proofs.Common.{◌≡◌, ◌-◌, List, length, arith, ap, sym, refl, ◌∙◌}
use Rattle.std.{proofs.lemmas.Option.slice_get-map, specs.{Prelude.slice_get, Option.option_map}}
use Rattle.graph_types.specs.declared.ids.VertexId.{VertexId}
use Rattle.batch_apply.{specs.Sorting.ranked_numbers, proofs.Vertices.{number_of, stays, new_last, is_equal}}
use Rattle.batch_apply.proofs.ranks.add_number.Goals as goal

pub returns-in_ok-push-clause-kept : goal.returns-in_ok-push-clause-kept
returns-in_ok-push-clause-kept c = λ k lt.
    rw c.in_ok-push.ensures.items (stays c.args.numbers.now.items (record { 0 = c.args.number }) k lt)

pub returns-in_ok-push-clause-last : goal.returns-in_ok-push-clause-last
returns-in_ok-push-clause-last c =
    let xs : List VertexId = c.args.numbers.now.items in
    let v : VertexId = record { 0 = c.args.number } in
    let last : length c.push.new.self.items - 1 ≡ length xs = omega (arith, c.in_ok-push.ensures.len, c.push.new.self.ok.0, c.args.numbers.now.ok.0) in
    ap (λ l. slice_get (ranked_numbers c.push.new.self.items) l) last
    ∙ ap (λ (l : List VertexId). slice_get (ranked_numbers l) (length xs)) c.in_ok-push.ensures.items ∙ new_last xs v

pub returns-else-ne-clause-last : goal.returns-else-ne-clause-last
returns-else-ne-clause-last c =
    let xs : List VertexId = c.args.numbers.now.items in
    slice_get-map number_of xs (length xs - 1)
    ∙ ap (option_map number_of) (sym (c.copied.ensures ∙ c.last.ensures.value
    ∙ ap (λ (l : List VertexId). slice_get l (length l - 1)) c.deref.ensures.value))
    ∙ is_equal _ (λ a b. refl) c.copied.result c.args.number (sym c.ne.ensures ∙ c.if-ne.false)
