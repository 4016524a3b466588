use Rattle.std.proofs.Common.{◌≡◌, ◌∙◌, ◌+◌, ◌-◌, ◌++◌, ◌∷◌, [], ℕ, List, cond, length, inl, ap, arith, sym, append-nil}
use Rattle.std.proofs.lemmas.List.{length_push}
use Rattle.version_columns.specs.{Rows.with_values, Searches.numbers_with}
use Rattle.version_columns.proofs.SearchSteps.{one_more_looked, number_behind}
use Rattle.version_columns.proofs.searches.write_numbers.Goals.{then-has_text, else-has_text}
use Rattle.version_columns.proofs.searches.write_numbers.Goals as goal

pub loop-next-preserved : goal.loop-next-preserved
loop-next-preserved c =
    let text = c.args.text.now in
    let names = c.args.book.now.names in
    let from = c.args.from in
    let next = c.loop-next.next in
    let so_far = c.loop-next.invariant in
    let before : List ℕ = numbers_with text names from (next - from) in
    let more = one_more_looked text names from next c.name_of.result.now c.has_text.result so_far.onward c.name_of.ensures c.has_text.ensures in
    let put : c.if-has_text.numbers ≡ with_values 0 (before ++ cond c.has_text.result (next ∷ []) []) c.args.numbers.now =
    elim c.if-has_text.branch [
      | then-has_text w ↦ number_behind before c.args.numbers.now c.loop-next.numbers c.if-has_text.numbers next c.loop-next.count so_far.written
          so_far.counted w.numbers-is ∙ ap (λ b. with_values 0 (before ++ cond b (next ∷ []) []) c.args.numbers.now) (sym w.if-has_text.true)
      | else-has_text w ↦ w.numbers-is ∙ so_far.written ∙ ap (λ xs. with_values 0 xs c.args.numbers.now) (sym (append-nil before))
          ∙ ap (λ b. with_values 0 (before ++ cond b (next ∷ []) []) c.args.numbers.now) (sym w.if-has_text.false)
    ] in
    let count : c.if-has_text.count ≡ length (before ++ cond c.has_text.result (next ∷ []) []) =
    elim c.if-has_text.branch [
      | then-has_text w ↦ w.count-is ∙ ap (λ n. n + 1) so_far.counted ∙ sym (length_push before next)
          ∙ ap (λ b. length (before ++ cond b (next ∷ []) [])) (sym w.if-has_text.true)
      | else-has_text w ↦ w.count-is ∙ so_far.counted ∙ ap length (sym (append-nil before))
          ∙ ap (λ b. length (before ++ cond b (next ∷ []) [])) (sym w.if-has_text.false)
    ] in
    record {
      onward = omega (arith, so_far.onward);
      most = inl (omega arith);
      written = put ∙ ap (λ xs. with_values 0 xs c.args.numbers.now) (sym more);
      counted = count ∙ ap length (sym more);
      fits = elim c.if-has_text.branch [
        | then-has_text w ↦ (let one = w.count-is in let long = c.if-has_text.auto.numbers in omega arith)
        | else-has_text w ↦ (let none = w.count-is in let long = c.if-has_text.auto.numbers in omega (arith, so_far.fits))
      ];
    }
