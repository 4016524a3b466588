use Rattle.std.proofs.Common.{◌≡◌, ◌++◌, ◌∷◌, [], ℕ, List, refl, sym, ap, ap₂, ◌∙◌, append_assoc, arith}
use Rattle.std.proofs.lemmas.{Fmt.decimal_digit, Result.on_ok_weaker}
use Rattle.std.specs.Prelude.{codes, decimal, if◌then◌else◌, string_bytes}
use Rattle.graph_types.proofs.Prefixes.{part_more}
use Rattle.script_lines.specs.Lines.{expired_part}
use Rattle.script_lines.proofs.lines.commit_line.Goals as goal

-- the text of a label and 0
with_zero : (label : List ℕ) → label ++ 48 ∷ [] ≡ label ++ decimal 0
with_zero label = ap (λ l. label ++ l) (sym (decimal_digit 0 (omega arith)))

pub count_part-requires : goal.count_part-requires
count_part-requires c = with_zero (codes " ins=")

pub count_part-requires-2 : goal.count_part-requires-2
count_part-requires-2 c = with_zero (codes " upd=")

pub count_part-requires-3 : goal.count_part-requires-3
count_part-requires-3 c = with_zero (codes " rem=")

pub count_part-requires-4 : goal.count_part-requires-4
count_part-requires-4 c = with_zero (codes " abs=")

pub count_part-requires-5 : goal.count_part-requires-5
count_part-requires-5 c = with_zero (codes " ovf=")

pub returns : goal.returns
returns c =
    let counted = c.counts_in-counts.ensures in
    let before : List ℕ = string_bytes c.count_part-5.new.lines in
    let expired : string_bytes c.expired_part.new.lines ≡ before ++ expired_part c.args.outcomes.now =
    c.in_ok-expired_part.ensures
    ∙ ap₂ (λ has n. before ++ (if has then codes " exp=" ++ decimal n else [])) counted.has_expiry counted.expired in
    on_ok_weaker c.line_feed.result
    (λ last. part_more (string_bytes c.args.lines.now) _ _ (codes "commit v=") (decimal c.args.version) _ _ c.in_ok-number_part.ensures refl
    (part_more _ _ _ (codes " ins=") _ _ _ c.in_ok-count_part.ensures (ap decimal counted.inserted)
    (part_more _ _ _ (codes " upd=") _ _ _ c.in_ok-count_part-2.ensures (ap decimal counted.updated)
    (part_more _ _ _ (codes " rem=") _ _ _ c.in_ok-count_part-3.ensures (ap decimal counted.removed)
    (part_more _ _ _ (codes " abs=") _ _ _ c.in_ok-count_part-4.ensures (ap decimal counted.absent)
    (part_more _ _ _ (codes " ovf=") _ _ _ c.in_ok-count_part-5.ensures (ap decimal counted.overflow)
    (last ∙ ap (λ l. l ++ codes "\n") expired ∙ append_assoc before (expired_part c.args.outcomes.now) (codes "\n"))))))))
    c.line_feed.ensures
