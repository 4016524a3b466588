use Rattle.std.proofs.Common.{◌++◌, ◌∷◌, [], ◌∙◌, List, ℕ, ap, append_assoc, get_or, take}
use Rattle.std.proofs.lemmas.List.{take_all}
use Rattle.csv.specs.Writing.{default_writer, escaped}
use Rattle.csv.proofs.WriteFacts.{quoted-step}
use Rattle.batch_records.proofs.records.push_quoted.Goals as goal

pub loop-byte-init : goal.loop-byte-init
unfolding escaped
loop-byte-init c = c.in_ok-push.ensures.items

pub loop-byte-preserved : goal.loop-byte-preserved
loop-byte-preserved c =
    let field = c.args.field.now in
    let i = c.loop-byte.byte-index in
    let before = c.args.text.now.items in
    c.in_ok-push_escaped.ensures
    ∙ (ap (λ (t : List ℕ). t ++ escaped default_writer (get_or field i 0 ∷ [])) c.loop-byte.invariant
    ∙ (append_assoc before (34 ∷ escaped default_writer (take i field)) (escaped default_writer (get_or field i 0 ∷ []))
    ∙ ap (λ (t : List ℕ). before ++ t) (quoted-step default_writer 34 field i c.loop-byte-test.true)))

pub returns : goal.returns
returns c =
    let field = c.args.field.now in
    let before = c.args.text.now.items in
    c.in_ok-push-2.ensures.items
    ∙ (ap (λ (t : List ℕ). t ++ 34 ∷ []) (c.loop-byte.invariant
    ∙ ap (λ (t : List ℕ). before ++ (34 ∷ escaped default_writer t)) (take_all c.loop-byte.byte-index field c.loop-byte-test.false))
    ∙ append_assoc before (34 ∷ escaped default_writer field) (34 ∷ []))
