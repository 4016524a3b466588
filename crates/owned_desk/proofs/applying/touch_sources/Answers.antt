use Rattle.std.proofs.Common.{◌≡◌, ◌+◌, ℕ, List, [], ◌∷◌, length, length-append, Result, ap, subst, ◌∙◌}
use Rattle.std.specs.{Prelude.{OnErr, OnOk}, declared.result.Result.TheVariants.{Ok, Err}}
use Rattle.graph_types.proofs.Cases.{on_ok_map}
use Rattle.graph_types.specs.declared.ids.VertexId.{VertexId}
use Rattle.graph_version.specs.Versions.{VersionView, IsVersion}
use Rattle.store_steps.proofs.AcceptedDesk.{batches_after}
use Rattle.owned_desk.specs.Kept.{KeptView}
use Rattle.owned_desk.proofs.KeptVersions.{touched_after, touched_before, untouched_before}
use Rattle.owned_desk.proofs.applying.touch_sources.Goals.{After-touch}
use Rattle.owned_desk.proofs.applying.touch_sources.Goals as goal

either_way : {T E A B C : Type 0} (r : Result T E) → OnOk r A → OnErr r B → (A → C) → (B → C) → C
either_way (Ok done) a b f g = f a
either_way (Err refused) a b f g = g b

last_is : (c : After-touch) → c.deref.result.now ≡ c.args.ready.now.new.last
last_is c = c.deref.ensures ∙ c.version.ensures

next_is : (c : After-touch) → c.number-number.result ≡ length c.args.ready.now.old.last.batches + 1
next_is c =
    let r = c.args.ready.now in
    c.number-number.ensures.number ∙ ap (λ (v : VersionView). length v.batches) (last_is c)
    ∙ ap length (batches_after r.old r.new r.ops c.requires) ∙ length-append r.old.last.batches (r.ops ∷ [])

pub returns-clause-before : goal.returns-clause-before
returns-clause-before c =
    let r = c.args.ready.now in
    let sources : List VertexId = c.sources.result.now in
    let n : ℕ = c.number-number.result in
    let kept : KeptView = c.args.kept.now in
    let after : KeptView = c.touch.new.self in
    either_way c.touch.result c.touch.ensures.touched c.touch.ensures.unchanged
    (touched_before r.old r.new r.ops sources n kept after c.requires c.touch.ensures.versions (next_is c))
    (untouched_before r.old r.new r.ops sources n kept after c.requires c.touch.ensures.versions (next_is c))

pub returns-clause-after : goal.returns-clause-after
returns-clause-after c =
    let r = c.args.ready.now in
    let sources : List VertexId = c.sources.result.now in
    let kept : KeptView = c.args.kept.now in
    let after : KeptView = c.touch.new.self in
    on_ok_map c.touch.result _ _ (λ touches.
    touched_after r.old r.new r.ops sources c.number-number.result kept after c.requires c.touch.ensures.versions (next_is c) touches
    c.sources.ensures (subst IsVersion (last_is c) c.number-number.ensures.version)) c.touch.ensures.touched
