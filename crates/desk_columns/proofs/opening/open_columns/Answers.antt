use Rattle.std.proofs.Common.{◌≡◌, ◌∙◌, ℕ, ap, subst, length}
use Rattle.std.specs.Arc.{arc_value}
use Rattle.graph_version.specs.{Versions.{VersionView, content}, declared.versions.Version.Version}
use Rattle.store_steps.specs.Desks.{DeskView}
use Rattle.batch_columns.specs.Operations.{table_of}
use Rattle.opening_columns.specs.Openings.{IsMadeOf}
use Rattle.desk_columns.proofs.Opened.{made_zero, opened_by}
use Rattle.desk_columns.proofs.opening.open_columns.Goals as goal

pub reopen_with-requires : goal.reopen_with-requires
reopen_with-requires c =
    let blocks : ℕ = length c.args.desk.now.desk.pool in
    let many : c.blocks-2.result ≡ blocks = c.blocks-2.ensures.count ∙ ap (λ (d : DeskView). length d.pool) c.desk-2.ensures in
    let made : IsMadeOf c.limits-limits.result blocks (table_of c.args.columns.now) c.in-Ok.made =
    subst (λ (n : ℕ). IsMadeOf c.limits-limits.result n (table_of c.args.columns.now) c.in-Ok.made) many c.in-Ok.ensures.made in
    c.in-Ok-of.ensures.opens blocks (made_zero c.limits-limits.result blocks (table_of c.args.columns.now) c.in-Ok.made made) made.pool

pub returns-in-Ok-reopen_with : goal.returns-in-Ok-reopen_with
returns-in-Ok-reopen_with c =
    let old = c.args.desk.now in
    let last : c.deref.result.now ≡ old.desk.last = c.deref.ensures ∙ c.last-last.ensures ∙ ap (λ (d : DeskView). d.last) c.desk.ensures in (
      c.in-Ok.ensures.done,
      opened_by (table_of c.args.columns.now) old c.reopen_with.new.self c.limits-limits.result c.blocks-2.result c.in-Ok.made
          (arc_value {X = Version} c.in-Ok-of.zero.version)
          (c.limits-limits.ensures.limits ∙ ap (λ (v : VersionView). (content v).limits) last)
          (c.blocks-2.ensures.count ∙ ap (λ (d : DeskView). length d.pool) c.desk-2.ensures) c.in-Ok.ensures.made
          c.in-Ok-of.ensures.version c.in-Ok-reopen_with.ensures.opened,
    )
