use Rattle.std.proofs.Common.{◌≡◌, ◌∙◌, ◌⊎◌, ℕ, Option, Some, inl, ap, sym, subst}
use Rattle.std.specs.{Option.option_copied, Arc.arc_value}
use Rattle.graph_version.specs.Versions.{VersionView, content}
use Rattle.version_columns.specs.Nearby.{NearColumns, near_columns}
use Rattle.misteluk_c.specs.{Held.{held_version_of, Asks}, Walks.TellsWithin, declared.walking.Direction.Direction}
use Rattle.misteluk_c.proofs.walking.within.Goals as goal

pub returns-in-Some-clause-told : goal.returns-in-Some-clause-told
returns-in-Some-clause-told c =
    let v : VersionView = c.in-Some.version.now in
    let there : held_version_of (Some c.args.held.now) ≡ Some v = sym c.version_in.ensures ∙ ap option_copied c.in-Some.is in
    let old : NearColumns = near_columns c.args.vertices.now c.args.levels.now in
    let new : NearColumns = near_columns c.write_within.new.vertices c.write_within.new.levels in
    let code : ℕ = c.columns_code.result in
    let count : ℕ = c.write_within.new.count in
    subst (λ (o : Option VersionView). Asks o code
    (λ x. TellsWithin c.args.direction x c.args.view.now c.args.sources.now c.args.steps old new count code)) (sym there)
    (subst (λ (d : Direction). TellsWithin d v c.args.view.now c.args.sources.now c.args.steps old new count code) (sym c.in-Along.is)
    (inl (c.write_within.result, c.columns_code.ensures, c.write_within.ensures)))

pub returns-in-Ok-clause-told : goal.returns-in-Ok-clause-told
returns-in-Ok-clause-told c =
    let v : VersionView = c.deref.result.now in
    let there : held_version_of (Some c.args.held.now) ≡ Some v = c.in-Ok.ensures.made ∙ ap (λ (w : VersionView). Some w) (sym c.deref.ensures) in
    let old : NearColumns = near_columns c.args.vertices.now c.args.levels.now in
    let new : NearColumns = near_columns c.write_within-in-Ok.new.vertices c.write_within-in-Ok.new.levels in
    let code : ℕ = c.columns_code-in-Ok.result in
    let count : ℕ = c.write_within-in-Ok.new.count in
    subst (λ (o : Option VersionView). Asks o code
    (λ x. TellsWithin c.args.direction x c.args.view.now c.args.sources.now c.args.steps old new count code)) (sym there)
    (subst (λ (d : Direction). TellsWithin d v c.args.view.now c.args.sources.now c.args.steps old new count code) (sym c.in-Against.is)
    (inl (c.write_within-in-Ok.result, c.columns_code-in-Ok.ensures, c.write_within-in-Ok.ensures)))

pub returns-in-Ok-indexed-clause-told : goal.returns-in-Ok-indexed-clause-told
returns-in-Ok-indexed-clause-told c =
    let v : VersionView = c.deref-in-Ok-indexed.result.now in
    let there : held_version_of (Some c.args.held.now) ≡ Some v = c.in-Ok-indexed.ensures.made ∙ ap (λ (w : VersionView). Some w) (sym c.deref-in-Ok-indexed.ensures) in
    let old : NearColumns = near_columns c.args.vertices.now c.args.levels.now in
    let new : NearColumns = near_columns c.write_within-in-Ok-indexed.new.vertices c.write_within-in-Ok-indexed.new.levels in
    let code : ℕ = c.columns_code-in-Ok-indexed.result in
    let count : ℕ = c.write_within-in-Ok-indexed.new.count in
    subst (λ (o : Option VersionView). Asks o code
    (λ x. TellsWithin c.args.direction x c.args.view.now c.args.sources.now c.args.steps old new count code)) (sym there)
    (subst (λ (d : Direction). TellsWithin d v c.args.view.now c.args.sources.now c.args.steps old new count code) (sym c.in-Either.is)
    (inl (c.write_within-in-Ok-indexed.result, c.columns_code-in-Ok-indexed.ensures, c.write_within-in-Ok-indexed.ensures)))
