-- A desk that opened with what columns hold.
use Rattle.std.proofs.Common.{◌≡◌, ◌+◌, ◌∙◌, ℕ, length, ap, sym, subst}
use Rattle.graph_types.specs.Limits.{LimitsView}
use Rattle.graph_version.specs.Versions.{VersionView, content}
use Rattle.store_steps.specs.Opening.{IsVersionZero, opened_desk}
use Rattle.owned_desk.specs.Owned.{OwnedView, opened_owned}
use Rattle.batch_columns.specs.Operations.{OperationTable}
use Rattle.opening_columns.specs.{Openings.{IsMadeOf, IsOpenedWith}, declared.making.Made.Made}
use Rattle.desk_columns.specs.Opening.{IsOpenedBy}

-- what was made is a version 0
pub made_zero : (limits : LimitsView) (blocks : ℕ) (t : OperationTable) (made : Made) → IsMadeOf limits blocks t made
    → IsVersionZero blocks made.version
made_zero limits blocks t made is = record { version = is.opened.version; alone = is.opened.batches; within = is.within }

pub opened_by : (t : OperationTable) (old new : OwnedView) (limits : LimitsView) (blocks : ℕ) (made : Made) (version : VersionView)
    → limits ≡ (content old.desk.last).limits → blocks ≡ length old.desk.pool → IsMadeOf limits blocks t made → version ≡ made.version
    → new ≡ opened_owned (opened_desk (length old.desk.pool) version) (old.opening + 1) → IsOpenedBy t old new
opened_by t old new limits blocks made version walls many is same opened =
    let here : IsMadeOf (content old.desk.last).limits (length old.desk.pool) t made =
    subst (λ (n : ℕ). IsMadeOf (content old.desk.last).limits n t made) many
    (subst (λ (l : LimitsView). IsMadeOf l blocks t made) walls is) in
    let last : new.desk.last ≡ made.version = ap (λ (o : OwnedView). o.desk.last) opened ∙ same in
    record {
      ops = here.ops;
      taken = here.taken;
      opened = subst (IsOpenedWith here.ops (content old.desk.last).limits) (sym last) here.opened;
      zero = subst (IsVersionZero (length old.desk.pool)) (sym last)
          (made_zero (content old.desk.last).limits (length old.desk.pool) t made here);
      new_is = opened ∙ ap (λ (v : VersionView). opened_owned (opened_desk (length old.desk.pool) v) (old.opening + 1)) (same ∙ sym last);
    }
