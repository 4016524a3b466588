use Rattle.std.proofs.Common.{inr, refl}
use Rattle.owned_desk.specs.declared.errors.PairError.TheVariants.{OutOfMemory}
use Rattle.misteluk_c.proofs.diffs.pair_in_empty.Goals as goal

-- There was no memory for the handle's box.
pub returns-in_default : goal.returns-in_default
returns-in_default c = inr (OutOfMemory, refl, tt, c.requires)
