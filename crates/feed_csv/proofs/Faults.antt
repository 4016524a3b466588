-- A fault of the feed as a step of a script, and a script that has not failed.
use Rattle.std.proofs.{Common.{◌≡◌, refl, sym, ◌∙◌}, lemmas.Bool.true≢false}
use Rattle.std.specs.Prelude.{false}
use Rattle.feed_csv.specs.{Script.{Script, FaultStep, RefusesRow, LacksMemory}, declared.command.FeedWord.FeedWord}
use Rattle.feed_csv.specs.declared.command.FeedWord.TheVariants.{Read, Memory}

-- a word of the feed that ends nothing refuses a record
pub fault_row : (word : FeedWord) (old new : Script) → (word ≡ Read → ⊥) → (word ≡ Memory → ⊥) → FaultStep word old new
    → RefusesRow old word new
fault_row Read old new read memory step = absurd (read refl)
fault_row Memory old new read memory step = absurd (memory refl)
fault_row _ old new read memory step = step

-- csv's reader works, so it did not fail for want of anything else
pub lacks : (feed : Script) → feed.failed ≡ false → LacksMemory feed
lacks feed works = λ failed. absurd (true≢false (sym failed ∙ works))
