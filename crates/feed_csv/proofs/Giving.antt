-- What the rules for commands give.
use Rattle.std.proofs.Common.{◌≡◌, Result, Ok, Err, sym}
use Rattle.feed_csv.specs.{Commands.{Gives, RefusesItem}, declared.command.FeedWord.{FeedWord, TheVariants.Memory}}

pub refuses_same : {A : Type 0} (word : FeedWord) (item : Result A FeedWord) → item ≡ Err word → RefusesItem word item
refuses_same Memory item same = tt
refuses_same _ item same = same

pub gives_same : {A : Type 0} (result item : Result A FeedWord) → result ≡ item → Gives result item
gives_same (Ok value) item same = sym same
gives_same (Err word) item same = refuses_same word item (sym same)
