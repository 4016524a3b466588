use Rattle.std.proofs.Common.{◌≡◌, ◌∷◌, ℕ, List, subst}
use Rattle.std.specs.{Prelude.IfSome, declared.option.Option.{Option, TheVariants.Some}}
use Rattle.batch_apply.specs.{Shards.source_numbers, FirstSources.AreNext, declared.own_sources.Places.Places}
use Rattle.batch_apply.proofs.Places.{next_known, next_moved}
use Rattle.batch_apply.proofs.shards.place_of.Goals as goal

-- where places are at hand, the next is the source's
at_hand : (places : Option Places) (p : Places) (sources : List ℕ) (source : ℕ) (rest : List ℕ) → places ≡ Some p
    → IfSome places (AreNext sources (source ∷ rest)) → AreNext sources (source ∷ rest) p
at_hand places p sources source rest is are = subst (λ (o : Option Places). IfSome o (AreNext sources (source ∷ rest))) is are

pub returns-in-Some-clause-next : goal.returns-in-Some-clause-next
returns-in-Some-clause-next c = λ rest are.
    let sources : List ℕ = source_numbers c.args.sources.now.items in
    next_moved sources c.args.source rest c.in-Some.places c.take_next.new.places c.take_next.ensures.same c.take_next.ensures.next
    (at_hand c.args.places.now c.in-Some.places sources c.args.source rest c.in-Some.is are)

pub returns-in-Some-clause-sources : goal.returns-in-Some-clause-sources
returns-in-Some-clause-sources c =
    let sources : List ℕ = source_numbers c.args.sources.now.items in
    let (rest, are) = c.requires.next in
    next_known sources c.args.source rest c.in-Some.places
    (at_hand c.args.places.now c.in-Some.places sources c.args.source rest c.in-Some.is are)
