use Rattle.std.proofs.Common.{◌≡◌, All, vec_len}
use Rattle.version_shelf.specs.Shelves.{ToldView}
use Rattle.version_shelf.proofs.writers.readers_of.Given as goal

abbrev pub invariant-loop : goal.invariant-loop
invariant-loop l =
    (vec_len l.places ≡ l.counter)
    × All (λ (x : ToldView). x ≡ l.told) l.places.items
    × (l.writer ≡ l.initial.writer)
