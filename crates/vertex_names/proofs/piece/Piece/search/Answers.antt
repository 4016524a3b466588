use Rattle.std.proofs.Common.{◌≡◌, ◌∙◌, ◌<◌, ℕ, List, length, get_or, ap, subst, arith}
use Rattle.vertex_names.{specs.Order.{firsts, last_place}, proofs.Entries.{search-less, search-more, first_read}}
use Rattle.vertex_names.proofs.piece.Piece.search.Goals as goal
use Rattle.vertex_names.proofs.piece.Piece.search.Goals.{In-Some}

-- the pair at the place of the hash
read : (c : In-Some) → let es : List (ℕ × ℕ) = c.self.inside.entries.items in let place : ℕ = c.last_at-place.result in
    (place ≡ last_place (firsts es) c.args.hash) × (place < length es)
    × (c.in-Some.field-0.now ≡ get_or es place c.in-Some.field-0.now)
read c = (
  c.last_at-place.ensures.place ∙ ap (λ (l : List (ℕ × ℕ)). last_place (firsts l) c.args.hash) c.deref.ensures.value,
  subst (λ (l : List (ℕ × ℕ)). c.last_at-place.result < length l) c.deref-2.ensures.value c.in-Some.ensures.lookup.3.0,
  c.in-Some.ensures.lookup.3.1 c.in-Some.field-0.now
      ∙ ap (λ (l : List (ℕ × ℕ)). get_or l c.last_at-place.result c.in-Some.field-0.now) c.deref-2.ensures.value,
)

pub returns-then-known-hash-clause-found : goal.returns-then-known-hash-clause-found
returns-then-known-hash-clause-found c =
    let (place, lt, is) = read (goal.at.returns-then-known-hash-clause-found c).In-Some in
    let first = first_read c.self.inside.entries.items c.last_at-place.result c.in-Some.field-0.now lt is in
    rw (← c.self.view_is)
    (record { within = lt; same = omega (arith, first, c.in-Some.known-is, c.if-known-hash.true) })

pub returns-then-known-hash-2-clause-absent : goal.returns-then-known-hash-2-clause-absent
returns-then-known-hash-2-clause-absent c =
    let (place, lt, is) = read (goal.at.returns-then-known-hash-2-clause-absent c).In-Some in
    rw (← c.self.view_is)
    (search-less c.self.inside.entries.items c.self.invariant c.args.hash c.last_at-place.result place c.in-Some.field-0.now lt is
    (omega (arith, c.in-Some.known-is, c.if-known-hash-2.true)))

pub returns-else-known-hash-2-clause-absent : goal.returns-else-known-hash-2-clause-absent
returns-else-known-hash-2-clause-absent c =
    let (place, lt, is) = read (goal.at.returns-else-known-hash-2-clause-absent c).In-Some in
    rw (← c.self.view_is)
    (search-more c.self.inside.entries.items c.self.invariant c.args.hash c.last_at-place.result place c.in-Some.field-0.now lt is
    (omega (arith, c.in-Some.known-is, c.if-known-hash.false, c.if-known-hash-2.false)))
