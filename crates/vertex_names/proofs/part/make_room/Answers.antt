use Rattle.std.proofs.Common.{◌≡◌, ◌∙◌, ◌≤◌, ◌<◌, ◌+◌, ◌/◌, ℕ, List, get_or, refl, sym, ap, subst, arith, nat_eq, rules}
use Rattle.std.specs.{List.insert, Map.lookup, declared.sync.Arc.Arc, declared.alloc.Global.Global}
use Rattle.vertex_names.specs.{declared.piece.Piece.Piece, Order.IsRising, Order.firsts, Order.last_place, Pieces.piece_entries}
use Rattle.vertex_names.proofs.Splits.{split_in_two}
use Rattle.vertex_names.proofs.part.make_room.Goals as goal

pub returns : goal.returns
returns c =
    let ps : List (ℕ × Arc Piece Global) = c.args.pieces.now.items in
    let h : ℕ × Arc Piece Global = c.index.result.now in
    let x : ℕ × Arc Piece Global = c.index_mut.result.now in
    let m : ℕ = c.hash-middle.result in
    let half : ℕ = c.len-half.result / 2 in
    let x_is : x ≡ get_or (insert ps (c.args.place + 1) (m, c.in_ok-upper.upper)) c.args.place x =
    c.index_mut.ensures.value ∙ ap (λ (l : List (ℕ × Arc Piece Global)). get_or l c.args.place x) c.in_ok-insert.ensures.items in
    let over : h.0 < m = omega (arith, c.if-middle-lowest.false) in
    let place : c.last_at.result ≡ c.args.place = omega (arith, c.if-last_at-place.false) in
    let is : last_place (firsts ps) m ≡ c.args.place =
    sym (ap (λ (l : List (ℕ × Arc Piece Global)). last_place (firsts l) m) c.deref-else-middle-lowest.ensures.value)
    ∙ sym c.last_at.ensures.place ∙ place in
    let left : (q : ℕ) → q < m → lookup (nat_eq q) (piece_entries c.in_ok-lower.lower) ≡ lookup (nat_eq q) (piece_entries h.1) =
    λ q less.
    let middle : m ≡ get_or (firsts c.deref-4.result.now) half 0 =
    c.hash-middle.ensures ∙ ap (λ (es : List (ℕ × ℕ)). get_or (firsts es) half 0) (c.deref-3.ensures ∙ sym c.deref-4.ensures) in
    ap (λ (es : List (ℕ × ℕ)). lookup (nat_eq q) es) c.in_ok-lower.ensures.ok
    ∙ c.in_ok-before.ensures q (subst (λ (n : ℕ). q < n) middle less)
    ∙ ap (λ (es : List (ℕ × ℕ)). lookup (nat_eq q) es) c.deref-4.ensures in
    let right : (q : ℕ) → m ≤ q → lookup (nat_eq q) (piece_entries c.in_ok-upper.upper) ≡ lookup (nat_eq q) (piece_entries h.1) =
    λ q le.
    let middle : m ≡ get_or (firsts c.deref-5.result.now) half 0 =
    c.hash-middle.ensures ∙ ap (λ (es : List (ℕ × ℕ)). get_or (firsts es) half 0) (c.deref-3.ensures ∙ sym c.deref-5.ensures) in
    ap (λ (es : List (ℕ × ℕ)). lookup (nat_eq q) es) c.in_ok-upper.ensures.ok
    ∙ c.in_ok-from.ensures q (subst (λ (n : ℕ). n ≤ q) middle le)
    ∙ ap (λ (es : List (ℕ × ℕ)). lookup (nat_eq q) es) c.deref-5.ensures in
    let two =
    split_in_two ps c.args.place m h x c.in_ok-lower.lower c.in_ok-upper.upper c.requires.rising c.requires.place c.index.ensures x_is
    over is left right in
    rw c.in_ok-insert.ensures.items (record { some = search rules; rising = two.0; same = two.1 })

pub returns-in_err-before : goal.returns-in_err-before
returns-in_err-before c = record { some = omega arith; rising = c.requires.rising; same = λ q. refl }

pub returns-in_err-lower : goal.returns-in_err-lower
returns-in_err-lower c = record { some = omega arith; rising = c.requires.rising; same = λ q. refl }

pub returns-in_err-from : goal.returns-in_err-from
returns-in_err-from c = record { some = omega arith; rising = c.requires.rising; same = λ q. refl }

pub returns-in_err-upper : goal.returns-in_err-upper
returns-in_err-upper c = record { some = omega arith; rising = c.requires.rising; same = λ q. refl }

pub returns-then-len-lt-FULL : goal.returns-then-len-lt-FULL
returns-then-len-lt-FULL c = record { some = omega arith; rising = c.requires.rising; same = λ q. refl }

pub returns-then-middle-lowest : goal.returns-then-middle-lowest
returns-then-middle-lowest c = record { some = omega arith; rising = c.requires.rising; same = λ q. refl }

pub last_at-requires : goal.last_at-requires
last_at-requires c = subst (λ (l : List (ℕ × Arc Piece Global)). IsRising (firsts l)) (sym c.deref-else-middle-lowest.ensures.value)
    c.requires.rising

pub insert-requires : goal.insert-requires
insert-requires c = omega (arith, c.requires.place)

pub index_mut-requires : goal.index_mut-requires
index_mut-requires c = omega (arith, c.requires.place, c.in_ok-insert.ensures.len)

pub returns-in_err-insert : goal.returns-in_err-insert
returns-in_err-insert c = rw c.in_err-insert.ensures.items
    (record { some = omega (arith, c.requires.place); rising = c.requires.rising; same = λ q. refl })
