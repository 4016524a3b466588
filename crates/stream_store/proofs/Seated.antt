-- The seats of an opening.
use Rattle.std.proofs.Common.{◌≡◌, ℕ, suc, ◌+◌, List, [], ◌∷◌, ◌++◌, length, map, sym, ap, subst}
use Rattle.std.proofs.{Common.{◌∙◌, arith}, lemmas.List.{map-append, length-append, Elements.{All-head, All-tail, All-cons}}}
use Rattle.std.{proofs.lemmas.Grind.common_steps, specs.{List.range_with_len, Prelude.All}}
use Rattle.logbook.specs.Pages.{Book}
use Rattle.graph_types.specs.Graph.{Graph}
use Rattle.graph_types.proofs.Joined.{range_more}
use Rattle.graph_version.specs.Versions.{VersionView}
use Rattle.version_shelf.specs.Shelves.{ToldView}
use Rattle.stream_store.specs.{Seats.{SeatView, HasSeen}, Stores.IsSeatOfOpening}

abbrev IsNew : Book → VersionView → ToldView → Type 0
IsNew book version x = x ≡ record { book = book; version = version }

each : (book : Book) (version : VersionView) (seats : List SeatView)
    → All (IsNew book version) (map (λ (s : SeatView). s.seen) seats) → All (HasSeen book version) seats
each book version [] all = λ k d h. absurd (omega arith)
each book version (s ∷ seats) all =
    All-cons (HasSeen book version) s seats
    (All-head (IsNew book version) s.seen (map (λ (t : SeatView). t.seen) seats) all)
    (each book version seats (All-tail (IsNew book version) s.seen (map (λ (t : SeatView). t.seen) seats) all))

-- seats of readers that have seen version 0
pub new_seats : (book other : Book) (version : VersionView) (seats : List SeatView) (readers : List ToldView)
    → map (λ (s : SeatView). s.seen) seats ≡ readers
    → All (λ (x : ToldView). x ≡ record { book = book; version = version }) readers → other ≡ book
    → All (HasSeen other version) seats
new_seats book other version seats readers same all is =
    each other version seats
    (subst (λ (b : Book). All (IsNew b version) (map (λ (s : SeatView). s.seen) seats)) (sym is)
    (subst (λ (rs : List ToldView). All (IsNew book version) rs) (sym same) all))

-- one more seat, which has the next number
pub numbers_more : (seats more : List SeatView) (s : SeatView) → more ≡ seats ++ s ∷ [] → s.number ≡ length seats
    → map (λ (t : SeatView). t.number) seats ≡ range_with_len 0 (length seats)
    → map (λ (t : SeatView). t.number) more ≡ range_with_len 0 (length more)
numbers_more seats more s items next same =
    let longer : length (seats ++ s ∷ []) ≡ length seats + 1 = length-append seats (s ∷ []) in
    let count : length more ≡ length (seats ++ s ∷ []) = ap length items in
    let one : suc (length seats) ≡ length more = omega arith in
    let place : s.number ≡ 0 + length seats = omega arith in
    ap (map (λ (t : SeatView). t.number)) items ∙ map-append (λ (t : SeatView). t.number) seats (s ∷ [])
    ∙ ap (λ (ks : List ℕ). ks ++ s.number ∷ []) same ∙ ap (λ (k : ℕ). range_with_len 0 (length seats) ++ k ∷ []) place
    ∙ sym (range_more 0 (length seats)) ∙ ap (range_with_len 0) one

-- the seat of the first reader is added to the seats
pub seen_more : (seats more : List SeatView) (s : SeatView) (x : ToldView) (xs ys readers : List ToldView) → more ≡ seats ++ s
    ∷ [] → s.seen ≡ x → xs ≡ x ∷ ys
    → map (λ (t : SeatView). t.seen) seats ++ xs ≡ readers → map (λ (t : SeatView). t.seen) more ++ ys ≡ readers
seen_more seats more s x xs ys readers items is cut same = grind (arith, common_steps)

-- seats that have seen one version alone are of the opening with which that began
pub of_opening : (book here : Book) (opening : Graph) (version : VersionView) (seats : List SeatView) → here ≡ book
    → version.opening ≡ opening → All (HasSeen here version) seats → All (IsSeatOfOpening book opening) seats
of_opening book here opening version seats same began all = λ k d h.
    let seen = all k d h in
    record { book_is = ap (λ (x : ToldView). x.book) seen ∙ same; opening_is = ap (λ (x : ToldView). x.version.opening) seen ∙ began }
