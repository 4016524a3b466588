-- Lists in pages that are written.
use Rattle.std.proofs.Common.{◌≡◌, ◌≢◌, inl, inr, ℕ, ◌+◌, ◌*◌, ◌/◌, ◌%◌, ◌<◌, ◌≤◌, List, [], length, get_or, set, map, sym, ap, ap₂, subst, ◌∙◌, arith}
use Rattle.std.proofs.lemmas.{Bool.cases_eq, Bool.cases_lt, List.{get_or-set_same, get_or-set_other, get_or_past, get_or-map, map-set, set-get_or, same_lists, length-map}}
use Rattle.std.proofs.lemmas.List.FromFn.{length-map-range_with_len, get_or-map-range_with_len}
use Rattle.std.proofs.Math.ListN.{length-set}
use Rattle.std.specs.declared.{vec.Vec.Vec, alloc.Global.Global}
use Rattle.graph_types.proofs.ListPlaces.{room_in}
use Rattle.block_pool.specs.Paging.{Paged, HasRoom, by_place, item_in_pages, items_of, paged}

pub length-by_place : {A : Type 0} (f : ℕ → A) (count : ℕ) → length (by_place f count) ≡ count
length-by_place f count = length-map-range_with_len f 0 count

pub at_place : {A : Type 0} (f : ℕ → A) (count place : ℕ) (d : A) → place < count → get_or (by_place f count) place d ≡ f place
at_place f count place d lt = get_or-map-range_with_len f 0 count place place d lt (omega arith)

-- two lists by place
pub same_by_place : {A : Type 0} (f g : ℕ → A) (count : ℕ) → ((j : ℕ) → f j ≡ g j) → by_place f count ≡ by_place g count
same_by_place f g count each =
    same_lists (by_place f count) (by_place g count) (length-by_place f count ∙ sym (length-by_place g count))
    (λ k d lt.
    let low : k < count = omega (arith, length-by_place f count) in
    at_place f count k d low ∙ each k ∙ sym (at_place g count k d low))

-- a list by place, with the element at one place changed
pub set_by_place : {A : Type 0} (f g : ℕ → A) (count place : ℕ) (x : A) → place < count → g place ≡ x
    → ((j : ℕ) → j ≢ place → g j ≡ f j) → by_place g count ≡ set (by_place f count) place x
set_by_place f g count place x lt here else =
    let long = length-by_place f count in
    let long_set = length-set (by_place f count) place x in
    let long_now = length-by_place g count in
    same_lists (by_place g count) (set (by_place f count) place x) (omega arith)
    (λ k d low.
    let within : k < count = omega arith in
    elim (cases_eq k place) [
      | inl e ↦ at_place g count k d within ∙ ap g e ∙ here
          ∙ sym (ap (λ j. get_or (set (by_place f count) place x) j d) e ∙ get_or-set_same (by_place f count) place x d (omega arith))
      | inr ne ↦ at_place g count k d within ∙ else k ne ∙ sym (at_place f count k d within)
          ∙ sym (get_or-set_other (by_place f count) place k x d ne)
    ])

-- the pages with an element written
abbrev pub written : {A : Type 0} → List (List A) → ℕ → A → List (List A)
written pages place x = set pages (place / 4096) (set (get_or pages (place / 4096) []) (place % 4096) x)

module _ {A : Type 0} (blank : ℕ → A) (pages : List (List A)) where
  -- a page in the place of one that shows the same
  pub same_in : (q : ℕ) (page : List A) → q < length pages
      → ((k : ℕ) → k < 4096 → get_or page k (blank (q * 4096 + k)) ≡ get_or (get_or pages q []) k (blank (q * 4096 + k)))
      → (j : ℕ) → item_in_pages blank (set pages q page) j ≡ item_in_pages blank pages j
  same_in q page lt each j = elim (cases_eq (j / 4096) q) [
    | inl e ↦
        let here : get_or (set pages q page) (j / 4096) [] ≡ page =
        ap (λ i. get_or (set pages q page) i []) e ∙ get_or-set_same pages q page [] lt in
        let whole : q * 4096 + j % 4096 ≡ j = omega (arith, e) in
        ap (λ (p : List A). get_or p (j % 4096) (blank j)) here
        ∙ ap (λ i. get_or page (j % 4096) (blank i)) (sym whole)
        ∙ each (j % 4096) (omega arith)
        ∙ ap (λ i. get_or (get_or pages q []) (j % 4096) (blank i)) whole
        ∙ ap (λ i. get_or (get_or pages i []) (j % 4096) (blank j)) (sym e)
    | inr ne ↦ ap (λ (p : List A). get_or p (j % 4096) (blank j)) (get_or-set_other pages q (j / 4096) page [] ne)
  ]

  module _ (place : ℕ) (room : HasRoom (map length pages) place) where
    pub page_within : place / 4096 < length pages
    page_within = elim (cases_lt (place / 4096) (length pages)) [
      | inl lt ↦ lt
      | inr le ↦
          let none = get_or_past (map length pages) (place / 4096) 0 (omega (arith, length-map pages length)) in
          omega arith
    ]

    pub item_within : place % 4096 < length (get_or pages (place / 4096) [])
    item_within = let e = room_in pages (place / 4096) in omega arith

    written_here : (x : A) → item_in_pages blank (written pages place x) place ≡ x
    written_here x =
        ap (λ (p : List A). get_or p (place % 4096) (blank place))
        (get_or-set_same pages (place / 4096) (set (get_or pages (place / 4096) []) (place % 4096) x) [] page_within)
        ∙ get_or-set_same (get_or pages (place / 4096) []) (place % 4096) x (blank place) item_within

    written_else : (x : A) (j : ℕ) → j ≢ place → item_in_pages blank (written pages place x) j ≡ item_in_pages blank pages j
    written_else x j ne = elim (cases_eq (j / 4096) (place / 4096)) [
      | inl e ↦
          let other : j % 4096 ≢ place % 4096 = λ same. ne (omega (arith, e, same)) in
          let here : get_or (written pages place x) (j / 4096) [] ≡ set (get_or pages (place / 4096) []) (place % 4096) x =
          ap (λ i. get_or (written pages place x) i []) e
          ∙ get_or-set_same pages (place / 4096) (set (get_or pages (place / 4096) []) (place % 4096) x) [] page_within in
          ap (λ (p : List A). get_or p (j % 4096) (blank j)) here
          ∙ get_or-set_other (get_or pages (place / 4096) []) (place % 4096) (j % 4096) x (blank j) other
          ∙ ap (λ i. get_or (get_or pages i []) (j % 4096) (blank j)) (sym e)
      | inr far ↦ ap (λ (p : List A). get_or p (j % 4096) (blank j))
          (get_or-set_other pages (place / 4096) (j / 4096) (set (get_or pages (place / 4096) []) (place % 4096) x) [] far)
    ]

    -- an element is written, and each page has room as before
    pub shown_written : (count : ℕ) (x : A) → place < count
        → paged blank (written pages place x) count
        ≡ record { items = set (by_place (item_in_pages blank pages) count) place x; rooms = map length pages }
    shown_written count x lt =
        ap₂ (λ (is : List A) (rs : List ℕ). the_paged is rs)
        (set_by_place (item_in_pages blank pages) (item_in_pages blank (written pages place x)) count place x lt (written_here x) (written_else x)) rooms
      where
        the_paged : List A → List ℕ → Paged A
        the_paged is rs = record { items = is; rooms = rs }

        rooms : map length (written pages place x) ≡ map length pages
        rooms =
            map-set length pages (place / 4096) (set (get_or pages (place / 4096) []) (place % 4096) x)
            ∙ ap (set (map length pages) (place / 4096))
            (length-set (get_or pages (place / 4096) []) (place % 4096) x ∙ sym (room_in pages (place / 4096)))
            ∙ set-get_or (map length pages) (place / 4096) 0

-- a page in the place of one that has no more
module _ {A : Type 0} (pages : List (List A)) (q : ℕ) (page : List A) (lt : q < length pages) where
  room_now : get_or (map length (set pages q page)) q 0 ≡ length page
  room_now = room_in (set pages q page) q ∙ ap length (get_or-set_same pages q page [] lt)

  pub room_made : (place : ℕ) → q ≡ place / 4096 → place % 4096 < length page → HasRoom (map length (set pages q page)) place
  room_made place same low =
      let there = ap (λ i. get_or (map length (set pages q page)) i 0) same in
      omega (arith, room_now, there)

  pub room_kept : length (get_or pages q []) ≤ length page → (place : ℕ) → HasRoom (map length pages) place
      → HasRoom (map length (set pages q page)) place
  room_kept more place room = elim (cases_eq (place / 4096) q) [
    | inl e ↦
        let there = ap (λ i. get_or (map length (set pages q page)) i 0) e in
        let here = ap (λ i. get_or (map length pages) i 0) e in
        omega (arith, room_now, there, here, room, more, room_in pages q)
    | inr ne ↦
        let now = room_in (set pages q page) (place / 4096) in
        let other = ap length (get_or-set_other pages q (place / 4096) page [] ne) in
        omega (arith, now, other, room, room_in pages (place / 4096))
  ]

-- what a list in pages is seen as
module _ {A : Type 0} (blank : ℕ → A) (pages : List (List A)) (count : ℕ) (seen : Paged A) (is : paged blank pages count ≡ seen) where
  pub seen_length : count ≡ length seen.items
  seen_length = sym (length-by_place (item_in_pages blank pages) count) ∙ ap (λ (v : Paged A). length v.items) is

  pub seen_at : (place : ℕ) (d : A) → place < length seen.items → get_or seen.items place d ≡ item_in_pages blank pages place
  seen_at place d lt =
      sym (ap (λ (v : Paged A). get_or v.items place d) is)
      ∙ at_place (item_in_pages blank pages) count place d (omega (arith, seen_length))

  pub seen_room : (place : ℕ) → HasRoom seen.rooms place → HasRoom (map length pages) place
  seen_room place room = subst (λ (v : Paged A). HasRoom v.rooms place) (sym is) room

  pub seen_room_of : (place : ℕ) → HasRoom (map length pages) place → HasRoom seen.rooms place
  seen_room_of place room = subst (λ (v : Paged A). HasRoom v.rooms place) is room

  pub seen_same : (now : List (List A)) → ((j : ℕ) → item_in_pages blank now j ≡ item_in_pages blank pages j)
      → by_place (item_in_pages blank now) count ≡ seen.items
  seen_same now each =
      same_by_place (item_in_pages blank now) (item_in_pages blank pages) count each ∙ ap (λ (v : Paged A). v.items) is

  pub seen_set : (place : ℕ) (x : A) → place < length seen.items → HasRoom seen.rooms place
      → paged blank (written pages place x) count ≡ record { items = set seen.items place x; rooms = seen.rooms }
  seen_set place x lt room =
      shown_written blank pages place (seen_room place room) count x (omega (arith, seen_length))
      ∙ ap (λ (v : Paged A). with_item v) is
    where
      with_item : Paged A → Paged A
      with_item v = record { items = set v.items place x; rooms = v.rooms }

-- a page that is read, and the pages with it written
module _ {A : Type 0} (pages : List (Vec A Global)) (q : ℕ) (page : Vec A Global) (read : page ≡ get_or pages q page) (lt : q < length pages)
  where
    pub page_read : page.items ≡ get_or (map items_of pages) q []
    page_read = ap items_of read ∙ sym (get_or-map items_of pages q page [] lt)

    pub page_set : (place : ℕ) (x : A) (now : Vec A Global) → q ≡ place / 4096 → now.items ≡ set page.items (place % 4096) x
        → map items_of (set pages q now) ≡ written (map items_of pages) place x
    page_set place x now same is =
        map-set items_of pages q now
        ∙ ap (set (map items_of pages) q) (is ∙ ap (λ (p : List A). set p (place % 4096) x) page_read)
        ∙ ap (λ i. set (map items_of pages) i (set (get_or (map items_of pages) i []) (place % 4096) x)) same
