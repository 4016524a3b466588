-- Steps of peeling.
use Rattle.std.proofs.Common.{◌≡◌, ◌≢◌, ℕ, ◌+◌, ◌<◌, ◌≤◌, arith, refl, sym, ap, ◌∙◌, subst, ◌⊎◌, inl, inr, List, [], ◌∷◌, ◌++◌}
use Rattle.std.proofs.{Common.{length, get_or, set, true, false, Bool}, lemmas.Bool.{cases_eq, cases_Bool, cases_lt, and_from}}
use Rattle.std.proofs.lemmas.{Bool.{le-leb, leb-true, lt-ltb, and_parts}, List.{get_or-set_same, get_or-set_other}}
use Rattle.std.proofs.lemmas.List.{length-set, length-replicate}
use Rattle.std.proofs.lemmas.List.{get_or-replicate, get_or_past, Sums.length-filter, Kept.AllPairs-filter}
use Rattle.std.proofs.lemmas.List.Elements.{filter_passes, All-weaker, All-contains, Contains-get_or, Contains-push}
use Rattle.std.proofs.lemmas.{List.Elements.Contains-append_cases, Option.{get_or_from_slice_get, slice_get_within}}
use Rattle.std.specs.{Prelude.{IsTrue, All, filter, nat_le, nat_lt, replicate}, List.Contains}
use Rattle.std.proofs.lemmas.Grind.{common_steps}
use Rattle.graph_types.specs.{Graph.Graph, Analyses.{IsTable, Joins, IsCoreNumber}, Arcs.{AreNeighbors, at}}
use Rattle.graph_types.{specs.declared.ids.Filter.Filter, proofs.Counts.{Contains-cons_cases, Contains-nil, Contains-cons}}
use Rattle.graph_types.proofs.Counts.{contains_filter, filter_contains, passing_length}
use Rattle.graph_types.proofs.{Elements.front_low, Sums.all_pass}
use Rattle.graph_types.proofs.ArcTables.{same_times}
use Rattle.graph_cores.specs.Peel.{is_alive, lowered, IsPeeling, IsBetween, is_low, is_high}
use Rattle.graph_cores.proofs.Times.{count_taken}
use Rattle.graph_cores.proofs.Lowered.{lowered_at, lowered_keeps, lowered_pushes, lowered_low}

-- what is left was left before
pub still : (alive : List Bool) (v w : ℕ) → IsTrue (is_alive (set alive v false) w) → IsTrue (is_alive alive w)
still alive v w h = grind (arith, common_steps, cases_eq, cases_lt, get_or-set_same, get_or_past, length-set, get_or-set_other)

-- all listed are left, or one was taken out
left_or : (alive : List Bool) (ws : List ℕ) → ((x : ℕ) → Contains ws x → is_alive alive x ≡ true) ⊎
    ((x : ℕ) × Contains ws x × (is_alive alive x ≡ false))
left_or alive [] = inl (λ x c. absurd (Contains-nil x c))
left_or alive (w ∷ ws) = elim (cases_Bool (is_alive alive w)) [
  | inr off ↦ inr (w, (0, omega arith, refl), off)
  | inl on ↦ elim (left_or alive ws) [
    | inr r ↦ inr (r.0, Contains-cons w ws r.0 r.1, r.2)
    | inl all ↦ inl (λ x c. elim (Contains-cons_cases w ws x c) [
      | inl e ↦ sym (ap (is_alive alive) e) ∙ on
      | inr more ↦ all x more
    ])
  ]
]

module _ (f : Filter) (g : Graph) (n : ℕ) (neighbors : ℕ → List ℕ) (nb : AreNeighbors f g neighbors)
    (in' : (v : ℕ) → All (λ w. w < n) (neighbors v)) where
  -- a vertex with at most k neighbors left has core number k
  settled : (alive : List Bool) (degrees cores stack : List ℕ) (k v : ℕ) → IsPeeling f g n neighbors alive degrees cores stack k
      → is_alive alive v ≡ true → at degrees v ≤ k → IsCoreNumber f g v k
  settled alive degrees cores stack k v i on few = (
    (i.dense.0, i.dense.2 v on, i.dense.1),
    λ j c.
        let around = c.2 v c.1 in
        elim (left_or alive around.0) [
          | inl all ↦
              let most = passing_length (is_alive alive) around.0 (neighbors v) around.2
              (λ x has. let a = All-contains (λ w. (w ≢ v) × IsTrue (c.0 w) × Joins f g v w) around.0 x around.3 has in
              ((nb.exact v x).1 (a.0, a.2), all x has)) in
              let count = i.count v in
              let many = around.1 in
              omega arith
          | inr out ↦
              let w = out.0 in
              let a = All-contains (λ w. (w ≢ v) × IsTrue (c.0 w) × Joins f g v w) around.0 w around.3 out.1 in
              let lt : w < n = All-contains (λ x. x < n) (neighbors v) w (in' v) ((nb.exact v w).1 (a.0, a.2)) in
              let known = i.known w lt out.2 in
              let most = known.0.1 j (c.0, a.1, c.2) in
              let low = known.1 in
              omega arith
        ],
  )

  -- v is taken out
  pub take_out : (alive : List Bool) (degrees cores stack : List ℕ) (k v : ℕ) → length alive ≡ n → length degrees ≡ n
      → length cores ≡ n → v < n
      → IsPeeling f g n neighbors alive degrees cores (stack ++ v ∷ []) k → is_alive alive v ≡ true
      → IsPeeling f g n neighbors (set alive v false) (lowered k (neighbors v) degrees stack).0 (set cores v k)
      (lowered k (neighbors v) degrees stack).1 k
  take_out alive degrees cores stack k v la ld lc lt i on =
      let ws = neighbors v in
      let within : All (λ w. w < length degrees) ws = λ m d l. let a = in' v m d l in omega arith in
      let few : at degrees v ≤ k = All-contains (λ y. at degrees y ≤ k) (stack ++ v ∷ []) v i.low (Contains-push stack v) in
      let a_lt : v < length alive = omega arith in
      let c_lt : v < length cores = omega arith in
      let new = set alive v false in
      let gone : is_alive new v ≡ false = get_or-set_same alive v false false a_lt in
      let old : (w : ℕ) → (w ≡ v → ⊥) → is_alive new w ≡ is_alive alive w = λ w ne. get_or-set_other alive v w false false ne in
      let was : (w : ℕ) → IsTrue (is_alive new w) → (w ≡ v → ⊥) × IsTrue (is_alive alive w) = λ w h.
      elim (cases_eq w v) [
        | inl e ↦ let both = sym gone ∙ sym (ap (is_alive new) e) ∙ h in absurd (cc)
        | inr ne ↦ (ne, subst IsTrue (old w ne) h)
      ] in
      record {
        count = λ w.
            let a = lowered_at k ws degrees stack w within in
            let b = count_taken alive v (neighbors w) a_lt on in
            let c = same_times f g n neighbors nb in' v w in
            let d = i.count w in
            omega arith;
        dense = (i.dense.0, i.dense.1, λ w h. i.dense.2 w (was w h).1);
        known = λ w w_lt off. elim (cases_eq w v) [
          | inl e ↦
              let core : at (set cores v k) w ≡ k = ap (at (set cores v k)) e ∙ get_or-set_same cores v k 0 c_lt in
              let number = settled alive degrees cores (stack ++ v ∷ []) k v i on few in
              (subst (IsCoreNumber f g w) (sym core) (subst (λ x. IsCoreNumber f g x k) (sym e) number), omega arith)
          | inr ne ↦
              let core : at (set cores v k) w ≡ at cores w = get_or-set_other cores v w k 0 ne in
              let before = i.known w w_lt (sym (old w ne) ∙ off) in
              let low = before.1 in
              (subst (IsCoreNumber f g w) (sym core) before.0, omega arith)
        ];
        listed = λ w h le.
            let before = was w h in
            elim (cases_lt k (at degrees w)) [
              | inl many ↦ lowered_pushes k ws degrees stack w within (omega arith) le
              | inr small ↦ lowered_keeps k ws degrees stack w
                  (elim (Contains-append_cases stack (v ∷ []) w (i.listed w before.1 small)) [
                    | inl c ↦ c
                    | inr c ↦ absurd (elim (Contains-cons_cases v [] w c) [
                      | inl e ↦ before.0 (sym e)
                      | inr more ↦
                          Contains-nil w more
                    ])
                  ])
            ];
        low = lowered_low k ws degrees stack within (λ m d l. front_low stack v (λ y. at degrees y ≤ k) i.low m d l);
      }

  -- v was taken out before
  pub skip : (alive : List Bool) (degrees cores stack : List ℕ) (k v : ℕ)
      → IsPeeling f g n neighbors alive degrees cores (stack ++ v ∷ []) k → is_alive alive v ≡ false
      → IsPeeling f g n neighbors alive degrees cores stack k
  skip alive degrees cores stack k v i off = record {
    count = i.count;
    dense = i.dense;
    known = i.known;
    listed = λ w h le. elim (Contains-append_cases stack (v ∷ []) w (i.listed w h le)) [
      | inl c ↦ c
      | inr c ↦ absurd (elim (Contains-cons_cases v [] w c) [
        | inl e ↦ let both = sym (ap (is_alive alive) e ∙ h) ∙ off in (cc)
        | inr more ↦ Contains-nil w more
      ])
    ];
    low = front_low stack v (λ y. at degrees y ≤ k) i.low;
  }

  -- those that are left are dense in the next round
  pub round : (alive : List Bool) (degrees cores left : List ℕ) (k : ℕ) → IsBetween f g n neighbors alive degrees cores left k
      → IsPeeling f g n neighbors alive degrees cores (filter (is_low alive degrees k) left) k
  round alive degrees cores left k i = record {
    count = i.count;
    dense = (
      is_alive alive,
      (λ v on.
          let ws = neighbors v in
          let c = i.count v in
          let long = length-filter (is_alive alive) ws in
          let pass = filter_passes (is_alive alive) ws in
          let enough = i.many v on in
          let many : k ≤ length (filter (is_alive alive) ws) = omega arith in (
            filter (is_alive alive) ws,
            many,
            AllPairs-filter (λ a b. a ≢ b) (is_alive alive) ws (nb.apart v),
            λ m d l.
                let w = get_or (filter (is_alive alive) ws) m d in
                let j = (nb.exact v w).0 (filter_contains (is_alive alive) ws w
                (Contains-get_or (filter (is_alive alive) ws) m d l)).0 in
                (j.0, pass m d l, j.1),
          )),
      (λ v h. h),
    );
    known = λ v lt off. let b = i.known v lt off in let low = b.1 in (b.0, omega arith);
    listed = λ v on le. contains_filter (is_low alive degrees k) left v
        (and_from (is_alive alive v) (nat_le (at degrees v) k) on (le-leb (at degrees v) k le)) (i.all v on);
    low = All-weaker (λ v. is_low alive degrees k v ≡ true) (λ v. at degrees v ≤ k)
        (λ v h. leb-true (at degrees v) k (and_parts (is_alive alive v) (nat_le (at degrees v) k) h).1)
        (filter (is_low alive degrees k) left) (filter_passes (is_low alive degrees k) left);
  }

  -- after a round
  pub after : (alive new : List Bool) (degrees lower cores left : List ℕ) (k : ℕ) → IsPeeling f g n neighbors new lower cores [] k
      → ((v : ℕ) → IsTrue (is_alive alive v) → Contains left v)
      → ((v : ℕ) → (IsTrue (is_alive new v) → IsTrue (is_alive alive v)) × (at lower v ≤ at degrees v))
      → IsBetween f g n neighbors new lower cores (filter (is_high alive degrees k) left) (k + 1)
  after alive new degrees lower cores left k i all shrinks =
      let many : (v : ℕ) → IsTrue (is_alive new v) → k + 1 ≤ at lower v = λ v on. elim (cases_lt k (at lower v)) [
        | inl lt ↦ omega arith
        | inr le ↦ absurd (Contains-nil v (i.listed v on le))
      ] in
      record {
        count = i.count;
        many = many;
        known = λ v lt off. let b = i.known v lt off in let low = b.1 in (b.0, omega arith);
        all = λ v on.
            let was = (shrinks v).0 on in
            let down = (shrinks v).1 in
            let enough = many v on in
            contains_filter (is_high alive degrees k) left v
            (and_from (is_alive alive v) (nat_lt k (at degrees v)) was (lt-ltb k (at degrees v) (omega arith))) (all v was);
      }

  -- none is left
  pub none_left : (alive : List Bool) (degrees cores left : List ℕ) (k : ℕ) → length cores ≡ n
      → IsBetween f g n neighbors alive degrees cores left k
      → ((v : ℕ) → v < n → is_alive alive v ≡ false) → IsTable (n) (IsCoreNumber f g) cores
  none_left alive degrees cores left k long i off = record {
    one_each = long;
    each = λ v x is.
        let lt : v < n = (let l = slice_get_within cores v x is in omega arith) in
        subst (IsCoreNumber f g v) (get_or_from_slice_get cores v x 0 is) (i.known v lt (off v lt)).0;
  }

  -- before the first round
  pub first : (alive : List Bool) (degrees cores left : List ℕ) → alive ≡ replicate n true
      → ((v : ℕ) → at degrees v ≡ length (neighbors v)) → ((v : ℕ) → v < n → Contains left v)
      → IsBetween f g n neighbors alive degrees cores left 0
  first alive degrees cores left e degree all =
      grind (arith, common_steps, get_or-replicate, all_pass, cases_lt, length-replicate, get_or_past)
