-- What the options of a run are read as.
use Rattle.std.proofs.Common.{◌≡◌, ◌⊎◌, ◌<◌, ◌≤◌, ◌^◌, ◌∙◌, ℕ, Bool, true, false, codes, List, ap, arith, inl, inr, refl, subst}
use Rattle.std.proofs.{Common.sym, lemmas.Bool.Decides.{leb_tells, nat_tests}}
use Rattle.std.specs.Prelude.{◌&&◌, MatchResult, Option, None, Some, Result, Ok, Err, if◌then◌else◌, nat_le}
use Rattle.std.specs.{Prelude.option_and_then, Prelude.option_map, Option.option_map_or, Str.bytes_eq}
use Rattle.std.specs.Str.Parse.{ExplainsUnsignedError, HasUnsignedDigitsIfOk, ParsesUnsigned, digits_value, without_leading_plus}
use Rattle.clap.specs.{Matches.ReadsOne, Matches.first_value, Matches.one_text, ValueTests.is_unsigned_in}
use Rattle.clap.specs.declared.{builder.value_parser.ValueParser.TheVariants.Unsigned, parser.matches.Found.Found}
use Rattle.clap.specs.Walk.{Row, Text, one_of, rows_of}
use Rattle.clap.proofs.{WalkLemmas.{first_value-rows, one_text-rows}, ValueTestLemmas.{Accepts-accepts, accepts-Accepts}}
use Rattle.graph_types.proofs.Cases.{unsome}
use Rattle.stream_store.specs.{Configs.{AreSizesWithin, ConfigView, standard_config}, declared.config.BadConfig.BadConfig}
use Rattle.stream_store.proofs.Configured.{all_within}
use Rattle.stinger_server.specs.Program.{is_quiet, number_within, sizes_given, sizes_of}

-- a number, where it lies within limits
abbrev pub within : ℕ → ℕ → ℕ → Option ℕ
within least most n = if nat_le least n && nat_le n most then Some n else None

pub within_all : (least most n : ℕ) → least ≤ n → n ≤ most → within least most n ≡ Some n
within_all least most n low high = grind (arith, nat_tests)

is_within : (least most n : ℕ) → (within least most n ≡ None) ⊎ ((least ≤ n) × (n ≤ most))
is_within least most n = elim (leb_tells least n) [
  | inl low ↦ elim (leb_tells n most) [
    | inl high ↦ inr (low.1, high.1)
    | inr high ↦ inl (rw (low.0, high.0) refl)
  ]
  | inr low ↦ inl (rw low.0 refl)
]

pub within_none : (least most n : ℕ) → (least ≤ n → n ≤ most → ⊥) → within least most n ≡ None
within_none least most n out = elim (is_within least most n) [
  | inl none ↦ none
  | inr limits ↦ absurd (out limits.0 limits.1)
]

abbrev number_of : List ℕ → ℕ
number_of t = digits_value 10 (without_leading_plus t)

module _ {E : Type 0} (gives : List ℕ → Result ℕ E → Type 0) (k least most : ℕ) (fits : most < 2 ^ k) (small : most < 2 ^ 64)
    (parses : (t : List ℕ) (r : Result ℕ E) → gives t r → ParsesUnsigned k 10 t r) where
  taken : (t : List ℕ) (read : Option ℕ) → is_unsigned_in least most t ≡ true → ReadsOne gives t read
      → Some (number_of t) ≡ option_and_then (within least most) read
  taken t None e reads =
      let a = accepts-Accepts false (Unsigned least most) t e in
      let n : number_of t < 2 ^ k = omega (arith, a.3, fits) in
      absurd (parses t (Err reads.0) reads.1 (a.0, n))
  taken t (Some v) e reads =
      let a = accepts-Accepts false (Unsigned least most) t e in
      let p = parses t (Ok v) reads in
      rw p.1 (sym (within_all least most (number_of t) a.2 a.3))

  left : (t : List ℕ) (read : Option ℕ) → is_unsigned_in least most t ≡ false → ReadsOne gives t read
      → None ≡ option_and_then (within least most) read
  left t None e reads = refl
  left t (Some v) e reads =
      let p = parses t (Ok v) reads in
      rw p.1 (sym (within_none least most (number_of t) (λ low high. refused (Accepts-accepts false (Unsigned least most) t
      (p.0.0, omega (arith, high, small), low, high)))))
    where
      refused : is_unsigned_in least most t ≡ true → ⊥
      refused is = cc (is, e)

  read_within : (text : Option (List ℕ)) (read : Option ℕ) → (text ≡ None → read ≡ None)
      → ((t : List ℕ) → text ≡ Some t → ReadsOne gives t read)
      → number_within least most text ≡ option_and_then (within least most) read
  read_within None read nothing some = rw (nothing refl) refl
  read_within (Some t) read nothing some = go (is_unsigned_in least most t) refl
    where
      go : (b : Bool) → is_unsigned_in least most t ≡ b
          → number_within least most (Some t) ≡ option_and_then (within least most) read
      go true e = rw e (taken t read e (some t refl))
      go false e = rw e (left t read e (some t refl))

-- ---- the three numbers together

abbrev sized : Option ℕ → Option ℕ → Option ℕ → Option ConfigView
sized workers blocks seats =
    option_and_then (λ w. option_and_then (λ b. option_and_then
    (λ s. Some (standard_config w b s)) seats) blocks) workers

no_blocks : (workers seats : Option ℕ) → sized workers None seats ≡ None
no_blocks None seats = refl
no_blocks (Some w) seats = refl

no_seats : (workers blocks : Option ℕ) → sized workers blocks None ≡ None
no_seats None blocks = refl
no_seats (Some w) None = refl
no_seats (Some w) (Some b) = refl

-- a configuration is made of just the numbers within their limits
pub sizes_made : (workers blocks seats : ℕ) (made : Result ConfigView BadConfig)
    → MatchResult made
    (λ config. (config ≡ standard_config workers blocks seats) × AreSizesWithin workers blocks seats)
    (λ _. AreSizesWithin workers blocks seats → ⊥)
    → sizes_given made ≡ sized (within 1 8 workers) (within 16 65536 blocks) (within 1 16 seats)
sizes_made workers blocks seats (Ok config) valid =
    let limits = valid.1 in
    rw (
      within_all 1 8 workers limits.workers_some limits.workers_few,
      within_all 16 65536 blocks limits.blocks_some limits.blocks_few,
      within_all 1 16 seats limits.seats_some limits.seats_few,
      valid.0,
    ) refl
sizes_made workers blocks seats (Err fault) valid = sym (go (is_within 1 8 workers) (is_within 16 65536 blocks)
    (is_within 1 16 seats))
  where
    go : (within 1 8 workers ≡ None) ⊎ ((1 ≤ workers) × (workers ≤ 8))
        → (within 16 65536 blocks ≡ None) ⊎ ((16 ≤ blocks) × (blocks ≤ 65536))
        → (within 1 16 seats ≡ None) ⊎ ((1 ≤ seats) × (seats ≤ 16))
        → sized (within 1 8 workers) (within 16 65536 blocks) (within 1 16 seats) ≡ None
    go (inl w) b s = rw w refl
    go (inr w) (inl b) s = rw b (no_blocks (within 1 8 workers) (within 1 16 seats))
    go (inr w) (inr b) (inl s) = rw s (no_seats (within 1 8 workers) (within 16 65536 blocks))
    go (inr w) (inr b) (inr s) = absurd (valid (all_within workers blocks seats w b s))

-- ---- from what the getters read

pub without_workers : (rows : List Row) → number_within 1 8 (one_of (codes "workers") rows) ≡ None → sizes_of rows ≡ None
without_workers rows e = rw e refl

pub without_blocks : (rows : List Row) → number_within 16 65536 (one_of (codes "blocks") rows) ≡ None → sizes_of rows ≡ None
without_blocks rows e =
    rw e (no_blocks (number_within 1 8 (one_of (codes "workers") rows)) (number_within 1 16 (one_of (codes "seats") rows)))

pub without_seats : (rows : List Row) → number_within 1 16 (one_of (codes "seats") rows) ≡ None → sizes_of rows ≡ None
without_seats rows e =
    rw e (no_seats (number_within 1 8 (one_of (codes "workers") rows)) (number_within 16 65536 (one_of (codes "blocks") rows)))

pub with_all : (rows : List Row) (workers blocks seats : Option ℕ) → number_within 1 8 (one_of (codes "workers") rows) ≡ workers
    → number_within 16 65536 (one_of (codes "blocks") rows) ≡ blocks
    → number_within 1 16 (one_of (codes "seats") rows) ≡ seats → sizes_of rows ≡ sized workers blocks seats
with_all rows workers blocks seats w b s = rw (w, b, s) refl

-- what is read of the options of the subcommand that was met
pub options_met : {X : Type 0} (read : List Row → Option X) (met : Option (Text × List Row)) (rows : List Row)
    → option_map (λ p. p.1) met ≡ Some rows → option_and_then (λ p. read p.1) met ≡ read rows
options_met read None rows e = cc
options_met read (Some p) rows e = ap read (unsome p.1 rows e)

-- where nothing is read of them, nothing is told
pub nothing_met : {X : Type 0} (read : List Row → Option X) (met : Option (Text × List Row)) (rows : List Row) (told : Option X)
    → told ≡ None → option_map (λ p. p.1) met ≡ Some rows → read rows ≡ None → told ≡ option_and_then (λ p. read p.1) met
nothing_met read met rows told none is unread = none ∙ sym (options_met read met rows is ∙ unread)

-- what get_one reads of an option, at an unsigned type of k bits
pub option_read : (k least most : ℕ) → most < 2 ^ k → most < 2 ^ 64 → (f : Found) (id : List ℕ) (read : Option ℕ)
    → (one_text f id ≡ None → read ≡ None)
    → ((t : List ℕ) → one_text f id ≡ Some t
    → ReadsOne (λ bs r. ParsesUnsigned k 10 bs r × ExplainsUnsignedError 10 bs r × HasUnsignedDigitsIfOk bs r) t read)
    → number_within least most (one_of id (rows_of f)) ≡ option_and_then (within least most) read
option_read k least most fits small f id read nothing some =
    ap (number_within least most) (sym (one_text-rows f id))
    ∙ read_within (λ bs r. ParsesUnsigned k 10 bs r × ExplainsUnsignedError 10 bs r × HasUnsignedDigitsIfOk bs r) k least most
    fits small (λ t r g. g.0) (one_text f id) read nothing some

pub unread : (k least most : ℕ) → most < 2 ^ k → most < 2 ^ 64 → (f : Found) (id : List ℕ) (read : Option ℕ)
    → (one_text f id ≡ None → read ≡ None)
    → ((t : List ℕ) → one_text f id ≡ Some t
    → ReadsOne (λ bs r. ParsesUnsigned k 10 bs r × ExplainsUnsignedError 10 bs r × HasUnsignedDigitsIfOk bs r) t read)
    → read ≡ None → number_within least most (one_of id (rows_of f)) ≡ None
unread k least most fits small f id read nothing some none =
    option_read k least most fits small f id read nothing some ∙ ap (option_and_then (within least most)) none

-- ---- sizes lie within their limits

pub number_limits : (least most : ℕ) (text : Option (List ℕ)) (n : ℕ) → number_within least most text ≡ Some n
    → (least ≤ n) × (n ≤ most)
number_limits least most None n e = cc
number_limits least most (Some t) n e = go (is_unsigned_in least most t) refl
  where
    same : Some (number_of t) ≡ Some n → number_of t ≡ n
    same is = cc

    go : (b : Bool) → is_unsigned_in least most t ≡ b → (least ≤ n) × (n ≤ most)
    go true is =
        let a = accepts-Accepts false (Unsigned least most) t is in
        let v : number_of t ≡ n = same (rw is at e) in
        (subst (λ m. least ≤ m) v a.2, subst (λ m. m ≤ most) v a.3)
    go false is =
        let bad : None ≡ Some n = rw is at e in
        cc

sized_all : (workers blocks seats : Option ℕ) (sizes : ConfigView) → sized workers blocks seats ≡ Some sizes
    → (workers ≡ Some sizes.workers) × (blocks ≡ Some sizes.blocks) × (seats ≡ Some sizes.seats)
sized_all None blocks seats sizes e = cc
sized_all (Some w) None seats sizes e = cc
sized_all (Some w) (Some b) None sizes e = cc
sized_all (Some w) (Some b) (Some s) sizes e = (
  ap (option_map (λ (o : ConfigView). o.workers)) e,
  ap (option_map (λ (o : ConfigView). o.blocks)) e,
  ap (option_map (λ (o : ConfigView). o.seats)) e,
)

pub sizes_limits : (rows : List Row) (sizes : ConfigView) → sizes_of rows ≡ Some sizes
    → AreSizesWithin sizes.workers sizes.blocks sizes.seats
sizes_limits rows sizes e =
    let all = sized_all (number_within 1 8 (one_of (codes "workers") rows))
    (number_within 16 65536 (one_of (codes "blocks") rows)) (number_within 1 16 (one_of (codes "seats") rows)) sizes e in
    let w = number_limits 1 8 (one_of (codes "workers") rows) sizes.workers all.0 in
    let b = number_limits 16 65536 (one_of (codes "blocks") rows) sizes.blocks all.1 in
    let s = number_limits 1 16 (one_of (codes "seats") rows) sizes.seats all.2 in
    all_within sizes.workers sizes.blocks sizes.seats w b s

-- ---- the flag

-- the flag of the subcommand that was met
pub quiet_met : (met : Option (Text × List Row)) (f : Found) (b : Bool) → option_map (λ p. p.1) met ≡ Some (rows_of f)
    → b ≡ option_map_or (λ text. bytes_eq text (codes "true")) (first_value f (codes "quiet")) false
    → b ≡ option_map_or (λ p. is_quiet p.1) met false
quiet_met None f b e is = cc
quiet_met (Some p) f b e is =
    is ∙ (ap flagged (first_value-rows f (codes "quiet")) ∙ sym (ap is_quiet (unsome p.1 (rows_of f) e)))
  where
    flagged : Option Text → Bool
    flagged text = option_map_or (λ t. bytes_eq t (codes "true")) text false
