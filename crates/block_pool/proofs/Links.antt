-- Links that are changed.
use Rattle.std.proofs.Common.{◌≡◌, ◌≢◌, ℕ, zero, suc, ◌+◌, ◌-◌, ◌<◌, ◌==◌, List, [], ◌∷◌, length, get_or, set, false}
use Rattle.std.proofs.{Common.{refl, sym, ap, ap₂, subst, ◌∙◌, arith, map, replicate}, lemmas.Bool.{cases_eq, eq-eqb, true≢false}}
use Rattle.std.proofs.lemmas.{Bool.or_parts, List.{get_or-set_same, get_or-set_other, get_or-map, map-set}}
use Rattle.std.proofs.{Math.ListN.length-set, lemmas.Grind.common_steps}
use Rattle.block_pool.specs.{declared.stacks.Stack.Stack, Chains.chain, Chains.chain_of, Chains.AreBelow, Chains.AreStacksWithin}
use Rattle.block_pool.specs.Chains.{Stacks, stack_of, below_top, AreAbsent}
use Rattle.block_reclamation.specs.Status.{is_among}

-- the link of a number that a chain hasn't
pub chain_else : (below : List ℕ) (top height n v : ℕ) → is_among n (chain below top height) ≡ false
    → chain (set below n v) top height ≡ chain below top height
chain_else below top zero n v none = refl
chain_else below top (suc height) n v none =
    let parts = or_parts (top == n) (is_among n (chain below (get_or below top 0) height)) none in
    let ne : top ≢ n = λ e. true≢false (sym (eq-eqb top n e) ∙ parts.0) in
    let same : get_or (set below n v) top 0 ≡ get_or below top 0 = get_or-set_other below n top v 0 ne in
    ap (λ ns. top ∷ ns) (ap (λ t. chain (set below n v) t height) same
    ∙ chain_else below (get_or below top 0) height n v parts.1)

pub length-chain : (below : List ℕ) (top height : ℕ) → length (chain below top height) ≡ height
length-chain below top zero = refl
length-chain below top (suc height) = ap suc (length-chain below (get_or below top 0) height)

-- what a caller sees of a stack
pub seen : (below : List ℕ) (stacks : List Stack) (k : ℕ) (d : Stack) → k < length stacks
    → stack_of (map (chain_of below) stacks) k ≡ chain_of below (get_or stacks k d)
seen below stacks k d lt = get_or-map (chain_of below) stacks k d [] lt

map_same : (f g : Stack → List ℕ) (stacks : List Stack)
    → ((k : ℕ) (d : Stack) → k < length stacks → f (get_or stacks k d) ≡ g (get_or stacks k d)) → map f stacks ≡ map g stacks
map_same f g [] each = refl
map_same f g (s ∷ stacks) each =
    ap₂ (λ x xs. x ∷ xs) (each 0 s (omega arith))
    (map_same f g stacks (λ k d lt. each (suc k) d (omega arith)))

-- a link of a number that no stack has changes no stack
pub links_else : (below : List ℕ) (stacks : List Stack) (n v : ℕ) → AreAbsent n (map (chain_of below) stacks)
    → map (chain_of (set below n v)) stacks ≡ map (chain_of below) stacks
links_else below stacks n v absent = grind (arith, common_steps, map_same, chain_else, seen)

-- a chain that isn't empty: its top, and what is below
pub chain_top : (below : List ℕ) (top height : ℕ) → 0 < height
    → chain below top height ≡ top ∷ below_top (chain below top height)
chain_top below top h2 lt = grind (arith, common_steps)

pub chain_rest : (below : List ℕ) (top height : ℕ) → 0 < height
    → chain below (get_or below top 0) (height - 1) ≡ below_top (chain below top height)
chain_rest below top zero lt = absurd (omega arith)
chain_rest below top (suc height) lt =
    let less : suc height - 1 ≡ height = omega arith in ap (chain below (get_or below top 0)) less

-- a chain with one number more
pub chain_more : (below : List ℕ) (top height n : ℕ) → n < length below → is_among n (chain below top height) ≡ false
    → chain (set below n top) n (height + 1) ≡ n ∷ chain below top height
chain_more below top height n lt none = grind (arith, common_steps, get_or-set_same, chain_else)

-- what callers see
abbrev pub view_of : List ℕ → List ℕ → List Stack → Stacks
view_of rooms below stacks = record { bound = length below; lists = map (chain_of below) stacks; rooms = rooms }

module _ (rooms below : List ℕ) (stacks : List Stack) where
  pub shown : (view : Stacks) → view_of rooms below stacks ≡ view → (k : ℕ) (d : Stack) → k < length view.lists
      → (k < length stacks) × (stack_of view.lists k ≡ chain_of below (get_or stacks k d))
  shown view e k d lt = grind (arith, common_steps)

  pub pushed : (view : Stacks) → view_of rooms below stacks ≡ view → (k n : ℕ) (s : Stack) → s ≡ get_or stacks k s
      → k < length view.lists → n < view.bound → AreAbsent n view.lists
      → view_of rooms (set below n s.top) (set stacks k (record { top = n; height = s.height + 1 }))
      ≡ record { bound = view.bound; lists = set view.lists k (n ∷ stack_of view.lists k); rooms = view.rooms }
  pushed view e k n s here low lt absent =
      subst (λ (v : Stacks). k < length v.lists → n < v.bound → AreAbsent n v.lists
      → view_of rooms (set below n s.top) (set stacks k (record { top = n; height = s.height + 1 }))
      ≡ record { bound = v.bound; lists = set v.lists k (n ∷ stack_of v.lists k); rooms = v.rooms }) e
      (λ low lt absent.
      let after : Stack = record { top = n; height = s.height + 1 } in
      let is = shown (view_of rooms below stacks) refl k s low in
      let this : stack_of (map (chain_of below) stacks) k ≡ chain below s.top s.height =
      is.1 ∙ ap (chain_of below) (sym here) in
      let more = chain_more below s.top s.height n lt (ap (is_among n) (sym this) ∙ absent k) in
      let lists : map (chain_of (set below n s.top)) (set stacks k after)
      ≡ set (map (chain_of below) stacks) k (n ∷ stack_of (map (chain_of below) stacks) k) =
      map-set (chain_of (set below n s.top)) stacks k after
      ∙ ap₂ (λ ls ns. set ls k ns) (links_else below stacks n s.top absent) (more ∙ ap (λ ns. n ∷ ns) (sym this)) in
      ap₂ (λ (b : ℕ) (ls : List (List ℕ)). the_stacks b ls) (length-set below n s.top) lists) low lt absent
    where
      the_stacks : ℕ → List (List ℕ) → Stacks
      the_stacks b ls = record { bound = b; lists = ls; rooms = rooms }

  pub popped : (view : Stacks) → view_of rooms below stacks ≡ view → (k : ℕ) (s : Stack) (t : ℕ) → s ≡ get_or stacks k s
      → k < length view.lists → 0 < s.height → t ≡ get_or below s.top 0
      → view_of rooms below (set stacks k (record { top = t; height = s.height - 1 }))
      ≡ record { bound = view.bound; lists = set view.lists k (below_top (stack_of view.lists k)); rooms = view.rooms }
  popped view e k s t here low some link = grind (arith, common_steps, shown, chain_rest, map-set)

  -- the links stay within the room
  module _ (are : AreStacksWithin below stacks) where
    pub top_within : (k : ℕ) (s : Stack) → s ≡ get_or stacks k s → k < length stacks → 0 < s.height → s.top < length below
    top_within k s here lt some =
        first s.height some (subst (λ (r : Stack). AreBelow (length below) (chain_of below r)) (sym here) (are.each k s lt)) where
          first : (h : ℕ) → 0 < h → AreBelow (length below) (chain below s.top h) → s.top < length below
          first zero some each = absurd (omega arith)
          first (suc h) some each = each.0

    within_push : (k n : ℕ) (s : Stack) → s ≡ get_or stacks k s → k < length stacks → n < length below
        → AreAbsent n (map (chain_of below) stacks) → (j : ℕ) (d : Stack) → j < length stacks
        → AreBelow (length below) (chain_of (set below n s.top)
        (get_or (set stacks k (record { top = n; height = s.height + 1 })) j d))
    within_push k n s here lt low absent j d within =
        grind (arith, common_steps, cases_eq, get_or-set_same, seen, chain_more, get_or-set_other, chain_else)

    pub pushed_within : (k n : ℕ) (s : Stack) → s ≡ get_or stacks k s → k < length stacks → n < length below
        → AreAbsent n (map (chain_of below) stacks)
        → AreStacksWithin (set below n s.top) (set stacks k (record { top = n; height = s.height + 1 }))
    pushed_within k n s here lt low absent = grind (arith, common_steps, length-set, within_push)

    pub popped_within : (k : ℕ) (s : Stack) (t : ℕ) → s ≡ get_or stacks k s → k < length stacks → 0 < s.height
        → t ≡ get_or below s.top 0 → AreStacksWithin below (set stacks k (record { top = t; height = s.height - 1 }))
    popped_within k s t here lt some link =
        grind (arith, common_steps, length-set, cases_eq, get_or-set_same, chain_rest, get_or-set_other)

-- empty stacks
pub map_empty : (below : List ℕ) (k : ℕ) (t : ℕ)
    → map (chain_of below) (replicate k (record { top = t; height = 0 })) ≡ replicate k []
map_empty below zero t = refl
map_empty below (suc k) t = ap (λ ls. [] ∷ ls) (map_empty below k t)

pub empty_within : (below : List ℕ) (k : ℕ) (t : ℕ) → length below < 4294967296
    → AreStacksWithin below (replicate k (record { top = t; height = 0 }))
empty_within below k t few = grind (arith, common_steps)
