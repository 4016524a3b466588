-- Rows of blocks of which those that stand in both are passed over.
use Rattle.std.proofs.Common.{◌≡◌, ℕ, ◌+◌, ◌<◌, List, [], ◌∷◌, ◌++◌, length, get_or, take, drop}
use Rattle.std.proofs.Common.{sym, ap, ◌∙◌, subst, append_assoc, append-nil, add-one, arith}
use Rattle.std.proofs.Math.Seq.{drop-cons}
use Rattle.std.proofs.lemmas.{Grind.flat_map-append, List.{drop-map, get_or-map, length-map, map-append, take-append-drop, Elements.All-drop}}
use Rattle.std.specs.{Prelude.All, declared.{sync.Arc.Arc, alloc.Global.Global}}
use Rattle.graph_types.specs.declared.ids.Filter.{Filter}
use Rattle.edge_block.specs.{Slots.BlockView, Lending.LentEdge, declared.blocks.Block.Block}
use Rattle.graph_version.specs.Sharing.{block_value, block_values}
use Rattle.version_diff.specs.{Differences.{seen_in_block, seen_in, AreApart, difference_of}, Pairs.AreSameByNumber}
use Rattle.version_diff.proofs.PassedOver.{both_out, both_apart}

-- what blocks and more blocks show
pub seen_more : (f : Filter) (xs ys : List BlockView) → seen_in f (xs ++ ys) ≡ seen_in f xs ++ seen_in f ys
seen_more f xs ys = flat_map-append (seen_in_block f) xs ys

pub seen_one_more : (f : Filter) (xs : List BlockView) (b : BlockView) → seen_in f (xs ++ b ∷ []) ≡ seen_in f xs ++ seen_in_block f b
seen_one_more f xs b = seen_more f xs (b ∷ []) ∙ ap (λ es. seen_in f xs ++ es) (append-nil (seen_in_block f b))

-- blocks around the one at a place
pub at_place : (blocks : List (Arc Block Global)) (i : ℕ) (d : Arc Block Global) (wanted : BlockView) → i < length blocks
    → block_value (get_or blocks i d) ≡ wanted
    → block_values blocks ≡ block_values (take i blocks) ++ (wanted ∷ block_values (drop (i + 1) blocks))
at_place blocks i d wanted within same =
    ap block_values (sym (take-append-drop i blocks)) ∙ map-append block_value (take i blocks) (drop i blocks)
    ∙ ap (λ (bs : List (Arc Block Global)). block_values (take i blocks) ++ block_values bs) (drop-cons blocks i d within)
    ∙ ap (λ n. block_values (take i blocks) ++ (block_value (get_or blocks i d) ∷ block_values (drop n blocks))) (sym (add-one i))
    ∙ ap (λ b. block_values (take i blocks) ++ (b ∷ block_values (drop (i + 1) blocks))) same

-- the others' block at a place is each of some that has its number
pub alike_to : (some : List BlockView) (others : List (Arc Block Global)) (i : ℕ) (d : Arc Block Global) (block : BlockView)
    → i < length others → block_value (get_or others i d) ≡ block → AreSameByNumber some (block_values others)
    → All (λ b. b.number ≡ block.number → b ≡ block) some
alike_to some others i d block within same alike =
    let many : length (block_values others) ≡ length others = length-map others block_value in
    let at : get_or (block_values others) i block ≡ block = get_or-map block_value others i d block within ∙ same in
    subst (λ (c : BlockView). All (λ b. b.number ≡ c.number → b ≡ c) some) at (alike i block (omega (arith, within, many)))

-- also where some are left out in front
pub alike_behind : (some : List (Arc Block Global)) (others : List BlockView) (n : ℕ) → AreSameByNumber (block_values some) others
    → AreSameByNumber (block_values (drop n some)) others
alike_behind some others n alike = λ j d within.
    let c : BlockView = get_or others j d in
    subst (λ (bs : List BlockView). All (λ b. b.number ≡ c.number → b ≡ c) bs) (drop-map block_value n some)
    (All-drop (λ (b : BlockView). b.number ≡ c.number → b ≡ c) n (block_values some) (alike j d within))

-- Of an earlier row these are left so far, and those still to come, and of a later row: what both rows show next is passed over

earlier_is : (old before both rest coming now : List LentEdge) → coming ≡ before ++ (both ++ rest) → now ≡ old ++ before
    → old ++ coming ≡ now ++ (both ++ rest)
earlier_is old before both rest coming now next is =
    ap (λ es. old ++ es) next ∙ sym (append_assoc old before (both ++ rest)) ∙ ap (λ es. es ++ (both ++ rest)) (sym is)

module _ (old before both rest coming now new later_rest later_coming : List LentEdge)
    (next : coming ≡ before ++ (both ++ rest)) (later_next : later_coming ≡ both ++ later_rest) (is : now ≡ old ++ before)
    (earlier : AreApart (old ++ coming)) (later : AreApart (new ++ later_coming)) where
  one : AreApart (now ++ (both ++ rest))
  one = subst AreApart (earlier_is old before both rest coming now next is) earlier

  other : AreApart (new ++ (both ++ later_rest))
  other = subst AreApart (ap (λ es. new ++ es) later_next) later

  pub passed_earlier : AreApart (now ++ rest)
  passed_earlier = both_apart both now rest one

  pub passed_later : AreApart (new ++ later_rest)
  passed_later = both_apart both new later_rest other

  pub passed_same : (source : ℕ) → difference_of source (now ++ rest) (new ++ later_rest)
      ≡ difference_of source (old ++ coming) (new ++ later_coming)
  passed_same source =
      sym (both_out source both now rest new later_rest one other)
      ∙ ap (λ es. difference_of source es (new ++ (both ++ later_rest))) (sym (earlier_is old before both rest coming now next is))
      ∙ ap (λ es. difference_of source (old ++ coming) (new ++ es)) (sym later_next)

-- what a later row alone shows next is left
pub later_is : (new both rest coming now : List LentEdge) → coming ≡ both ++ rest → now ≡ new ++ both → new ++ coming ≡ now ++ rest
later_is new both rest coming now next is =
    ap (λ es. new ++ es) next ∙ sym (append_assoc new both rest) ∙ ap (λ es. es ++ rest) (sym is)
