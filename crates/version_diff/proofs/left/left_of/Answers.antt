use Rattle.std.proofs.Common.{◌≡◌, ◌++◌, ◌∷◌, ◌+◌, List, [], Vec, Bor, length, get_or, take, drop, sym, ap, ◌∙◌, subst, append-nil, arith}
use Rattle.std.proofs.lemmas.List.{map-append, nil_from_length, length-drop}
use Rattle.std.specs.declared.{sync.Arc.Arc, alloc.Global.Global}
use Rattle.edge_block.specs.{Lending.LentEdge, declared.blocks.Block.Block}
use Rattle.graph_version.specs.Sharing.{block_value, block_values}
use Rattle.version_diff.specs.{Differences.{seen_in_block, seen_in, AreApart, difference_of}, Pairs.AreSameByNumber}
use Rattle.version_diff.proofs.{Seen.next_seen, LeftOut.{alike_behind, alike_to, seen_more, seen_one_more, passed_earlier, passed_later, passed_same, later_is}}
use Rattle.version_diff.proofs.left.left_of.Goals as goal
use Rattle.version_diff.proofs.left.left_of.Goals.{in-Some+in_ok-push_blocks-in-Some, in-None+in_ok-try_clone-in-None+in_ok-push-in-None}

pub place_of-requires : goal.place_of-requires
place_of-requires c =
    let laters : List (Arc Block Global) = c.args.later.now in
    let block : Arc Block Global = c.block-item.result in
    let same : block_value (get_or laters c.loop-block.block-index block) ≡ c.deref.result.now =
    ap block_value (sym c.block-item.is) ∙ sym c.deref.ensures in
    record {
      alike = alike_to (block_values c.loop-block.rest.now) laters c.loop-block.block-index block c.deref.result.now
          c.loop-block-test.true same c.loop-block.invariant.alike;
    }

pub loop-block-preserved : goal.loop-block-preserved
loop-block-preserved c =
    let f = c.args.view.now in
    let laters : List (Arc Block Global) = c.args.later.now in
    let i = c.loop-block.block-index in
    let block : Arc Block Global = c.block-item.result in
    let item : block ≡ get_or laters i block = c.block-item.is in
    let same_block : block_value (get_or laters i block) ≡ c.deref.result.now = ap block_value (sym item) ∙ sym c.deref.ensures in
    let so_far = c.loop-block.invariant in
    let old = seen_in f (block_values c.loop-block.gone.items) in
    let coming = seen_in f (block_values c.loop-block.rest.now) in
    let both = seen_in_block f c.deref.result.now in
    let new = seen_in f (block_values c.loop-block.came.items) in
    let later_rest = seen_in f (block_values (drop (i + 1) laters)) in
    let later_coming = seen_in f (block_values (drop i laters)) in
    let now = seen_in f (block_values c.match-place_of.gone.items) in
    let rest = seen_in f (block_values c.match-place_of.rest.now) in
    let came = seen_in f (block_values c.match-place_of.came.items) in
    let next : later_coming ≡ both ++ later_rest =
    next_seen f laters i block c.loop-block-test.true ∙ ap (λ b. seen_in_block f b ++ later_rest) same_block in
    elim c.match-place_of.branch [
      | in-Some+in_ok-push_blocks-in-Some w ↦
          let front : List (Arc Block Global) = take w.in-Some.place c.loop-block.rest.now in
          let before = seen_in f (block_values front) in
          let pushed : block_values w.push_blocks.new.blocks.items ≡ block_values c.loop-block.gone.items ++ block_values front =
          w.in_ok-push_blocks-in-Some.ensures
          ∙ ap (λ (bs : List (Arc Block Global)). block_values c.loop-block.gone.items ++ block_values bs) w.split_at.ensures.front in
          let is : now ≡ old ++ before =
          ap (λ (v : Vec (Arc Block Global) Global). seen_in f (block_values v.items)) w.gone-is ∙ ap (seen_in f) pushed
          ∙ seen_more f (block_values c.loop-block.gone.items) (block_values front) in
          let rest_is : c.match-place_of.rest.now ≡ drop (w.in-Some.place + 1) c.loop-block.rest.now =
          ap (λ (r : Bor (List (Arc Block Global))). r.now) w.rest-is ∙ w.split_at-in-Some.ensures.back in
          let behind : List (Arc Block Global) = drop (w.in-Some.place + 1) c.loop-block.rest.now in
          let coming_is : coming ≡ before ++ (both ++ rest) =
          ap (seen_in f) w.in-Some.ensures.there ∙ seen_more f (block_values front) (c.deref.result.now ∷ block_values behind)
          ∙ ap (λ (bs : List (Arc Block Global)). before ++ (both ++ seen_in f (block_values bs))) (sym rest_is) in
          let came_is : came ≡ new = ap (λ (v : Vec (Arc Block Global) Global). seen_in f (block_values v.items)) w.came-is in
          let later : AreApart (came ++ later_coming) =
          subst (λ (es : List LentEdge). AreApart (es ++ later_coming)) (sym came_is) so_far.later in
          record {
            earlier = passed_earlier old before both rest coming now came later_rest later_coming coming_is next is so_far.earlier later;
            later = passed_later old before both rest coming now came later_rest later_coming coming_is next is so_far.earlier later;
            same = λ source.
                passed_same old before both rest coming now came later_rest later_coming coming_is next is so_far.earlier later source
                ∙ ap (λ (es : List LentEdge). difference_of source (old ++ coming) (es ++ later_coming)) came_is
                ∙ so_far.same source;
            alike = subst (λ (bs : List (Arc Block Global)). AreSameByNumber (block_values bs) (block_values laters)) (sym rest_is)
                (alike_behind c.loop-block.rest.now (block_values laters) (w.in-Some.place + 1) so_far.alike);
          }
      | in-None+in_ok-try_clone-in-None+in_ok-push-in-None w ↦
          let copy : Arc Block Global = w.in_ok-try_clone-in-None.field-0 in
          let is_copy : block_value copy ≡ c.deref.result.now = w.in_ok-try_clone-in-None.ensures ∙ sym c.deref.ensures in
          let came_is : came ≡ new ++ both =
          ap (λ (v : Vec (Arc Block Global) Global). seen_in f (block_values v.items)) w.came-is
          ∙ ap (λ (bs : List (Arc Block Global)). seen_in f (block_values bs)) w.in_ok-push-in-None.ensures.items
          ∙ ap (seen_in f) (map-append block_value c.loop-block.came.items (copy ∷ []))
          ∙ seen_one_more f (block_values c.loop-block.came.items) (block_value copy)
          ∙ ap (λ b. new ++ seen_in_block f b) is_copy in
          let now_is : now ≡ old = ap (λ (v : Vec (Arc Block Global) Global). seen_in f (block_values v.items)) w.gone-is in
          let rest_is : rest ≡ coming =
          ap (λ (r : Bor (List (Arc Block Global))). seen_in f (block_values r.now)) w.rest-is in
          let moved : new ++ later_coming ≡ came ++ later_rest = later_is new both later_rest later_coming came next came_is in
          let stayed : now ++ rest ≡ old ++ coming =
          ap (λ (es : List LentEdge). es ++ rest) now_is ∙ ap (λ (es : List LentEdge). old ++ es) rest_is in
          record {
            earlier = subst AreApart (sym stayed) so_far.earlier;
            later = subst AreApart moved so_far.later;
            same = λ source.
                ap (λ (es : List LentEdge). difference_of source es (came ++ later_rest)) stayed
                ∙ ap (difference_of source (old ++ coming)) (sym moved) ∙ so_far.same source;
            alike = subst (λ (r : Bor (List (Arc Block Global))). AreSameByNumber (block_values r.now) (block_values laters)) (sym w.rest-is)
                so_far.alike;
          }
    ]

pub returns : goal.returns
returns c =
    λ source.
    let f = c.args.view.now in
    let laters : List (Arc Block Global) = c.args.later.now in
    let i = c.loop-block.block-index in
    let old = seen_in f (block_values c.loop-block.gone.items) in
    let coming = seen_in f (block_values c.loop-block.rest.now) in
    let new = seen_in f (block_values c.loop-block.came.items) in
    let none : length (drop i laters) ≡ 0 = omega (arith, length-drop i laters, c.loop-block-test.false) in
    let all : drop i laters ≡ [] = nil_from_length (drop i laters) none in
    let pushed : block_values c.push_blocks-2.new.blocks.items ≡ block_values c.loop-block.gone.items ++ block_values c.loop-block.rest.now =
    c.in_ok-push_blocks.ensures in
    let now : seen_in f (block_values c.push_blocks-2.new.blocks.items) ≡ old ++ coming =
    ap (seen_in f) pushed ∙ seen_more f (block_values c.loop-block.gone.items) (block_values c.loop-block.rest.now) in
    ap (λ (es : List LentEdge). difference_of source es new) now
    ∙ ap (difference_of source (old ++ coming)) (sym (append-nil new))
    ∙ ap (λ (bs : List (Arc Block Global)). difference_of source (old ++ coming) (new ++ seen_in f (block_values bs))) (sym all)
    ∙ c.loop-block.invariant.same source
