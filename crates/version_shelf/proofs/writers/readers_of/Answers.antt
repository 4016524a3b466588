use Rattle.std.proofs.Common.{arith, ◌≡◌, ◌+◌, List, [], ◌∷◌, All, length, length-append, refl, sym, ap, subst, ◌∙◌}
use Rattle.std.proofs.lemmas.List.Elements.{All-nil}
use Rattle.version_shelf.{specs.Shelves.ToldView, proofs.Openings.all_same_more}
use Rattle.version_shelf.proofs.writers.readers_of.Goals as goal

-- Its search is long where it fails.
pub loop-init : goal.loop-init
loop-init c =
    let IsTold = λ (x : ToldView). x ≡ c.args.told.now in (
      c.new-places.ensures.len,
      subst (λ (xs : List ToldView). All IsTold xs) (sym c.new-places.ensures.items) (All-nil IsTold),
      refl,
    )

pub returns-clause-count : goal.returns-clause-count
returns-clause-count c = omega (arith, c.loop.invariant.0)

pub loop-preserved : goal.loop-preserved
loop-preserved c =
    let told : ToldView = c.args.told.now in
    let IsTold = λ (x : ToldView). x ≡ told in
    let next = c.in_ok-add_reader.ensures in
    let long : length c.add_reader.new.readers.items ≡ length c.loop.places.items + 1 =
    ap length next.readers ∙ length-append c.loop.places.items (told ∷ []) in (
      omega (arith, c.add_reader.new.readers.ok.0, c.loop.places.ok.0, c.loop.invariant.0),
      subst (λ (xs : List ToldView). All IsTold xs) (sym next.readers)
          (all_same_more told c.loop.places.items told c.loop.invariant.1 refl),
      next.writer ∙ c.loop.invariant.2,
    )
