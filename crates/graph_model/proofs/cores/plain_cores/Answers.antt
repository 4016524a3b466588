use Rattle.std.proofs.Common.{◌≡◌, ◌<◌, ◌≤◌, ◌⊎◌, ℕ, suc, length, ◌∙◌, sym, ap, List, subst, drop}
use Rattle.std.proofs.lemmas.{List.take_at, List.length-replicate, Result.IfOk-weaker}
use Rattle.std.specs.{Prelude.All, Prelude.count_by, Prelude.replicate, declared.alloc.Global.Global, declared.vec.Vec.Vec}
use Rattle.graph_types.specs.Limits.{most_names}
use Rattle.graph_types.specs.{Graph.graph_of, Analyses.AreCoreNumbers, Arcs.at, Arcs.AreUpper}
use Rattle.graph_types.proofs.ArcTables.{joined_within}
use Rattle.graph_model.{specs.Links.supports, proofs.Links.first_upper}
use Rattle.graph_model.proofs.{Links.more_upper, Links.cores_done, Links.cores_few, cores.plain_cores.Goals.{After-lower_once, After-deref-3}}
use Rattle.graph_model.proofs.cores.plain_cores.Goals as goal

pub rounds-init : goal.rounds-init
rounds-init c =
    let f = c.args.filter in
    let content = c.args.content.now in
    let n = length content.names in
    let blank : c.deref-2.result.now ≡ replicate n 0 =
    c.deref-2.ensures.value ∙ c.in_ok-zeros.ensures
    ∙ ap (λ (xs : List (List ℕ)). replicate (length xs) 0) c.as_slice-count.ensures in
    record {
      size = c.in_ok-numbers.ensures.size ∙ ap length blank ∙ length-replicate n 0;
      upper = first_upper f (graph_of content) n c.in_ok-links.links.items c.in_ok-links.ensures.links
          (joined_within f content c.requires) c.deref-2.result.now c.in_ok-numbers.numbers.items blank
          (λ v. c.in_ok-numbers.ensures.counted v ∙ ap (count_by (supports c.deref-2.result.now v)) c.deref.ensures.value);
    }

-- a round counts the links by the numbers before it
counted : (c : After-lower_once) → (v : ℕ)
    → at c.deref-in-rounds-3.result.now v ≡ count_by (supports c.rounds.numbers.items v) c.in_ok-links.links.items
counted c v =
    ap (λ xs. at xs v) c.deref-in-rounds-3.ensures.value ∙ c.in_ok-enough.ensures.counted v
    ∙ ap (λ xs. count_by (supports xs v) c.deref-in-rounds.result.now) c.deref-in-rounds-2.ensures.value
    ∙ ap (count_by (supports c.rounds.numbers.items v)) c.deref-in-rounds.ensures.value

pub rounds-preserved : goal.rounds-preserved
rounds-preserved c =
    let f = c.args.filter in
    let content = c.args.content.now in
    let n = length content.names in
    let links = c.in_ok-links.links.items in
    let numbers = c.rounds.numbers.items in
    let new = c.lower_once.new.numbers in
    let enough = c.deref-in-rounds-3.result.now in
    let each : (v : ℕ) → (at new v ≡ at numbers v) ⊎ ((suc (at new v) ≡ at numbers v) × (at enough v < at numbers v)) =
    subst (λ (xs : List ℕ). (v : ℕ) → (at new v ≡ at xs v) ⊎ ((suc (at new v) ≡ at xs v) × (at enough v < at xs v)))
    c.deref_mut.ensures.value c.lower_once.ensures.each in
    let upper = more_upper f (graph_of content) n links c.in_ok-links.ensures.links
    (joined_within f content c.requires) numbers enough new c.rounds.invariant.upper (counted (goal.at.rounds-preserved c).After-lower_once) each in
    let same = take_at new (drop (length new) numbers) c.rounds.numbers.len
    (c.lower_once.auto.numbers ∙ c.deref_mut.ensures.len) in
    record {
      size = ap length same ∙ c.lower_once.auto.numbers ∙ ap length c.deref_mut.ensures.value ∙ c.rounds.invariant.size;
      upper = subst (AreUpper f (graph_of content) n) (sym same) upper;
    }

-- once a round has lowered no number, the numbers are core numbers
ended : (c : After-deref-3)
    → ((v : ℕ) → at c.deref-in-rounds-3.result.now v ≡ count_by (supports c.rounds.numbers.items v) c.in_ok-links.links.items)
    → (c.deref-3.result.now ≡ c.rounds.numbers.items)
    × AreCoreNumbers c.args.filter (graph_of c.args.content.now) c.rounds.numbers.items
ended c counts =
    let content = c.args.content.now in
    let numbers = c.rounds.numbers.items in
    let new = c.lower_once.new.numbers in
    let enough = c.deref-in-rounds-3.result.now in
    let stays = c.lower_once.ensures.stays c.if-not-lower_once.true in
    let same = take_at new (drop (length new) numbers) c.rounds.numbers.len
    (c.lower_once.auto.numbers ∙ c.deref_mut.ensures.len) in
    let read : c.deref-3.result.now ≡ numbers = c.deref-3.ensures.value ∙ same ∙ stays.0 ∙ c.deref_mut.ensures.value in (
      read,
      cores_done c.args.filter (graph_of content) (length content.names) c.in_ok-links.links.items c.in_ok-links.ensures.links
          (joined_within c.args.filter content c.requires) numbers enough c.rounds.invariant.size c.rounds.invariant.upper counts
          (λ v. subst (λ (xs : List ℕ). at xs v ≤ at enough v) c.deref_mut.ensures.value (stays.1 v)),
    )

pub shortened-requires : goal.shortened-requires
shortened-requires c =
    let end = ended (goal.at.shortened-requires c).After-deref-3 (counted (goal.at.shortened-requires c).After-lower_once) in
    subst (λ (xs : List ℕ). All (λ number. number ≤ most_names) xs) (sym end.0)
    (cores_few c.args.filter (graph_of c.args.content.now) (length c.args.content.now.names) c.in_ok-links.links.items
    c.in_ok-links.ensures.links (joined_within c.args.filter c.args.content.now c.requires) c.rounds.numbers.items
    c.requires.names_few end.1)

pub returns : goal.returns
returns c =
    let end = ended (goal.at.returns c).After-deref-3 (counted (goal.at.returns c).After-lower_once) in
    IfOk-weaker c.shortened.result (λ (short : Vec ℕ Global). short.items ≡ c.deref-3.result.now)
    (λ (short : Vec ℕ Global). AreCoreNumbers c.args.filter (graph_of c.args.content.now) short.items)
    (λ short e. subst (AreCoreNumbers c.args.filter (graph_of c.args.content.now)) (sym (e ∙ end.0)) end.1) c.shortened.ensures
