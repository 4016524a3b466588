use Rattle.std.{proofs.Common.{rules, ◌≡◌, ℕ, List, length, replicate, sym, ap, subst, ◌∙◌}, specs.Arc.arc_value}
use Rattle.graph_version.specs.{declared.versions.Version.Version, Versions.VersionView}
use Rattle.graph_version.specs.{Rows.blocks_of, Rows.numbers_of, Sharing.block_values}
use Rattle.block_pool.specs.Pools.{AreFree, marked}
use Rattle.block_reclamation.specs.declared.status.BlockStatus.TheVariants.{Free, Used}
use Rattle.store_steps.proofs.Reopening.{zero_is, zero_pool}
use Rattle.desk.{specs.Applying.AreInUseOnce, proofs.{Handing.back_used, Zeros.opens_with}}
use Rattle.desk.proofs.zero.Zero.over.Goals as goal

pub born_blocks-requires : goal.born_blocks-requires
born_blocks-requires c =
    let numbers : List ℕ = c.in-Ok.field-0.numbers.items in
    let same : c.as_slice.result.now ≡ numbers = c.as_slice.ensures.value in
    subst (λ ns. AreInUseOnce ns c.grant.new.self) (sym same)
    (back_used c.in_ok-pool.pool c.grant.new.self numbers c.in-Ok.ensures.numbers.0 c.in-Ok.ensures.used)

pub returns-clause-opens : goal.returns-clause-opens
returns-clause-opens c =
    let z : VersionView = c.in_ok-zero.zero in
    let numbers : List ℕ = c.in-Ok.field-0.numbers.items in
    let lent : c.as_slice.result.now ≡ numbers = c.as_slice.ensures.value in
    let shown : arc_value {X = Version} c.in_ok-new.field-0 ≡ z = c.in_ok-new.ensures.ok in
    let free : AreFree (replicate c.args.blocks Free) numbers =
    subst (λ p. AreFree p numbers) c.in_ok-pool.ensures c.in-Ok.ensures.numbers.0 in
    let over : blocks_of z.rows ≡ block_values c.in_ok-copied_into.field-0.items = search rules in
    let copied : numbers_of (block_values c.in_ok-copied_into.field-0.items) ≡ numbers = search rules in
    let same : numbers_of (blocks_of z.rows) ≡ numbers = ap numbers_of over ∙ copied in
    let born : c.born_blocks.new.pool ≡ marked numbers (Used c.number-number.result) c.grant.new.self =
    c.born_blocks.ensures ∙ ap (λ ns. marked ns (Used c.number-number.result) c.grant.new.self) lent in
    opens_with c.args.blocks _ z shown
    (zero_is c.args.blocks c.args.version.now z numbers free same c.number-number.ensures.version c.in_ok-zero.ensures.rebased)
    c.of.ensures
    (zero_pool c.args.blocks z numbers c.in_ok-pool.pool c.grant.new.self c.born_blocks.new.pool c.number-number.result
    c.in_ok-pool.ensures c.in-Ok.ensures.used born c.number-number.ensures.number (ap length c.in_ok-zero.ensures.rebased.batches) same)
