-- What the seat has learnt begins what it enters.
use Rattle.std.proofs.Common.{◌∙◌, ap, arith, length}
use Rattle.graph_types.proofs.Prefixes.{prefix_length}
use Rattle.graph_version.specs.Versions.{VersionView}
use Rattle.stream_store.specs.Seats.{SeatView, lent_or_seen}
use Rattle.store_drive.proofs.driving.last_number.Goals as goal

pub returns : goal.returns
returns g c =
    let told = c.args.fed.now.receipt.told.version.batches in
    let learnt = c.learn.new.self.seen.version.batches in
    let entered = c.enter-session.result.seen.version.batches in
    let first = prefix_length told learnt c.in_ok-learn.ensures.seen.1.1.1 in
    let pinned = ap (λ (s : SeatView). length s.seen.version.batches) c.pin.ensures in
    let second = prefix_length c.pin.result.seen.version.batches entered c.enter-session.ensures.later.1.1 in
    let held = ap (λ lent. lent_or_seen lent c.enter-session.result.seen) c.enter-session.ensures.held in
    let number = c.number-number.ensures.number
    ∙ ap (λ (v : VersionView). length v.batches) (c.version.ensures ∙ held) in
    omega (arith, c.args.fed.now.number_is, first, pinned, second, number)
