use Rattle.std.proofs.Common.{◌≡◌, ◌≤◌, length, set, sym, ap, subst, ◌∙◌, arith, rules}
use Rattle.std.specs.{Arc.arc_value, Prelude.{option_map}, declared.option.Option.TheVariants.Some}
use Rattle.block_reclamation.specs.{Board.{BoardState, with_pin}, Copies.{settled}}
use Rattle.graph_version.specs.{declared.versions.Version.Version, Versions.VersionView}
use Rattle.desk.proofs.TwicePinned.{pin_twice}
use Rattle.owned_desk.specs.{Kept.{IsVersionOf, KeepsVersions, KeptView}, Owned.{OwnedView, IsOwned, IsSeatFor, held_pin, owned_view, with_hold}}
use Rattle.owned_desk.proofs.{KeptVersions.{changed_kept, last_is_version}, OwnedLaws.{pin_held, pinned_owned}}
use Rattle.owned_desk.proofs.owned.OwnedDesk.pin.Goals.{After-put}
use Rattle.owned_desk.proofs.owned.OwnedDesk.pin.Goals as goal

abbrev old : After-put → OwnedView
old c = let o = c.self.inside in owned_view o.desk o.board o.counts o.opening o.kept

abbrev last : After-put → VersionView
last c = arc_value {X = Version} c.args.last

last_is : (c : After-put) → last c ≡ c.self.inside.desk.last
last_is c = c.requires.last ∙ sym (ap (λ (o : OwnedView). o.desk.last) c.self.view_is)

number : (c : After-put) → c.number-number.result ≡ length (last c).batches
number c = search rules

number_low : (c : After-put) → c.number-number.result ≡ length c.self.inside.desk.last.batches
number_low c = number c ∙ ap (λ (v : VersionView). length v.batches) (last_is c)

board : (c : After-put)
    → c.settle.new.self ≡ with_pin c.self.inside.board c.args.seat (Some (held_pin c.number-number.result))
board c =
    let o = c.self.inside in
    let low : o.board.floor ≤ c.number-number.result =
    (let low = c.self.invariant.owned.floor_low in let same = number_low c in omega (arith, low, same)) in
    c.settle.ensures ∙ ap (λ p. with_pin c.pin.new.self c.args.seat (option_map (settled c.number-number.result) p)) c.pin.ensures.there
    ∙ ap (λ p. with_pin c.pin.new.self c.args.seat (Some p)) (pin_held o.board.floor c.number-number.result low)
    ∙ ap (λ (b : BoardState). with_pin b c.args.seat (Some (held_pin c.number-number.result))) c.pin.ensures.pinned
    ∙ pin_twice o.board c.args.seat _ _

new : (c : After-put)
    → owned_view c.self.inside.desk c.settle.new.self (set c.self.inside.counts c.from.result c.args.count) c.self.inside.opening
    c.put.new.self
    ≡ with_hold (old c) c.args.seat (Some (held_pin c.number-number.result)) c.args.count (Some (last c))
new c =
    let o = c.self.inside in
    let at : c.from.result ≡ c.args.seat = c.from.ensures ∙ c.number.ensures.value in
    λ i. record {
      desk = o.desk;
      board = board c i;
      counts = set o.counts (at i) c.args.count;
      opening = o.opening;
      versions = ap (λ (k : KeptView). k.versions) c.put.ensures i;
    }

kept : (c : After-put) → KeepsVersions c.self.inside.desk c.settle.new.self.pins c.put.new.self
kept c =
    let o = c.self.inside in
    let block_of = c.self.invariant.kept.block_of in
    let number_is : length o.desk.last.batches ≡ c.number-number.result = sym (number_low c) in
    let here : IsVersionOf o.kept.touched block_of o.desk (held_pin c.number-number.result) (last c) =
    subst (IsVersionOf o.kept.touched block_of o.desk (held_pin c.number-number.result)) (sym (last_is c))
    (last_is_version o.kept.touched block_of o.desk (held_pin c.number-number.result) number_is c.self.invariant.kept.last
    c.facts.ensures.replays) in
    subst (λ (k : KeptView). KeepsVersions o.desk c.settle.new.self.pins k) (sym c.put.ensures)
    (subst (λ (b : BoardState). KeepsVersions o.desk b.pins (record o.kept { versions = set o.kept.versions c.args.seat (Some (last c)) }))
    (sym (board c)) (changed_kept o.desk o.board.pins o.kept c.args.seat c.self.invariant.kept c.self.invariant.owned.pins
    c.requires.seat.0 (Some (held_pin c.number-number.result)) (Some (last c)) here))

pub invariant_of-self : goal.invariant_of-self
invariant_of-self c =
    let for : IsSeatFor (old c) c.number-number.result c.args.seat =
    subst (λ (o : OwnedView). IsSeatFor o c.number-number.result c.args.seat) (sym c.self.view_is)
    (subst (λ n. IsSeatFor c.args.self.now n c.args.seat)
    (sym (number c ∙ ap (λ (v : VersionView). length v.batches) c.requires.last)) c.requires.seat) in
    let low : c.number-number.result ≤ length c.self.inside.desk.last.batches =
    (let same = number_low c in omega (arith, same)) in
    record {
      owned = subst IsOwned (sym (new c))
          (pinned_owned (old c) c.number-number.result c.args.seat c.args.count (Some (last c)) c.self.invariant.owned for low
          (omega (arith, c.requires.count)));
      kept = kept c;
    }

pub returns : goal.returns
returns c =
    let n : c.number-number.result ≡ length c.args.self.now.desk.last.batches =
    number c ∙ ap (λ (v : VersionView). length v.batches) c.requires.last in
    new c ∙ ap (λ (o : OwnedView). with_hold o c.args.seat (Some (held_pin c.number-number.result)) c.args.count (Some (last c)))
    c.self.view_is
    ∙ ap (λ n. with_hold c.args.self.now c.args.seat (Some (held_pin n)) c.args.count (Some (last c))) n
    ∙ ap (λ (v : VersionView). with_hold c.args.self.now c.args.seat (Some (held_pin (length c.args.self.now.desk.last.batches)))
    c.args.count (Some v)) c.requires.last
