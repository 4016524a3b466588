use Rattle.std.proofs.{Common.◌≡◌, Common.ap, Common.subst, Common.◌∙◌, lemmas.Result.MatchResult-weaker}
use Rattle.version_shelf.specs.Shelves.{ToldView, Begins}
use Rattle.stream_store.specs.Seats.{SeatView}
use Rattle.stream_store.proofs.seats.Seat.learn_told.Goals as goal

-- Its search is long where it fails.
pub returns-clause-seen : goal.returns-clause-seen
returns-clause-seen c =
    let seen : c.self.inside.reader ≡ c.args.self.now.seen = ap (λ (s : SeatView). s.seen) c.self.view_is in
    MatchResult-weaker c.learn.result c.learn.ensures
    (λ _ h. (subst (λ (x : ToldView). Begins x c.learn.new.self) seen h.0, h.1))
    (λ _ h. ap (λ (x : ToldView). record { number = c.self.inside.number; seen = x }) h ∙ c.self.view_is)
