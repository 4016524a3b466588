use Rattle.std.{proofs.Common.ℕ, proofs.lemmas.Result.IfErr-weaker, specs.Prelude.count_by}
use Rattle.block_reclamation.specs.Status.{is_free}
use Rattle.graph_types.proofs.Cases.{by_three}
use Rattle.store_steps.specs.Acceptances.{Accepts}
use Rattle.stream_store.{specs.Applying.IsReceipt, proofs.ReceiptLaws.receipt_of}
use Rattle.stream_store.specs.{Kept.DeskState, Refusals.Refuses, Refusals.IsWithin, Stores.IsReceiptOf, Stores.IsRefusalOf}
use Rattle.stream_store.proofs.store.NamedDesk.apply.Goals as goal

pub returns-clause-receipt : goal.returns-clause-receipt
returns-clause-receipt g c =
    let old : DeskState = c.args.self.now.desk in
    let free : ℕ = count_by is_free old.desk.pool in
    by_three c.apply.result (λ r. IsReceipt old c.args.batch c.apply.new.self r.number r.outcomes r.told)
    (λ r. IsReceiptOf c.args.batch r.number r.outcomes r.told) (Accepts old.desk c.args.batch c.apply.new.self.desk)
    (IsWithin old.desk.last free c.args.batch)
    (λ r. receipt_of old c.apply.new.self free c.args.batch r.number r.outcomes r.told) c.apply.ensures.receipt
    c.apply.ensures.accepted c.apply.ensures.within

pub returns-clause-refused : goal.returns-clause-refused
returns-clause-refused g c =
    let old : DeskState = c.args.self.now.desk in
    let free : ℕ = count_by is_free old.desk.pool in
    IfErr-weaker c.apply.result (Refuses old.desk.last free c.args.batch) (IsRefusalOf g.J.Naming.opening c.args.batch)
    (λ e h. record {
      last = old.desk.last;
      free = free;
      version_is = c.facts.ensures.replays.version;
      opening_is = c.args.self.now.opening_is;
      refuses = h;
    }) c.apply.ensures.refused
