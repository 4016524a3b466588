use Rattle.graph_types.proofs.Copies.{same_by_zip}
use Rattle.graph_types.proofs.contents.ContentClone.clone.Goals as goal

-- Its search is long where it fails.
pub returns : goal.returns
returns c =
    let names = same_by_zip c.args.self.now.names c.in_ok-clone.field-0 c.in_ok-clone.ensures.cases in
    let kinds = same_by_zip c.args.self.now.kinds c.in_ok-clone-2.field-0 c.in_ok-clone-2.ensures.cases in
    let edges = same_by_zip c.args.self.now.edges c.in_ok-clone-3.field-0 c.in_ok-clone-3.ensures.cases in
    record { cases = λ i. record { names = names i; kinds = kinds i; edges = edges i } }
