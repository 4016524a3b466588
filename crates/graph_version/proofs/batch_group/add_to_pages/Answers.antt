use Rattle.std.proofs.{Common.{◌≡◌, ◌∙◌, ◌/◌, ap, inl, inr, rules, arith}, lemmas.Result.IfErr-at_err}
use Rattle.std.specs.{Result.IsOk, declared.sync.Arc.Arc, declared.alloc.Global.Global}
use Rattle.graph_version.specs.{Batches.batch_value, BatchPages.in_page, declared.batch_page.BatchPage.BatchPage}
use Rattle.list_pieces.proofs.{Pieces.{begun_piece, last_there, same_last, pushed_last}, Shown.always-OnErr}
use Rattle.graph_version.proofs.batch_group.add_to_pages.Goals as goal

pub returns-then-len-eq0-clause-pages : goal.returns-then-len-eq0-clause-pages
returns-then-len-eq0-clause-pages c =
    rw c.in_ok-push.ensures.items
    (begun_piece 16 in_page c.args.pages.now.items c.args.len (c.args.len / 16) c.in_ok-page.page (batch_value c.args.batch) c.requires.pages
    c.requires.len (omega (arith, c.if-len-eq0.true)) (omega arith) (c.in_ok-page.ensures.ok ∙ c.in_ok-of.ensures))

pub index_mut-requires : goal.index_mut-requires
index_mut-requires c =
    let last = last_there 16 in_page c.args.pages.now.items c.args.len c.requires.pages c.requires.len (omega arith)
    (omega (arith, c.if-len-eq0.false)) in omega arith

pub returns-in_err-pages : goal.returns-in_err-pages
returns-in_err-pages c =
    let kept : in_page c.make_mut.follows.lender-at-none ≡ in_page c.index_mut.result.now =
    elim (IfErr-at_err _ c.in_err-pages.was c.make_mut.follows.holds-at-none) [ inl e ↦ e | inr e ↦ e ] in
    let last = same_last 16 in_page c.args.pages.now.items c.args.len c.requires.pages c.requires.len (omega arith)
    (omega (arith, c.if-len-eq0.false)) c.make_mut.follows.lender-at-none c.index_mut.result.now
    (kept ∙ ap in_page c.index_mut.ensures.value) in
    record { added = search rules; unchanged = always-OnErr _ last.0; pages = last.1 }

pub returns : goal.returns
returns c =
    let h : Arc BatchPage Global = c.index_mut.result.now in
    let same : c.in_ok-pages.field-0.now ≡ in_page h = elim c.in_ok-pages.ensures.value [ inl e ↦ e | inr e ↦ e ] in
    let ok : IsOk c.make_mut.result = search rules in
    let last = pushed_last 16 in_page c.args.pages.now.items c.args.len c.requires.pages c.requires.len (omega arith)
    (omega (arith, c.if-len-eq0.false)) c.push-2.result (c.make_mut.follows.lender c.push-2.new.self) h c.push-2.new.self
    c.in_ok-pages.field-0.now (batch_value c.args.batch) (c.make_mut.follows.holds c.push-2.new.self ok) (same ∙ ap in_page c.index_mut.ensures.value)
    c.push-2.ensures.pushed c.push-2.ensures.unchanged in
    record { added = last.0; unchanged = last.1; pages = last.2 }
