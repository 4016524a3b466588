use Rattle.std.proofs.{Common.{◌≡◌, ◌∙◌, ◌/◌, ap, inl, inr, rules, arith}, lemmas.Result.IfErr-at_err}
use Rattle.std.specs.{Result.IsOk, declared.sync.Arc.Arc, declared.alloc.Global.Global}
use Rattle.vertex_names.specs.{Texts.names_in, declared.chunk.Chunk.Chunk}
use Rattle.list_pieces.proofs.{Pieces.{begun_piece, last_there, same_last, pushed_last}, Shown.always-OnErr}
use Rattle.vertex_names.proofs.text_group.add_to_chunks.Goals as goal

pub returns-then-len-eq0-clause-chunks : goal.returns-then-len-eq0-clause-chunks
returns-then-len-eq0-clause-chunks c =
    rw c.in_ok-push.ensures.items
    (begun_piece 256 names_in c.args.chunks.now.items c.args.len (c.args.len / 256) c.in_ok-chunk.chunk c.args.name c.requires.chunks
    c.requires.len (omega (arith, c.if-len-eq0.true)) (omega arith) (c.in_ok-chunk.ensures.ok ∙ c.in_ok-of.ensures))

pub index_mut-requires : goal.index_mut-requires
index_mut-requires c =
    let last = last_there 256 names_in c.args.chunks.now.items c.args.len c.requires.chunks c.requires.len (omega arith)
    (omega (arith, c.if-len-eq0.false)) in omega arith

pub returns-in_err-chunks : goal.returns-in_err-chunks
returns-in_err-chunks c =
    let kept : names_in c.make_mut.follows.lender-at-none ≡ names_in c.index_mut.result.now =
    elim (IfErr-at_err _ c.in_err-chunks.was c.make_mut.follows.holds-at-none) [ inl e ↦ e | inr e ↦ e ] in
    let last = same_last 256 names_in c.args.chunks.now.items c.args.len c.requires.chunks c.requires.len (omega arith)
    (omega (arith, c.if-len-eq0.false)) c.make_mut.follows.lender-at-none c.index_mut.result.now
    (kept ∙ ap names_in c.index_mut.ensures.value) in
    record { added = search rules; unchanged = always-OnErr _ last.0; chunks = last.1 }

pub returns : goal.returns
returns c =
    let h : Arc Chunk Global = c.index_mut.result.now in
    let same : c.in_ok-chunks.field-0.now ≡ names_in h = elim c.in_ok-chunks.ensures.value [ inl e ↦ e | inr e ↦ e ] in
    let ok : IsOk c.make_mut.result = search rules in
    let last = pushed_last 256 names_in c.args.chunks.now.items c.args.len c.requires.chunks c.requires.len (omega arith)
    (omega (arith, c.if-len-eq0.false)) c.push-2.result (c.make_mut.follows.lender c.push-2.new.self) h c.push-2.new.self
    c.in_ok-chunks.field-0.now c.args.name (c.make_mut.follows.holds c.push-2.new.self ok) (same ∙ ap names_in c.index_mut.ensures.value)
    c.push-2.ensures.pushed c.push-2.ensures.unchanged in
    record { added = last.0; unchanged = last.1; chunks = last.2 }
