-- `empty` makes the handle of a null pointer, which owns nothing.
use Rattle.std.proofs.Common.{◌≡◌, List, [], ◌∷◌, None, refl, lit<}
use Rattle.std.proofs.raw_atomic.Walks.{proved}
use mir.Val.{Val, vnull}
use base.Fml.{ftrue}
use types.Kit.{‵, raw, ◌⊛◌, ◌$◌, ◌∵◌, !, qed, done, move, drop, split, join, fsplit, fjoin, feq_i, fpack, suffices}
use types.Part.{agg}
use types.Run.{enter, of_opd, lit, no_more, and_then, returns}
use types.ByLocal.{alloc_all, pass_all, free_all, look_at, get, sets}
use contract.Running.{tables}
use denote.Exit.{yes}
use denote.RattleType.{Valss}
use denote.RawPtr.{null_ptr}
use denote.Signature.{plain}
use denote.Steps.{nothing}
use denote.Struct.Struct.{within}
use denote.Struct.Owning.{fields, shape, to}
use denote.Triple.Walked.{Stays, walk_of, says, stay_dropped, Goes-dropped, ends_at}
use Rattle.std_heap.specs.contracts.Global as heap
use Rattle.std_heap.proofs.Handle.{heap_val, heap_Tells}
use Rattle.store_handles.specs.contracts.handle.Handle as handle
use Rattle.store_handles.specs.contracts.handle.Handle.empty as called
use Rattle.store_handles.proofs.handle.Handle.TheLaws.{lowered}
use Rattle.store_handles.proofs.handle.Handle.empty.Statement.{statement}
use Rattle.store_handles.proofs.handle.Handle.empty.Code as code

abbrev stays : Stays called.ended.signature.params called.ended.kept
stays = (stay_dropped (plain (λ _. heap.the_row)) yes, tt)

pub empty_spec : {M : Type 1} → statement M
empty_spec 𝓤 𝓛 𝓜 𝓡 wired =
    let clauses = called.clauses 𝓛 𝓜.mem 𝓡.returns in
    proved 𝓛 called.ended stays clauses 𝓜 𝓡 (Goes-dropped 𝓛 0 (plain (λ _. heap.the_row)) yes (λ κs x w. refl), tt)
    called.Key.name code.function (code.unfolded 𝓤 𝓛.H 𝓜 𝓡 wired)
    (λ κs. ((λ _. heap_val ∷ []), tt)) (λ κs. (heap_Tells, tt)) (λ κs qs bounds passed _ fits.
    let made : (handle.the_row).Denot = record { at = null_ptr; alloc = passed.0; held = None } in
    let word = lowered made in
    qed 𝓛 ((‵ ftrue ⊛ (‵ ((heap.the_row).own_val passed.0 (heap_val ∷ [])) ⊛ ‵ ftrue)) ∷ ‵ ftrue ∷ []) ∵
    split ! $ drop ! $ split ! $
    -- [the allocator; nothing; nothing]
    enter ! _ _ _ _ _ $ alloc_all ! (λ l. pass_all ! refl ((tt, ((tt, tt), tt)), tt) $
    sets ! (of_opd ! (lit ! tt)) refl (tt, record { fits = lit< tt }) $
    sets ! (agg ! (and_then ! (get ! refl) (and_then ! (get ! refl) (no_more !)))) refl (tt, (record { fits = lit< tt }, (((tt, tt), tt), tt))) $
    returns ! (look_at ! 0 refl) $ free_all ! refl $
    suffices ! _ (ends_at 𝓛 called.ended stays clauses ((κs, qs, bounds, passed, (heap_val ∷ [], tt)), tt) word made (tt, tt) (tt, tt)) $ says ! refl $
    nothing ! $ move ! (1 ∷ 0 ∷ []) $ fjoin ! $ feq_i ! (List Val) (vnull ∷ []) (vnull ∷ []) refl $ fjoin ! $
    feq_i ! (List Val) (word ∷ []) (word ∷ []) refl $ fjoin ! $
    fpack ! (Valss (fields handle.the_type)) (within (shape handle.the_type) (to handle.the_type made) (word ∷ [])) (vnull ∷ [], (heap_val ∷ [], tt)) $
    nothing ! $ fpack ! (null_ptr ≡ null_ptr) (λ _. ftrue) refl $ move ! (1 ∷ 0 ∷ []) $ fjoin ! $
    -- [the handle; nothing; nothing]
    move ! (1 ∷ 2 ∷ []) $ drop ! $ drop ! $
    nothing ! $ nothing ! $ join ! $ nothing ! $ done !))
