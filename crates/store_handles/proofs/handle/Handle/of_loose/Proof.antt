-- `of_loose` hands on what the parts of a box own: a handle that holds what was in the box owns the same.
use Rattle.std.proofs.Common.{[], ◌∷◌, Some, refl}
use Rattle.std.proofs.raw_atomic.Walks.{proved}
use base.Fml.{ftrue}
use base.Logic.{id⊢}
use types.Kit.{‵, ◌⊛◌, ◌$◌, ◌∵◌, !, qed, done, move, drop, use1, split, join, suffices}
use types.Part.{whole, sub, agg}
use types.Run.{enter, of_opd, stop, fld, no_more, and_then, returns}
use types.ByLocal.{alloc_all, pass_all, free_all, look_at, get, get_in, sets}
use contract.Running.{tables}
use denote.Exit.{yes}
use denote.Laws.{Is, Tells}
use denote.RattleType.{RattleType}
use denote.Signature.{plain}
use denote.Steps.{nothing}
use denote.Triple.Walked.{Stays, walk_of, says, stay_dropped, Goes-dropped, ends_at}
use Rattle.std_heap.specs.contracts.Global as heap
use Rattle.std_heap.specs.contracts.GlobalAllocator.TheImpl.{ghosts}
use Rattle.store_handles.specs.contracts.held.Held as held
use Rattle.store_handles.specs.contracts.handle.Handle as handle
use Rattle.store_handles.specs.contracts.loose.Loose as loose
use Rattle.store_handles.specs.contracts.handle.Handle.of_loose as called
use Rattle.store_handles.proofs.Pointers.{pointer_fits, pair, pair_fits}
use Rattle.std_heap.proofs.Global.TheLaws as heap_laws
use Rattle.std_heap.proofs.Handle.{heap_val, heap_Tells}
use Rattle.store_handles.proofs.held.Held.TheLaws as held_laws
use Rattle.store_handles.proofs.loose.Loose.TheLaws as loose_laws
use Rattle.store_handles.proofs.handle.Handle.of_loose.Statement.{statement}
use Rattle.store_handles.proofs.handle.Handle.of_loose.Code as code

abbrev Parts : RattleType
Parts = loose.the_row held.the_row heap.the_row ghosts

abbrev stays : Stays called.ended.signature.params called.ended.kept
stays = (stay_dropped (plain (λ _. Parts)) yes, tt)

parts_tell : Tells Parts (Is Parts) (λ p. pair p.at ∷ [])
parts_tell =
    (loose_laws.lowers held.the_row heap.the_row ghosts held_laws.the_row_laws heap_laws.the_row_laws
    (record { val = λ _. heap_val; tells = heap_Tells })).val_is

pub of_loose_spec : {M : Type 1} → statement M
of_loose_spec 𝓤 𝓛 𝓜 𝓡 wired =
    let clauses = called.clauses 𝓛 𝓜.mem 𝓡.returns in
    proved 𝓛 called.ended stays clauses 𝓜 𝓡 (Goes-dropped 𝓛 0 (plain (λ _. Parts)) yes (λ κs x w. refl), tt)
    called.Key.name code.function (code.unfolded 𝓤 𝓛.H 𝓜 𝓡 wired)
    (λ κs. ((λ p. pair p.at ∷ []), tt)) (λ κs. (parts_tell, tt)) (λ κs qs bounds passed _ fits.
    let parts = passed.0 in
    let word = pair parts.at in
    let made : (handle.the_row).Denot = record { at = parts.at; alloc = parts.alloc; held = Some parts.inside } in
    qed 𝓛 ((‵ ftrue ⊛ (‵ (Parts.own_val parts (word ∷ [])) ⊛ ‵ ftrue)) ∷ ‵ ftrue ∷ []) ∵
    split ! $ drop ! $ split ! $ move ! (1 ∷ 2 ∷ []) $ drop ! $ drop ! $
    -- [what the parts own]
    enter ! _ _ _ _ _ $ alloc_all ! (λ l. pass_all ! refl (pair_fits parts.at, tt) $
    sets ! (of_opd ! (get_in ! (fld ! refl (stop !)) (sub ! 0 refl (whole !)))) refl (pointer_fits parts.at) $
    sets ! (of_opd ! (get_in ! (fld ! refl (stop !)) (sub ! 1 refl (whole !)))) refl (tt, ((tt, tt), tt)) $
    sets ! (of_opd ! (get ! refl)) refl (pointer_fits parts.at) $
    sets ! (agg ! (and_then ! (get ! refl) (and_then ! (get ! refl) (no_more !)))) refl (pair_fits parts.at) $
    returns ! (look_at ! 0 refl) $ free_all ! refl $
    use1 𝓛 (‵ ((handle.the_row).own_val made (word ∷ []))) (id⊢ 𝓤 _) $
    suffices ! _ (ends_at 𝓛 called.ended stays clauses ((κs, qs, bounds, passed, (word ∷ [], tt)), tt) word made (tt, tt) (tt, tt)) $ says ! refl $
    nothing ! $ nothing ! $ join ! $ nothing ! $ done !))
