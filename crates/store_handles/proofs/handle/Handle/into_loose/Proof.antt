-- `into_loose` hands on what the handle owns: a handle that holds something owns what the parts of its box do.
use Rattle.std.proofs.Common.{[], ◌∷◌, Option, IsSome, refl}
use Rattle.std.proofs.raw_atomic.Walks.{proved}
use base.Fml.{ftrue}
use base.Logic.{id⊢}
use types.Kit.{‵, raw, ◌⊛◌, ◌$◌, ◌∵◌, !, qed, done, move, drop, use1, split, join, rewrite, suffices}
use types.Part.{whole, sub, agg}
use types.Run.{enter, of_opd, stop, fld, no_more, and_then, returns}
use types.ByLocal.{alloc_all, pass_all, free_all, look_at, get, get_in, sets}
use contract.Monad.{fact}
use contract.Running.{tables}
use denote.Exit.{yes}
use denote.Signature.{plain}
use denote.Steps.{heard, nothing}
use denote.Triple.Walked.{Stays, walk_of, says, stay_dropped, Goes-dropped, ends_at}
use Rattle.std_heap.specs.contracts.Global as heap
use Rattle.std_heap.specs.contracts.GlobalAllocator.TheImpl.{ghosts}
use Rattle.store_handles.specs.contracts.held.Held as held
use Rattle.store_handles.specs.contracts.handle.Handle as handle
use Rattle.store_handles.specs.contracts.loose.Loose as loose
use Rattle.store_handles.specs.contracts.handle.Handle.into_loose as called
use Rattle.store_handles.proofs.Pointers.{found, pointer_fits, pair_fits}
use Rattle.store_handles.proofs.handle.Handle.TheLaws.{lowered, lowers}
use Rattle.store_handles.proofs.handle.Handle.into_loose.Statement.{statement}
use Rattle.store_handles.proofs.handle.Handle.into_loose.Code as code

abbrev stays : Stays called.ended.signature.params called.ended.kept
stays = (stay_dropped (plain (λ _. handle.the_row)) yes, tt)

pub into_loose_spec : {M : Type 1} → statement M
into_loose_spec 𝓤 𝓛 𝓜 𝓡 wired =
    let clauses = called.clauses 𝓛 𝓜.mem 𝓡.returns in
    proved 𝓛 called.ended stays clauses 𝓜 𝓡 (Goes-dropped 𝓛 0 (plain (λ _. handle.the_row)) yes (λ κs x w. refl), tt)
    called.Key.name code.function (code.unfolded 𝓤 𝓛.H 𝓜 𝓡 wired)
    (λ κs. ((λ h. lowered h ∷ []), tt)) (λ κs. (lowers.val_is, tt)) (λ κs qs bounds passed _ fits.
    let self = passed.0 in
    let word = lowered self in
    let From = handle.the_row in
    let To = loose.the_row held.the_row heap.the_row ghosts in
    qed 𝓛 ((‵ ftrue ⊛ (‵ (From.own_val self (word ∷ [])) ⊛ ‵ ftrue)) ∷ raw (fact 𝓤 (IsSome self.held)) ∷ []) ∵
    move ! (1 ∷ []) $ heard ! (IsSome self.held) (λ some. split ! $ drop ! $ split ! $ move ! (1 ∷ []) $ drop ! $
    let inside = found self.held some in
    let made : To.Denot = record { at = self.at; alloc = self.alloc; inside = inside.0 } in
    -- [what the handle owns]
    enter ! _ _ _ _ _ $ alloc_all ! (λ l. pass_all ! refl (pair_fits self.at, tt) $
    sets ! (of_opd ! (get_in ! (fld ! refl (stop !)) (sub ! 0 refl (whole !)))) refl (pointer_fits self.at) $
    sets ! (of_opd ! (get_in ! (fld ! refl (stop !)) (sub ! 1 refl (whole !)))) refl (tt, ((tt, tt), tt)) $
    sets ! (of_opd ! (get ! refl)) refl (pointer_fits self.at) $
    sets ! (agg ! (and_then ! (get ! refl) (and_then ! (get ! refl) (no_more !)))) refl (pair_fits self.at) $
    returns ! (look_at ! 0 refl) $ free_all ! refl $
    rewrite ! 0 (λ (o : Option held.the_row.Denot). ‵ (From.own_val (record self { held = o }) (word ∷ []))) inside.1 refl $
    use1 𝓛 (‵ (To.own_val made (word ∷ []))) (id⊢ 𝓤 _) $
    suffices ! _ (ends_at 𝓛 called.ended stays clauses ((κs, qs, bounds, passed, (word ∷ [], tt)), tt) word made (tt, tt) (tt, tt)) $ says ! inside.1 $
    nothing ! $ nothing ! $ join ! $ nothing ! $ done !)))
