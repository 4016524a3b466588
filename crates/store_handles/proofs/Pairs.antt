-- A pointer and an allocator side by side, as a tuple and a struct of the two have them.
use Rattle.std.proofs.Common.{◌≡◌, ℕ, List, [], ◌∷◌, ◌++◌, T, ◌&&◌, true, refl, ap, subst, sym, ◌∙◌, lit<}
use seplogic.Ra.Ura.{Ura}
use mir.Syntax.{Ty, ty_ptr}
use mir.Val.{Val, vstruct, vcons, vnil, of_list, has_ty, WT}
use base.Fml.{Fml, ftrue, fsep, fex, feq}
use types.Logic.{Logic}
use types.Kit.{Goal, Seq, Step, step, Item, ‵, ◌$◌, !, move, drop, fsplit, fjoin, fpick, fpack, feq_i, feq_l}
use denote.Laws.{Typed}
use denote.RattleType.{Valss}
use denote.RawPtr.{Ptr, RawPtr, block_ptr, null_ptr, ptr_val}
use denote.Param.{param}
use denote.Steps.{nothing}
use Rattle.core.proofs.alloc.Calls.{Al, α, Fits, handle_tells}
use Rattle.std_alloc.proofs.ResultValues.{and_tt}

-- of one type there is one value
pub one_value : (τ : Ty) (vs : List Val) → Typed (τ ∷ []) vs → (u : Val) × (vs ≡ u ∷ []) × (T (has_ty τ u) × WT u)
one_value τ [] typed = absurd typed
one_value τ (u ∷ []) typed = (u, refl, typed.0)
one_value τ (u ∷ v ∷ vs) typed = absurd typed.1

module _ (Z : Al) where
  -- the machine value, given the allocator's
  abbrev pub word : Ptr → Val → Val
  word p held = vstruct (vcons (ptr_val p) (vcons held vnil))

  pub word_fits : (p : Ptr) (held : Val) → Fits Z held
      → T (has_ty ty_ptr (ptr_val p) && (has_ty (α Z) held && true)) × WT (word p held)
  word_fits (block_ptr b o) held fits = (and_tt (has_ty (α Z) held) fits.0, (tt, (fits.1, tt)))
  word_fits null_ptr held fits = (and_tt (has_ty (α Z) held) fits.0, (record { fits = lit< tt }, (fits.1, tt)))

  -- what the two own
  abbrev pub pair_owns : Ptr → Z.row.Denot → List Val → Fml
  pair_owns p a vs =
      fex (Valss (RawPtr ∷ param 1 Z.row ∷ [])) (λ vss. fsep (feq (List Val) vs (vstruct (of_list (vss.0 ++ (vss.1.0 ++ []))) ∷ []))
      (fsep (feq (List Val) vss.0 (ptr_val p ∷ [])) (fsep (Z.row.own_val a vss.1.0) ftrue)))

  module _ {M : Type 1} {𝓤 : Ura M} {𝓛 : Logic 𝓤} {K : Type 0} {Γ : List (Item 𝓤)} {G : Goal 𝓤 𝓛.H} where
    pub pair_out : K → (p : Ptr) (a : Z.row.Denot) (vs : List Val)
        → ((held : Val) → vs ≡ word p held ∷ [] → Fits Z held → Seq K 𝓛 (‵ (Z.row.own_val a (held ∷ [])) ∷ Γ) G)
        → Seq K 𝓛 (‵ (pair_owns p a vs) ∷ Γ) G
    pair_out t p a vs then = fpick t (λ vss. fsplit t $ feq_l t (λ whole. fsplit t $ feq_l t (λ first. fsplit t $
        handle_tells Z t a vss.1.0 (λ held second fits. move t (1 ∷ []) $ drop t $
        then held (whole ∙ (λ i. vstruct (of_list (first i ++ (second i ++ []))) ∷ [])) fits))))

    pub pair_in : K → (p : Ptr) (a : Z.row.Denot) (held : Val)
        → Step K 𝓛 (‵ (pair_owns p a (word p held ∷ [])) ∷ Γ) G (‵ (Z.row.own_val a (held ∷ [])) ∷ Γ) G
    pair_in t p a held = step (λ rest.
        nothing t $ move t (1 ∷ 0 ∷ []) $ fjoin t $ feq_i t (List Val) (ptr_val p ∷ []) (ptr_val p ∷ []) refl $ fjoin t $
        feq_i t (List Val) (word p held ∷ []) (word p held ∷ []) refl $ fjoin t $
        fpack t (Valss (RawPtr ∷ param 1 Z.row ∷ [])) (λ vss. fsep (feq (List Val) (word p held ∷ []) (vstruct (of_list (vss.0 ++ (vss.1.0 ++ []))) ∷ []))
        (fsep (feq (List Val) vss.0 (ptr_val p ∷ [])) (fsep (Z.row.own_val a vss.1.0) ftrue))) (ptr_val p ∷ [], (held ∷ [], tt)) $ rest)
