-- The rows before a place, with their numbers.
use Rattle.std.proofs.Common.{◌≡◌, ◌<◌, ◌≤◌, ◌+◌, ◌∙◌, ◌++◌, ◌∷◌, [], ℕ, zero, suc, Bool, List, Option, Some, None, refl, sym, ap, subst, arith, add-one, length, replicate, All}
use Rattle.std.proofs.lemmas.List.{length-replicate, Elements.{All-nil, All-push}}
use Rattle.std.specs.{Prelude.slice_get}
use Rattle.graph_types.specs.{Graph.Graph, Limits.LimitsView, Step.{after, after_all, empty_graph_in}, Valid.IsValid}
use Rattle.graph_types.specs.declared.batches.NamedOp.{NamedOp}
use Rattle.vertex_names.specs.Book.{Book, empty_book}
use Rattle.batch_columns.{specs.Operations.OperationTable, proofs.OneMore.one_more}
use Rattle.opening_columns.specs.{Puts.{put_at, puts_before, graph_of_puts, IsPut}, declared.numbering.{Put.Put, Unnumbered.Unnumbered}}
use Rattle.opening_columns.specs.Numbers.{AreSeen, AreTaken, Takes, RefusesAt, RefusesBehind, RefusesNumbers, book_of}
use Rattle.opening_columns.specs.declared.numbering.Unnumbered.TheVariants.{Bad, NamesFull, KindsFull, OutOfMemory}

pub record AreNumbered (limits : LimitsView) (t : OperationTable) (place : ℕ) (names kinds : Book) (puts : List Put) : Type 0 where
  pub ops : List NamedOp
  pub are : puts_before t place ≡ Some ops
  pub valid : All IsValid ops
  pub graph : graph_of_puts t limits names.names kinds.names puts ≡ after_all ops (empty_graph_in limits)
  pub names_limit : names.limit ≡ limits.names
  pub kinds_limit : kinds.limit ≡ limits.kinds
  pub names_fit : length names.names ≤ limits.names
  pub kinds_fit : length kinds.names ≤ limits.kinds
  pub each_put : All (IsPut t) puts

-- none yet
pub none_numbered : (limits : LimitsView) (t : OperationTable) → AreNumbered limits t 0 (empty_book limits.names) (empty_book limits.kinds) []
none_numbered limits t = record {
  ops = [];
  are = refl;
  valid = All-nil IsValid;
  graph = refl;
  names_limit = refl;
  kinds_limit = refl;
  names_fit = omega arith;
  kinds_fit = omega arith;
  each_put = All-nil (IsPut t);
}

after_push : (ops : List NamedOp) (op : NamedOp) (g : Graph) → after op (after_all ops g) ≡ after_all (ops ++ op ∷ []) g
after_push [] op g = refl
after_push (x ∷ ops) op g = after_push ops op (after x g)

-- one more
pub one_numbered : (limits : LimitsView) (t : OperationTable) (place : ℕ) (names kinds names' kinds' : Book) (puts : List Put) (p : Put)
    → AreNumbered limits t place names kinds puts → Takes t place names kinds p names' kinds'
    → AreNumbered limits t (place + 1) names' kinds' (puts ++ p ∷ [])
one_numbered limits t place names kinds names' kinds' puts p is takes =
    let from : 0 + place ≡ place = omega arith in
    let names_few = takes.names_fit.1 in
    let kinds_few = takes.kinds_fit.1 in
    let names_most : names'.limit ≡ limits.names = takes.names_fit.0 ∙ is.names_limit in
    let kinds_most : kinds'.limit ≡ limits.kinds = takes.kinds_fit.0 ∙ is.kinds_limit in
    record {
      ops = is.ops ++ takes.op ∷ [];
      are = ap (puts_before t) (add-one place)
          ∙ one_more (put_at t) 0 place is.ops takes.op is.are (ap (put_at t) from ∙ takes.op_is);
      valid = All-push IsValid is.ops takes.op is.valid takes.valid;
      graph = sym (takes.leaves limits puts) ∙ ap (after takes.op) is.graph ∙ after_push is.ops takes.op (empty_graph_in limits);
      names_limit = names_most;
      kinds_limit = kinds_most;
      names_fit = omega arith;
      kinds_fit = omega arith;
      each_put = All-push (IsPut t) puts p is.each_put takes.put;
    }

-- so they are taken
taken : (limits : LimitsView) (t : OperationTable) (place : ℕ) (names kinds : Book) (puts : List Put)
    (is : AreNumbered limits t place names kinds puts) → AreTaken limits t place is.ops
taken limits t place names kinds puts is =
    let names_same = ap (λ (g : Graph). length g.names) is.graph in
    let kinds_same = ap (λ (g : Graph). length g.kinds) is.graph in
    let names_few = is.names_fit in
    let kinds_few = is.kinds_fit in
    record { are = is.are; valid = is.valid; names = omega arith; kinds = omega arith }

pub all_taken : (limits : LimitsView) (t : OperationTable) (place count : ℕ) (names kinds : Book) (puts : List Put)
    → AreNumbered limits t place names kinds puts → place ≡ count → (ops : List NamedOp) × AreTaken limits t count ops
    × (graph_of_puts t limits names.names kinds.names puts ≡ after_all ops (empty_graph_in limits))
all_taken limits t place count names kinds puts is same =
    (is.ops, subst (λ (n : ℕ). AreTaken limits t n is.ops) same (taken limits t place names kinds puts is), is.graph)

-- and where the next is refused, it is the first
refused_by : (limits : LimitsView) (t : OperationTable) (place : ℕ) (why : Unnumbered)
    → ((ops : List NamedOp) × AreTaken limits t place ops × RefusesBehind limits t place (after_all ops (empty_graph_in limits)) why)
    → RefusesAt limits t place why
refused_by limits t place Bad is = is
refused_by limits t place NamesFull is = is
refused_by limits t place KindsFull is = is
refused_by limits t place OutOfMemory is = tt

pub first_refused : (limits : LimitsView) (t : OperationTable) (place : ℕ) (names kinds : Book) (puts : List Put) (why : Unnumbered)
    → AreNumbered limits t place names kinds puts → place < length t.sorts → RefusesNumbers t place names kinds why
    → RefusesAt limits t place why
first_refused limits t place names kinds puts why is lt refuses =
    let g : Graph = after_all is.ops (empty_graph_in limits) in
    let of_names : names ≡ book_of limits.names g.names = (λ i. record {
      limit = is.names_limit i;
      names = ap (λ (h : Graph). h.names) is.graph i;
    }) in
    let of_kinds : kinds ≡ book_of limits.kinds g.kinds = (λ i. record {
      limit = is.kinds_limit i;
      names = ap (λ (h : Graph). h.kinds) is.graph i;
    }) in
    refused_by limits t place why (
      is.ops,
      taken limits t place names kinds puts is,
      (
        lt,
        subst (λ (b : Book). RefusesNumbers t place b (book_of limits.kinds g.kinds) why) of_names
            (subst (λ (b : Book). RefusesNumbers t place names b why) of_kinds refuses),
      ),
    )

-- no number is noted yet
unseen : (n entry number : ℕ) → slice_get (replicate n None) entry ≡ Some (Some number) → ⊥
unseen zero entry number is = cc
unseen (suc n) zero number is = cc
unseen (suc n) (suc entry) number is = unseen n entry number is

pub none_seen : (is_kind : Bool) (text ends : List ℕ) (names : List (List ℕ)) (n : ℕ) (seen : List (Option ℕ)) → seen ≡ replicate n None
    → AreSeen is_kind text ends names seen
none_seen is_kind text ends names n seen is entry number at =
    absurd (unseen n entry number (sym (ap (λ (s : List (Option ℕ)). slice_get s entry) is) ∙ at))

pub unseen_long : (n : ℕ) (seen : List (Option ℕ)) → seen ≡ replicate n None → length seen ≡ n
unseen_long n seen is = ap length is ∙ length-replicate n None
