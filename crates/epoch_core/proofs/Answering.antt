-- Replies are the answers to what a session asks in a run.
use Rattle.std.proofs.Common.{◌≡◌, ℕ, ◌<◌, true, false, inl, inr, List, [], ◌∷◌, ◌++◌, length, get_or, refl, sym, ap, subst}
use Rattle.std.proofs.{Common.{◌∙◌, arith, eqb}, lemmas.{Grind.common_steps, Bool.{eq-eqb, cases_eq, Decides.Decides-eqb}}}
use Rattle.std.proofs.lemmas.{Option.slice_get_within, List.{append-nil, append_assoc, get_or-set_same, get_or-set_other}}
use Rattle.std.{proofs.lemmas.List.length-set, specs.{Option.option_to_list, Prelude.{slice_get, if◌then◌else◌, MatchOption}}}
use Rattle.std.specs.{Prelude.◌==◌, List.AllZip, declared.option.Option.TheVariants.{None, Some}}
use Rattle.graph_types.proofs.OneAnswer.{one_answer}
use Rattle.graph_types.proofs.{Cases.and_then_some, Numbers.other}
use Rattle.epoch_core.specs.declared.events.Event.{Event, TheVariants.{Settle, Ask, Read, Reply, Release, Take, Fill, Post}}
use Rattle.epoch_core.specs.{declared.events.Event.TheVariants.{Floor, Recycle, Pin, Enter}, Worlds.{Answer, World}}
use Rattle.epoch_core.specs.{Runs.{AllReplies, next_world}, Machine.{Answers, IsAnswered, Question, Replies, question_in}}
use Rattle.epoch_core.{specs.Machine.question_of, proofs.Sizes.size_next}

pub same_answers : (qs : List Question) (xs ys : List Answer) → AllZip Answers qs xs → AllZip Answers qs ys → xs ≡ ys
same_answers [] [] [] a b = refl
same_answers [] [] (y ∷ ys) a b = absurd b
same_answers [] (x ∷ xs) ys a b = absurd a
same_answers (q ∷ qs) [] ys a b = absurd a
same_answers (q ∷ qs) (x ∷ xs) [] a b = absurd b
same_answers (q ∷ qs) (x ∷ xs) (y ∷ ys) a b =
    let here : x ≡ y = one_answer q.request q.graph x y a.0 b.0 in
    let rest : xs ≡ ys = same_answers qs xs ys a.1 b.1 in
    cc

answers_append : (ps qs : List Question) (xs ys : List Answer) → AllZip Answers ps xs → AllZip Answers qs ys
    → AllZip Answers (ps ++ qs) (xs ++ ys)
answers_append [] qs [] ys a b = b
answers_append [] qs (x ∷ xs) ys a b = absurd a
answers_append (p ∷ ps) qs [] ys a b = absurd a
answers_append (p ∷ ps) qs (x ∷ xs) ys a b = (a.0, answers_append ps qs xs ys a.1 b)

-- the question of session s that an event answers, and those of all events
abbrev pub asked : ℕ → World → Event → List Question
asked s w (Reply t) = if t == s then option_to_list (question_of w s) else []
asked s w _ = []

abbrev pub all_asked : ℕ → World → List Event → List Question
all_asked s w [] = []
all_asked s w (e ∷ es) = asked s w e ++ all_asked s (next_world w e) es

-- what these questions add to the replies of session s
pub record Adds (s : ℕ) (qs : List Question) (old new : List (List Answer)) : Type 0 where
  pub more : List Answer
  pub added : get_or new s [] ≡ get_or old s [] ++ more
  pub answers : AllZip Answers qs more
  pub size : length new ≡ length old

adds_none : (s : ℕ) (old new : List (List Answer)) → new ≡ old → Adds s [] old new
adds_none s old new same = grind (arith, common_steps)

-- the session of a question is there
asks_within : (w : World) (s : ℕ) (q : Question) → question_of w s ≡ Some q → s < length w.sessions
asks_within w s q is = let found = and_then_some (question_in w.opening w.versions) (slice_get w.sessions s) q is in
    slice_get_within w.sessions s found.0 found.1

adds_reply : (s t : ℕ) (w : World) (old new : List (List Answer)) → length old ≡ length w.sessions
    → Replies w (Reply t) old new → Adds s (asked s w (Reply t)) old new
adds_reply s t w old new size is =
    elim (question_of w t) as (λ o. question_of w t ≡ o → MatchOption o (new ≡ old) (λ q. IsAnswered t q old new)
    → Adds s (asked s w (Reply t)) old new) [
      | None ↦ λ none same.
          let no : asked s w (Reply t) ≡ [] = elim (eqb t s) as
          (λ b. eqb t s ≡ b → (if b then option_to_list (question_of w s) else []) ≡ []) [
            | true ↦ λ at. let e : t ≡ s = (Decides-eqb t s).0 at in ap option_to_list (ap (question_of w) (sym e) ∙ none)
            | false ↦ λ _. refl
          ] refl in
          subst (λ qs. Adds s qs old new) (sym no) (adds_none s old new same)
      | Some q ↦ λ some done.
          elim (cases_eq t s) [
            | inl e ↦
                let one : asked s w (Reply t) ≡ q ∷ [] =
                ap (λ b. if b then option_to_list (question_of w s) else []) (eq-eqb t s e)
                ∙ ap option_to_list (ap (question_of w) (sym e) ∙ some) in
                let lt : t < length old = omega (arith, size, asks_within w t q some) in
                let at : get_or new t [] ≡ get_or old t [] ++ done.0 ∷ [] =
                ap (λ rs. get_or rs t []) done.2 ∙ get_or-set_same old t (get_or old t [] ++ done.0 ∷ []) [] lt in
                subst (λ qs. Adds s qs old new) (sym one) (record {
                  more = done.0 ∷ [];
                  added = subst (λ u. get_or new u [] ≡ get_or old u [] ++ done.0 ∷ []) e at;
                  answers = (done.1, tt);
                  size = ap length done.2 ∙ length-set old t (get_or old t [] ++ done.0 ∷ []);
                })
            | inr ne ↦
                let none : asked s w (Reply t) ≡ [] = ap (λ b. if b then option_to_list (question_of w s) else [])
                (other t s ne) in
                subst (λ qs. Adds s qs old new) (sym none) (record {
                  more = [];
                  added = ap (λ rs. get_or rs s []) done.2
                      ∙ get_or-set_other old t s (get_or old t [] ++ done.0 ∷ []) [] (λ e. ne (sym e))
                      ∙ sym (append-nil (get_or old s []));
                  answers = tt;
                  size = ap length done.2 ∙ length-set old t (get_or old t [] ++ done.0 ∷ []);
                })
          ]
    ] refl is

pub adds : (s : ℕ) (w : World) (e : Event) (old new : List (List Answer)) → length old ≡ length w.sessions
    → Replies w e old new → Adds s (asked s w e) old new
adds s w (Take b) old new size is = adds_none s old new is
adds s w (Fill b edges) old new size is = adds_none s old new is
adds s w (Post batch blocks) old new size is = adds_none s old new is
adds s w Floor old new size is = adds_none s old new is
adds s w (Recycle b) old new size is = adds_none s old new is
adds s w (Pin t) old new size is = adds_none s old new is
adds s w (Enter t) old new size is = adds_none s old new is
adds s w (Settle t) old new size is = adds_none s old new is
adds s w (Ask t request) old new size is = adds_none s old new is
adds s w (Read t) old new size is = adds_none s old new is
adds s w (Reply t) old new size is = adds_reply s t w old new size is
adds s w (Release t) old new size is = adds_none s old new is

pub adds_all : (s : ℕ) (w : World) (events : List Event) (old new : List (List Answer)) → length old ≡ length w.sessions
    → AllReplies w events old new → Adds s (all_asked s w events) old new
adds_all s w [] old new size is = adds_none s old new is
adds_all s w (e ∷ es) old new size is =
    let here : Adds s (asked s w e) old is.0 = adds s w e old is.0 size is.1 in
    let many : length is.0 ≡ length (next_world w e).sessions = here.size ∙ size ∙ sym (size_next w e).sessions in
    let rest : Adds s (all_asked s (next_world w e) es) is.0 new = adds_all s (next_world w e) es is.0 new many is.2 in
    record {
      more = here.more ++ rest.more;
      added = rest.added ∙ ap (λ rs. rs ++ rest.more) here.added ∙ append_assoc (get_or old s []) here.more rest.more;
      answers = answers_append (asked s w e) (all_asked s (next_world w e) es) here.more rest.more here.answers rest.answers;
      size = rest.size ∙ here.size;
    }
