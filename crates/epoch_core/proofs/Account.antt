-- What a session asks in a run is what its holdings say.
use Rattle.std.proofs.Common.{◌≡◌, ℕ, ◌≤◌, Bool, inl, inr, List, [], ◌∷◌, ◌++◌, length, get_or, set, map, replicate, refl, sym}
use Rattle.std.proofs.{Common.{ap, subst, ◌∙◌, arith}, lemmas.{Bool.{eq-eqb, cases_eq}, Grind.common_steps}}
use Rattle.std.{proofs.lemmas.List.length-replicate, specs.{List.AllZip, Prelude.{if◌then◌else◌, ◌==◌, is_some}}}
use Rattle.std.specs.{Option.{option_map, option_to_list, unwrap_or, option_and_then}, declared.option.Option.Option}
use Rattle.std.specs.declared.option.Option.TheVariants.{None, Some}
use Rattle.graph_types.specs.Graph.{unlimited}
use Rattle.graph_types.specs.{Graph.Graph, declared.ids.Edge.Edge, declared.requests.Request.Request}
use Rattle.epoch_core.specs.declared.{states.{Version.Version, Opening.Opening}, session_states.SessionState.SessionState}
use Rattle.epoch_core.specs.declared.events.Event.{Event, TheVariants.{Reply, Release, Take, Fill, Post, Floor, Recycle, Pin}}
use Rattle.epoch_core.specs.{declared.events.Event.TheVariants.{Enter, Settle, Ask, Read}, Versions.graph_at, Posting.can_post}
use Rattle.epoch_core.specs.{Posting.version_by, Blocks.{changed_at, filled_heap, status_taken, reclaimed}, Worlds.{session_of, start}}
use Rattle.epoch_core.specs.Worlds.{Answer, IsStart, MachineState, World, held_in, last_graph, last_number, replies_of}
use Rattle.epoch_core.specs.{Posts.posted, Runs.{Runs, is_done, next_world}, Sound.{IsSessionSound, IsSound}, Machine.with_status}
use Rattle.epoch_core.specs.Machine.{Answers, Question, move, question_in, question_of, to_ask, to_enter, to_pin, to_read}
use Rattle.epoch_core.specs.{Machine.{to_release, to_reply, to_settle, with_heap, with_sessions}, Holdings.{Entered, Observation}}
use Rattle.epoch_core.specs.Holdings.{Released, Replied, answered_first, holdings, holdings_of, observations, observed_at}
use Rattle.epoch_core.specs.Holdings.{questions, request_in}
use Rattle.epoch_core.proofs.{Changes.graph_before, Steps.{sound_next, sound_start, idle_at}, Moves.{Moved, moved, session_after}}
use Rattle.epoch_core.proofs.{Moves.session_else, Answering.{asked, all_asked, Adds, adds_all, same_answers}}
use Rattle.block_reclamation.specs.declared.status.BlockStatus.{BlockStatus}
use Rattle.graph_types.proofs.Numbers.{other}

abbrev question_on : Graph → Request → Question
question_on g request = record { request = request; graph = g }

-- the questions of the holding that goes on
abbrev here : Opening → List Version → Option ℕ → List Observation → List Question
here opening versions None rest = []
here opening versions (Some n) rest = map (question_on (unlimited (graph_at opening versions n))) (answered_first rest)

-- all questions that are still to come
abbrev owed : Opening → List Version → Option ℕ → List Observation → List Question
owed opening versions held rest = here opening versions held rest ++ questions (holdings_of rest)

abbrev owed_to : ℕ → World → List Observation → List Question
owed_to s w rest = owed w.opening w.versions (held_in (session_of w s)) rest

-- a change that leaves the session and its version alone
pub record Calm (s : ℕ) (old new : World) : Type 0 where
  pub held : held_in (session_of new s) ≡ held_in (session_of old s)
  pub graphs : (n : ℕ) → n ≤ last_number old → graph_at new.opening new.versions n ≡ graph_at old.opening old.versions n

held_low : (w : World) (session : SessionState) (n : ℕ) → IsSessionSound w session → held_in session ≡ Some n → n ≤ last_number w
held_low w session n p is = grind (arith, common_steps)

owed_same : (old new : World) (held : Option ℕ) (rest : List Observation) → ((n : ℕ) → held ≡ Some n → n ≤ last_number old)
    → ((n : ℕ) → n ≤ last_number old → graph_at new.opening new.versions n ≡ graph_at old.opening old.versions n)
    → owed new.opening new.versions held rest ≡ owed old.opening old.versions held rest
owed_same old new held rest low graphs = grind (arith, common_steps)

calm_owed : (s : ℕ) (old new : World) (rest : List Observation) → IsSound old → Calm s old new → owed_to s new rest
    ≡ owed_to s old rest
calm_owed s old new rest sound calm =
    ap (λ held. owed new.opening new.versions held rest) calm.held ∙ owed_same old new (held_in (session_of old s)) rest
    (λ n is. held_low old (session_of old s) n (sound.sessions s) is) calm.graphs

calm_itself : (s : ℕ) (w : World) → Calm s w w
calm_itself s w = record { held = refl; graphs = λ n _. refl }

no_observations : (b : Bool) (rest : List Observation) → (if b then [] else []) ++ rest ≡ rest
no_observations b rest = grind (arith, common_steps)

calm_status : (s : ℕ) (w : World) (o : Option (List BlockStatus)) → Calm s w (unwrap_or (option_map (with_status w) o) w)
calm_status s w o = grind (arith, common_steps)

calm_heap : (s : ℕ) (w : World) (o : Option (List (List Edge))) → Calm s w (unwrap_or (option_map (with_heap w) o) w)
calm_heap s w o = grind (arith, common_steps)

calm_if : (s : ℕ) (b : Bool) (w new : World) → Calm s w new → Calm s w (unwrap_or (if b then Some new else None) w)
calm_if s b w new calm = grind (arith, common_steps)

-- a move after which the session holds what it held
calm_move : (s t : ℕ) (w : World) (change : SessionState → Option SessionState)
    → ((p q : SessionState) → change p ≡ Some q → held_in q ≡ held_in p) → Calm s w (unwrap_or (move w t change) w)
calm_move s t w change same =
    elim (move w t change) as (λ o. move w t change ≡ o → Calm s w (unwrap_or o w)) [
      | None ↦ λ _. calm_itself s w
      | Some after ↦ λ is.
          let m : Moved w t change after = moved w t change after is in
          subst (Calm s w) (sym m.result) (record {
            held = elim (cases_eq s t) [
              | inl e ↦ ap (λ u. held_in (session_of (with_sessions w (set w.sessions t m.next)) u)) e
                  ∙ ap held_in (session_after w t m.session m.next m.found) ∙ same m.session m.next m.changed
                  ∙ ap held_in (sym m.at) ∙ ap (λ u. held_in (session_of w u)) (sym e)
              | inr ne ↦ ap held_in (session_else w t s m.next ne)
            ];
            graphs = λ n _. refl;
          })
    ] refl

same_pin : (floor : ℕ) (p q : SessionState) → to_pin floor p ≡ Some q → held_in q ≡ held_in p
same_pin floor p q is = grind (arith, common_steps)

same_settle : (p q : SessionState) → to_settle p ≡ Some q → held_in q ≡ held_in p
same_settle p q is = grind (arith, common_steps)

same_ask : (request : Request) (p q : SessionState) → to_ask request p ≡ Some q → held_in q ≡ held_in p
same_ask request p q is = grind (arith, common_steps)

same_read : (o : Opening) (heap : List (List Edge)) (versions : List Version) (p q : SessionState)
    → to_read o heap versions p ≡ Some q → held_in q ≡ held_in p
same_read o heap versions p q is = grind (arith, common_steps)

-- what an event says of the questions still to come
abbrev Accounts : ℕ → World → Event → List Observation → Type 0
Accounts s w e rest = asked s w e ++ owed_to s (next_world w e) rest
    ≡ owed_to s w ((if is_done w e then observed_at s w e else []) ++ rest)

calm_accounts : (s : ℕ) (w new : World) (rest : List Observation) (b : Bool) → IsSound w → Calm s w new → owed_to s new rest
    ≡ owed_to s w ((if b then [] else []) ++ rest)
calm_accounts s w new rest b sound calm = calm_owed s w new rest sound calm ∙ ap (owed_to s w) (sym (no_observations b rest))

-- an Enter
entering : (s : ℕ) (w : World) (p q : SessionState) (rest : List Observation) → to_enter (last_number w) p ≡ Some q
    → owed w.opening w.versions (held_in q) rest ≡ owed w.opening w.versions (held_in p) (Entered (unlimited (last_graph w)) ∷ rest)
entering s w p q rest is = grind (arith, common_steps)

-- a Release
releasing : (w : World) (p q : SessionState) (rest : List Observation) → to_release p ≡ Some q
    → owed w.opening w.versions (held_in q) rest ≡ owed w.opening w.versions (held_in p) (Released ∷ rest)
releasing w p q rest is = grind (arith, common_steps)

-- a move of session t with a sight of its own, as session s sees it
seen_move : (s t : ℕ) (w : World) (change : SessionState → Option SessionState) (bring : List Observation)
    (rest : List Observation) → IsSound w → ((p q : SessionState) → change p ≡ Some q → owed w.opening w.versions (held_in q) rest
    ≡ owed w.opening w.versions (held_in p) (bring ++ rest)) → owed_to s (unwrap_or (move w t change) w) rest ≡ owed_to s w
    ((if is_some (move w t change) then (if t == s then bring else []) else []) ++ rest)
seen_move s t w change bring rest sound same =
    elim (move w t change) as (λ o. move w t change ≡ o → owed_to s (unwrap_or o w) rest
    ≡ owed_to s w ((if is_some o then (if t == s then bring else []) else []) ++ rest)) [
      | None ↦ λ _. refl
      | Some after ↦ λ is.
          let m : Moved w t change after = moved w t change after is in
          subst (λ v. owed_to s v rest ≡ owed_to s w ((if t == s then bring else []) ++ rest)) (sym m.result)
          (elim (cases_eq t s) [
            | inl e ↦
                ap (λ u. owed w.opening w.versions (held_in
                (session_of (with_sessions w (set w.sessions t m.next)) u)) rest) (sym e)
                ∙ ap (λ p. owed w.opening w.versions (held_in p) rest) (session_after w t m.session m.next m.found)
                ∙ same m.session m.next m.changed ∙ ap (λ p. owed w.opening w.versions (held_in p) (bring ++ rest)) (sym m.at)
                ∙ ap (λ u. owed w.opening w.versions (held_in (session_of w u)) (bring ++ rest)) e
                ∙ ap (λ b. owed_to s w ((if b then bring else []) ++ rest)) (sym (eq-eqb t s e))
            | inr ne ↦
                ap (λ p. owed w.opening w.versions (held_in p) rest) (session_else w t s m.next (λ e. ne (sym e)))
                ∙ ap (λ b. owed_to s w ((if b then bring else []) ++ rest)) (sym (other t s ne))
          ])
    ] refl

-- the question of a session that replies, or none
replied : (w : World) (p q : SessionState) (rest : List Observation) → IsSound w → IsSessionSound w p
    → to_reply w.opening w.versions p ≡ Some q
    → option_to_list (question_in w.opening w.versions p) ++ owed w.opening w.versions (held_in q) rest
    ≡ owed w.opening w.versions (held_in p) (map Replied (request_in p) ++ rest)
replied w p q rest sound known is = grind (arith, common_steps)

-- a skipped move observed_at no question
no_question : (w : World) (t : ℕ) → move w t (to_reply w.opening w.versions) ≡ None → question_of w t ≡ None
no_question w t is = grind (arith, common_steps)

replying_accounts : (s t : ℕ) (w : World) (rest : List Observation) → IsSound w → Accounts s w (Reply t) rest
replying_accounts s t w rest sound =
    elim (move w t (to_reply w.opening w.versions)) as (λ o. move w t (to_reply w.opening w.versions) ≡ o
    → (if t == s then option_to_list (question_of w s) else []) ++ owed_to s (unwrap_or o w) rest
    ≡ owed_to s w ((if is_some o then (if t == s then map Replied (request_in (session_of w s)) else []) else [])
    ++ rest)) [
      | None ↦ λ none.
          elim (cases_eq t s) [
            | inl e ↦ ap (λ b. (if b then option_to_list (question_of w s) else []) ++ owed_to s w rest) (eq-eqb t s e)
                ∙ ap (λ o. option_to_list o ++ owed_to s w rest) (ap (question_of w) (sym e) ∙ no_question w t none)
            | inr ne ↦ ap (λ b. (if b then option_to_list (question_of w s) else []) ++ owed_to s w rest) (other t s ne)
          ]
      | Some after ↦ λ is.
          let m : Moved w t (to_reply w.opening w.versions) after = moved w t (to_reply w.opening w.versions) after is in
          subst (λ v. (if t == s then option_to_list (question_of w s) else []) ++ owed_to s v rest
          ≡ owed_to s w ((if t == s then map Replied (request_in (session_of w s)) else []) ++ rest)) (sym m.result)
          (elim (cases_eq t s) [
            | inl e ↦
                let q : question_of w s ≡ question_in w.opening w.versions m.session =
                ap (question_of w) (sym e) ∙ ap (option_and_then (question_in w.opening w.versions)) m.found in
                let at : session_of w s ≡ m.session = ap (session_of w) (sym e) ∙ m.at in
                let to : session_of (with_sessions w (set w.sessions t m.next)) s ≡ m.next =
                ap (session_of (with_sessions w (set w.sessions t m.next))) (sym e)
                ∙ session_after w t m.session m.next m.found in
                ap (λ b. (if b then option_to_list (question_of w s) else [])
                ++ owed_to s (with_sessions w (set w.sessions t m.next)) rest) (eq-eqb t s e)
                ∙ ap (λ o. option_to_list o ++ owed_to s (with_sessions w (set w.sessions t m.next)) rest) q
                ∙ ap (λ p. option_to_list (question_in w.opening w.versions m.session)
                ++ owed w.opening w.versions (held_in p) rest) to
                ∙ replied w m.session m.next rest sound (subst (IsSessionSound w) m.at (sound.sessions t)) m.changed
                ∙ ap (λ p. owed w.opening w.versions (held_in p) (map Replied (request_in p) ++ rest)) (sym at)
                ∙ ap (λ b. owed_to s w ((if b then map Replied (request_in (session_of w s)) else []) ++ rest))
                (sym (eq-eqb t s e))
            | inr ne ↦
                ap (λ b. (if b then option_to_list (question_of w s) else [])
                ++ owed_to s (with_sessions w (set w.sessions t m.next)) rest) (other t s ne)
                ∙ ap (λ p. owed w.opening w.versions (held_in p) rest) (session_else w t s m.next (λ e. ne (sym e)))
                ∙ ap (λ b. owed_to s w ((if b then map Replied (request_in (session_of w s)) else []) ++ rest))
                (sym (other t s ne))
          ])
    ] refl

accounts : (s : ℕ) (w : World) (e : Event) (rest : List Observation) → IsSound w → Accounts s w e rest
accounts s w (Take b) rest sound = calm_accounts s w _ rest (is_done w (Take b)) sound
    (calm_status s w (changed_at status_taken w.status b))
accounts s w (Fill b edges) rest sound = calm_accounts s w _ rest (is_done w (Fill b edges)) sound
    (calm_heap s w (filled_heap w.status w.heap b edges))
accounts s w (Post batch blocks) rest sound =
    calm_accounts s w _ rest (is_done w (Post batch blocks)) sound
    (calm_if s (can_post w.opening w.heap w.status w.versions batch blocks) w (posted w batch blocks)
    (record { held = refl; graphs = graph_before w.opening w.versions (version_by w.opening w.versions batch blocks) }))
accounts s w Floor rest sound = calm_owed s w (next_world w Floor) rest sound (record { held = refl; graphs = λ n _. refl })
accounts s w (Recycle b) rest sound = calm_accounts s w _ rest (is_done w (Recycle b)) sound
    (calm_status s w (changed_at (reclaimed w.copy) w.status b))
accounts s w (Pin t) rest sound = calm_accounts s w _ rest (is_done w (Pin t)) sound
    (calm_move s t w (to_pin w.floor) (same_pin w.floor))
accounts s w (Enter t) rest sound = seen_move s t w (to_enter (last_number w)) (Entered (unlimited (last_graph w)) ∷ []) rest sound
    (λ p q is. entering s w p q rest is)
accounts s w (Settle t) rest sound = calm_accounts s w _ rest (is_done w (Settle t)) sound (calm_move s t w to_settle same_settle)
accounts s w (Ask t request) rest sound = calm_accounts s w _ rest (is_done w (Ask t request)) sound
    (calm_move s t w (to_ask request) (same_ask request))
accounts s w (Read t) rest sound = calm_accounts s w _ rest (is_done w (Read t)) sound
    (calm_move s t w (to_read w.opening w.heap w.versions) (same_read w.opening w.heap w.versions))
accounts s w (Reply t) rest sound = replying_accounts s t w rest sound
accounts s w (Release t) rest sound = seen_move s t w to_release (Released ∷ []) rest sound (λ p q is. releasing w p q rest is)

nothing_owed : (opening : Opening) (versions : List Version) (held : Option ℕ) → [] ≡ owed opening versions held []
nothing_owed opening versions held = grind (arith, common_steps)

pub account : (s : ℕ) (w : World) (events : List Event) → IsSound w → all_asked s w events ≡ owed_to s w (observations s w events)
account s w [] sound = nothing_owed w.opening w.versions (held_in (session_of w s))
account s w (e ∷ es) sound =
    ap (λ qs. asked s w e ++ qs) (account s (next_world w e) es (sound_next w e sound))
    ∙ accounts s w e (observations s (next_world w e) es) sound

-- from a start: all that is asked are the questions of the holdings
asked_in_holdings : (start : MachineState) (s : ℕ) (events : List Event) → IsStart start → all_asked s start.world events
    ≡ questions (holdings s start.world events)
asked_in_holdings start s events is =
    account s start.world events (sound_start start is)
    ∙ ap (λ p. owed start.world.opening start.world.versions (held_in p) (observations s start.world events)) (idle_at start s is)

pub no_replies : (n s : ℕ) → get_or {A = List Answer} (replicate n []) s [] ≡ []
no_replies n s = grind (arith, common_steps)

pub replies_are_answers : (start end : MachineState) (events : List Event) (s : ℕ) → IsStart start → Runs start events end
    → AllZip Answers (questions (holdings s start.world events)) (replies_of end s)
replies_are_answers start end events s is runs =
    let many : length start.replies ≡ length start.world.sessions =
    ap length is.replies ∙ length-replicate (length start.world.sessions) [] in
    let a : Adds s (all_asked s start.world events) start.replies end.replies =
    adds_all s start.world events start.replies end.replies many runs.replies in
    let none : get_or start.replies s [] ≡ [] = ap (λ rs. get_or rs s []) is.replies
    ∙ no_replies (length start.world.sessions) s in
    let all : replies_of end s ≡ a.more = a.added ∙ ap (λ rs. rs ++ a.more) none in
    subst (λ qs. AllZip Answers qs (replies_of end s)) (asked_in_holdings start s events is)
    (subst (λ rs. AllZip Answers (all_asked s start.world events) rs) (sym all) a.answers)

pub replies_alike : (s : ℕ) (start end : MachineState) (events : List Event) (other_start other_end : MachineState) (other_events : List Event)
    → IsStart start → Runs start events end → IsStart other_start → Runs other_start other_events other_end
    → holdings s start.world events ≡ holdings s other_start.world other_events → replies_of end s ≡ replies_of other_end s
replies_alike s start end events other_start other_end other_events is runs other_is other_runs agree =
    same_answers (questions (holdings s other_start.world other_events)) (replies_of end s) (replies_of other_end s)
    (subst (λ qs. AllZip Answers qs (replies_of end s)) (ap questions agree) (replies_are_answers start end events s is runs))
    (replies_are_answers other_start other_end other_events s other_is other_runs)
