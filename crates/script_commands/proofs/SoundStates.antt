-- Sound states: each record comes to an outcome there, and leaves a sound state.
use Rattle.std.proofs.Common.{◌≡◌, ℕ, ◌+◌, ◌<◌, ◌≤◌, Bool, true, false, List, [], ◌∷◌, ◌++◌, length, take, All, inl, inr, refl}
use Rattle.std.proofs.{Common.{sym, subst, arith}, lemmas.{Bool.cases_lt, List.{take_all, take-append-le, length-append}}}
use Rattle.std.proofs.lemmas.List.Elements.{All-push}
use Rattle.std.specs.Prelude.{Ok, if◌then◌else◌, not, Some, None, nat_le, Err, Result, slice_get}
use Rattle.graph_types.specs.{Answer.IsAnswer, Graph.Graph, Limits.{LimitsView, AreLimits, operation_limit}}
use Rattle.graph_types.specs.Step.{left_by, after_all, MeetsNameLimit, MeetsKindLimit, outcomes}
use Rattle.graph_types.specs.{Valid.{IsValid, push_refusal, has_names, has_weight, has_time}, declared.batches.NamedOp.NamedOp}
use Rattle.graph_types.specs.declared.batches.PushError.TheVariants.{BadName, BadWeight, BadTime, BatchFull}
use Rattle.graph_types.specs.declared.requests.{AskError.AskError, Reply.Reply, Request.Request}
use Rattle.graph_types.proofs.{ChangedContents.HasContent, ContentsKept.content_after_all, More.left_more, OneAnswer.some_answer}
use Rattle.stream_store.specs.Refusals.{asked}
use Rattle.feed_csv.specs.declared.command.Command.{Command}
use Rattle.feed_csv.specs.declared.command.Command.TheVariants.{Op, Commit, OpenSlot, CloseSlot, Query, Collect, Stat, Rebase}
use Rattle.feed_csv.specs.declared.command.FeedWord.{FeedWord}
use Rattle.script_lines.specs.{Lines.{commit_line, open_line, collect_line}, declared.words.Word.{Word, TheVariants.Feed}}
use Rattle.script_commands.specs.States.{ServerState, version, Setup, beginning, last_version, lines_unless, op_refusal}
use Rattle.script_commands.specs.States.{RecordResult, IsCommitted, batch_word, used, Held, IsReplied, answer_result}
use Rattle.script_commands.specs.States.{IsRecordResult, open_refusal, close_result, version_in, floor_in, recycled_blocks}
use Rattle.script_commands.specs.States.{after_collect, rebase_result, after_commit, rebased, after_item}
use Rattle.graph_types.specs.declared.refusals.ApplyError.TheVariants as refused

-- each version that the batches of a state leave is that of a content, and what is pending is valid
pub record IsSoundState (l : LimitsView) (s : ServerState) : Type 0 where
  pub versions : (n : ℕ) → HasContent l (version n s)
  pub pending : All IsValid s.pending

module _ (l : LimitsView) (are : AreLimits l) where
  none_valid : All IsValid []
  none_valid = λ k d h. absurd (omega arith)

  opened_versions : (g : Graph) → HasContent l g → (n : ℕ) → HasContent l (left_by (take n []) g)
  opened_versions g opens n = subst (λ (bs : List (List NamedOp)). HasContent l (left_by bs g)) (sym (take_all n [] (omega arith))) opens

  pub beginning_sound : (setup : Setup) → HasContent l setup.opening → IsSoundState l (beginning setup).state
  beginning_sound setup opens = record { versions = opened_versions setup.opening opens; pending = none_valid }

  last_content : (s : ServerState) → IsSoundState l s → HasContent l (last_version s)
  last_content s sound =
      subst (λ (bs : List (List NamedOp)). HasContent l (left_by bs s.opening)) (take_all (length s.batches) s.batches (omega arith))
      (sound.versions (length s.batches))

  -- an operation that is taken is valid
  taken_parts : (names weight time full : Bool) (lines : List ℕ)
      → Ok lines
      ≡ lines_unless (op_refusal (if not names then Some BadName
      else (if not weight then Some BadWeight else (if not time then Some BadTime else (if full then Some BatchFull else None))))) []
      → (names ≡ true) × (weight ≡ true) × (time ≡ true)
  taken_parts false weight time full lines is = absurd (cc is)
  taken_parts true false time full lines is = absurd (cc is)
  taken_parts true true false full lines is = absurd (cc is)
  taken_parts true true true full lines is = (refl, refl, refl)

  taken_valid : (op : NamedOp) (n : ℕ) (lines : List ℕ) → Ok lines ≡ lines_unless (op_refusal (push_refusal op n)) []
      → IsValid op
  taken_valid op n lines is =
      let parts = taken_parts (has_names op) (has_weight op) (has_time op) (nat_le operation_limit n) lines is in
      record { names = parts.0; weight = parts.1; time = parts.2 }

  -- the pending batch is admissible, or refused for the first limit that it meets
  some_commit : (s : ServerState) → (outcome : RecordResult) × IsCommitted s outcome
  some_commit s =
      let Goal : Type 0 = (outcome : RecordResult) × IsCommitted s outcome in
      let left : Graph = after_all s.pending (last_version s) in
      elim (cases_lt (length s.batches) (last_version s).limits.batches) as (λ _. Goal) [
        | inr full ↦ (Err (batch_word refused.BatchLimit), (refused.BatchLimit, full, λ same. cc same, refl))
        | inl few ↦
            elim (cases_lt (last_version s).limits.names (length left.names)) as (λ _. Goal) [
              | inl names ↦ (Err (batch_word refused.NamesFull), (refused.NamesFull, (few, names), λ same. cc same, refl))
              | inr names ↦
                  let named : MeetsNameLimit s.pending (last_version s) → ⊥ = λ over. omega (arith, over, names) in
                  elim (cases_lt (last_version s).limits.kinds (length left.kinds)) as (λ _. Goal) [
                    | inl kinds ↦ (
                      Err (batch_word refused.KindsFull),
                      (refused.KindsFull, (few, (kinds, named)), λ same. cc same, refl),
                    )
                    | inr kinds ↦
                        let kept : MeetsKindLimit s.pending (last_version s) → ⊥ = λ over. omega (arith, over, kinds) in
                        let needed : ℕ = asked s.pending (used s) in
                        elim (cases_lt s.free needed) as (λ _. Goal) [
                          | inl empty ↦ (
                            Err (batch_word (refused.PoolEmpty needed s.free)),
                            (
                              refused.PoolEmpty needed s.free,
                              (few, (named, kept), refl, refl, empty),
                              λ same. cc same,
                              refl,
                            ),
                          )
                          | inr enough ↦ (
                            Ok (commit_line (length s.batches + 1) (outcomes s.pending (last_version s))),
                            (record { few = few; limits = (named, kept); blocks = enough }, refl),
                          )
                        ]
                  ]
            ]
      ]

  some_replied : (slot : ℕ) (request : Request) (s : ServerState) (held : Result Held Word) → IsSoundState l s
      → (outcome : RecordResult) × IsReplied slot request s held outcome
  some_replied slot request s (Err word) sound = (Err word, refl)
  some_replied slot request s (Ok held) sound =
      let there : HasContent l (version held.number s) = sound.versions held.number in
      let answered : (answer : Result Reply AskError) × IsAnswer request (version held.number s) answer =
      subst (λ g. (answer : Result Reply AskError) × IsAnswer request g answer) there.2 (some_answer request l there.0 there.1.content) in
      (answer_result slot request (version held.number s) answered.0, (answered.0, answered.1, refl))

  pub some_outcome : (item : Result Command FeedWord) (s : ServerState) → IsSoundState l s
      → (outcome : RecordResult) × IsRecordResult item s outcome
  some_outcome (Err word) s sound = (Err (Feed word), refl)
  some_outcome (Ok (Op op)) s sound = (lines_unless (op_refusal (push_refusal op (length s.pending))) [], refl)
  some_outcome (Ok Commit) s sound = some_commit s
  some_outcome (Ok (OpenSlot slot)) s sound =
      (lines_unless (open_refusal (slice_get s.held slot)) (open_line slot (length s.batches)), refl)
  some_outcome (Ok (CloseSlot slot)) s sound = (close_result slot (version_in (slice_get s.held slot)), refl)
  some_outcome (Ok (Query slot request)) s sound = some_replied slot request s (version_in (slice_get s.held slot)) sound
  some_outcome (Ok Collect) s sound = (Ok (collect_line (floor_in s) (recycled_blocks s) (length (after_collect s).retired)), refl)
  some_outcome (Ok Stat) s sound = (_, refl)
  some_outcome (Ok (Rebase slot)) s sound = (rebase_result s (version_in (slice_get s.held slot)), refl)

  -- the versions behind an accepted batch
  committed_sound : (s : ServerState) → IsSoundState l s
      → length (after_all s.pending (last_version s)).names ≤ (last_version s).limits.names
      → length (after_all s.pending (last_version s)).kinds ≤ (last_version s).limits.kinds → IsSoundState l (after_commit s)
  committed_sound s sound names kinds =
      let all : List (List NamedOp) = s.batches ++ s.pending ∷ [] in
      let last = last_content s sound in
      let made : HasContent l (after_all s.pending (last_version s)) =
      subst (λ (g : Graph). HasContent l (after_all s.pending g)) last.2
      (content_after_all l are s.pending last.0 last.1 sound.pending
      (subst (λ (g : Graph). length (after_all s.pending g).names ≤ g.limits.names) (sym last.2) names)
      (subst (λ (g : Graph). length (after_all s.pending g).kinds ≤ g.limits.kinds) (sym last.2) kinds)) in
      record {
        versions = λ n.
            elim (cases_lt (length s.batches) n) as (λ _. HasContent l (left_by (take n all) s.opening)) [
              | inr before ↦
                  subst (λ (bs : List (List NamedOp)). HasContent l (left_by bs s.opening))
                  (sym (take-append-le n s.batches (s.pending ∷ []) before)) (sound.versions n)
              | inl behind ↦
                  let long : length all ≤ n = omega (arith, behind, length-append s.batches (s.pending ∷ [])) in
                  subst (λ (bs : List (List NamedOp)). HasContent l (left_by bs s.opening)) (sym (take_all n all long))
                  (subst (HasContent l) (sym (left_more s.batches s.pending s.opening)) made)
            ];
        pending = none_valid;
      }

  rebased_sound : (s : ServerState) (held : Result Held Word) → IsSoundState l s → IsSoundState l (rebased s held)
  rebased_sound s (Err word) sound = sound
  rebased_sound s (Ok held) sound = record {
    versions = opened_versions (version held.number s) (sound.versions held.number);
    pending = sound.pending;
  }

  -- what isn't past a limit
  at_most : (n limit : ℕ) → (limit < n → ⊥) → n ≤ limit
  at_most n limit not_over = elim (cases_lt limit n) as (λ _. n ≤ limit) [ inl over ↦ absurd (not_over over) | inr within ↦ within ]

  -- what a record leaves of such a state is one
  pub sound_after : (item : Result Command FeedWord) (s : ServerState) (outcome : RecordResult) → IsRecordResult item s outcome
      → IsSoundState l s → IsSoundState l (after_item item outcome s)
  sound_after (Err word) s outcome is sound = sound
  sound_after (Ok (Op op)) s (Ok lines) is sound = record {
    versions = sound.versions;
    pending = All-push IsValid s.pending op sound.pending (taken_valid op (length s.pending) lines is);
  }
  sound_after (Ok (Op op)) s (Err word) is sound = sound
  sound_after (Ok Commit) s (Ok lines) is sound =
      committed_sound s sound (at_most _ (last_version s).limits.names is.0.limits.0)
      (at_most _ (last_version s).limits.kinds is.0.limits.1)
  sound_after (Ok Commit) s (Err word) is sound = record { versions = sound.versions; pending = none_valid }
  sound_after (Ok (OpenSlot slot)) s (Ok lines) is sound = record { versions = sound.versions; pending = sound.pending }
  sound_after (Ok (OpenSlot slot)) s (Err word) is sound = sound
  sound_after (Ok (CloseSlot slot)) s (Ok lines) is sound = record { versions = sound.versions; pending = sound.pending }
  sound_after (Ok (CloseSlot slot)) s (Err word) is sound = sound
  sound_after (Ok (Query slot request)) s (Ok lines) is sound = sound
  sound_after (Ok (Query slot request)) s (Err word) is sound = sound
  sound_after (Ok Collect) s (Ok lines) is sound = record { versions = sound.versions; pending = sound.pending }
  sound_after (Ok Collect) s (Err word) is sound = sound
  sound_after (Ok Stat) s (Ok lines) is sound = sound
  sound_after (Ok Stat) s (Err word) is sound = sound
  sound_after (Ok (Rebase slot)) s (Ok lines) is sound = rebased_sound s (version_in (slice_get s.held slot)) sound
  sound_after (Ok (Rebase slot)) s (Err word) is sound = sound
