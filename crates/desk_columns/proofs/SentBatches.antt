-- A batch that was sent before is passed over.
use Rattle.std.proofs.Common.{◌≡◌, ◌==◌, ◌||◌, ℕ, List, [], ◌∷◌, ◌++◌, true, false, Option, Some, None, refl, sym, ap, subst, arith, ◌∙◌}
use Rattle.std.proofs.Common.{if◌then◌else◌, nat_lt}
use Rattle.std.proofs.lemmas.Bool.{eqb-true, Decides.nat_tests}
use Rattle.graph_types.specs.{Step.left_by, declared.batches.NamedOp.NamedOp}
use Rattle.graph_version.specs.Versions.{content}
use Rattle.owned_desk.specs.Owned.{OwnedView}
use Rattle.desk_columns.specs.Replay.{IsOnce, Replayed, SentBatch, is_new_behind, new_batches, was_sent}
use Rattle.desk_columns.proofs.Replayed.{replayed_content}

-- the number of the last batch that is in behind these
abbrev last_in : Option ℕ → List SentBatch → Option ℕ
last_in last [] = last
last_in last (sent ∷ more) = if is_new_behind last sent.sequence then last_in (Some sent.sequence) more else last_in last more

new-append : (last : Option ℕ) (before others : List SentBatch)
    → new_batches last (before ++ others) ≡ new_batches last before ++ new_batches (last_in last before) others
new-append last [] others = refl
new-append last (sent ∷ before) others =
    elim (is_new_behind last sent.sequence) as (λ b.
    (if b then sent.batch ∷ new_batches (Some sent.sequence) (before ++ others) else new_batches last (before ++ others))
    ≡ (if b then sent.batch ∷ new_batches (Some sent.sequence) before else new_batches last before)
    ++ new_batches (if b then last_in (Some sent.sequence) before else last_in last before) others) [
      | true ↦ ap (λ (bs : List (List NamedOp)). sent.batch ∷ bs) (new-append (Some sent.sequence) before others)
      | false ↦ new-append last before others
    ]

later_too : (last later n : ℕ) → nat_lt last later ≡ true → nat_lt last n ≡ false → nat_lt later n ≡ false
later_too last later n new old = grind (arith, nat_tests)

-- what isn't new behind one number isn't behind a later one
passed : (last : Option ℕ) (later n : ℕ) → is_new_behind last later ≡ true → is_new_behind last n ≡ false → nat_lt later n ≡ false
passed None later n new old = cc
passed (Some last) later n new old = later_too last later n new old

stays_passed : (last : Option ℕ) (before : List SentBatch) (n : ℕ) → is_new_behind last n ≡ false
    → is_new_behind (last_in last before) n ≡ false
stays_passed last [] n old = old
stays_passed last (sent ∷ before) n old =
    elim (is_new_behind last sent.sequence) as (λ b. is_new_behind last sent.sequence ≡ b
    → is_new_behind (if b then last_in (Some sent.sequence) before else last_in last before) n ≡ false) [
      | true ↦ λ e. stays_passed (Some sent.sequence) before n (passed last sent.sequence n e old)
      | false ↦ λ e. stays_passed last before n old
    ] refl

its_own : (m n : ℕ) → m ≡ n → nat_lt m n ≡ false
its_own m n same = grind (arith, nat_tests)

passed_here : (last : Option ℕ) (sent : SentBatch) (before : List SentBatch) (n : ℕ) → sent.sequence ≡ n
    → is_new_behind (last_in last (sent ∷ before)) n ≡ false
passed_here last sent before n same =
    elim (is_new_behind last sent.sequence) as (λ b. is_new_behind last sent.sequence ≡ b
    → is_new_behind (if b then last_in (Some sent.sequence) before else last_in last before) n ≡ false) [
      | true ↦ λ e. stays_passed (Some sent.sequence) before n (its_own sent.sequence n same)
      | false ↦ λ e. stays_passed last before n (subst (λ (m : ℕ). is_new_behind last m ≡ false) same e)
    ] refl

sent_passed : (last : Option ℕ) (before : List SentBatch) (n : ℕ) → was_sent n before ≡ true
    → is_new_behind (last_in last before) n ≡ false
sent_passed last [] n sent = cc
sent_passed last (first ∷ before) n sent =
    elim (first.sequence == n) as (λ t. (first.sequence == n) ≡ t → (t || was_sent n before) ≡ true
    → is_new_behind (last_in last (first ∷ before)) n ≡ false) [
      | true ↦ λ e _. passed_here last first before n (eqb-true first.sequence n e)
      | false ↦ λ e more.
          (elim (is_new_behind last first.sequence) as (λ b.
          is_new_behind (if b then last_in (Some first.sequence) before else last_in last before) n ≡ false) [
            | true ↦ sent_passed (Some first.sequence) before n more
            | false ↦ sent_passed last before n more
          ])
    ] refl sent

pass_over : (last : Option ℕ) (again : SentBatch) (others : List SentBatch) → is_new_behind last again.sequence ≡ false
    → new_batches last (again ∷ others) ≡ new_batches last others
pass_over last again others old = rw old refl

same_batches : (last : Option ℕ) (before others : List SentBatch) (again : SentBatch) → was_sent again.sequence before ≡ true
    → new_batches last (before ++ again ∷ others) ≡ new_batches last (before ++ others)
same_batches last before others again sent =
    new-append last before (again ∷ others)
    ∙ ap (λ (bs : List (List NamedOp)). new_batches last before ++ bs)
    (pass_over (last_in last before) again others (sent_passed last before again.sequence sent))
    ∙ sym (new-append last before others)

same_content : (some others : List (List NamedOp)) (old new other : OwnedView) → some ≡ others → Replayed some old new
    → Replayed others old other → content new.desk.last ≡ content other.desk.last
same_content some others old new other same one two =
    replayed_content some old new one ∙ ap (λ (bs : List (List NamedOp)). left_by bs (content old.desk.last)) same
    ∙ sym (replayed_content others old other two)

pub taken_once : (last : Option ℕ) (before others : List SentBatch) (again : SentBatch) → was_sent again.sequence before ≡ true
    → IsOnce last before others again
taken_once last before others again sent =
    let same = same_batches last before others again sent in
    record {
      batches = same;
      content_is = λ old with_it without one two. same_content (new_batches last (before ++ again ∷ others))
          (new_batches last (before ++ others)) old with_it without same one two;
    }
