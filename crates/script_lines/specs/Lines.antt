-- The lines that a run prints. Each ends with one line feed, and numbers are plain decimals.
use Rattle.std.specs.Prelude.{ℕ, ℤ, Bool, true, false, codes, decimal, zero, suc, List, [], ◌++◌, length, max, fold, count_by}
use Rattle.std.specs.{Prelude.{Option, None, Some, bytes_eq, sum_by, ◌==◌, if◌then◌else◌}, Fmt.signed_decimal, List.flat_map}
use Rattle.std.specs.List.{list_any}
use Rattle.graph_types.specs.{Outcomes.expired_in, Step.with_name, declared.{ids.Degree.Degree, batches.Outcome.{Outcome, TheVariants.Inserted}}}
use Rattle.graph_types.specs.declared.batches.Outcome.TheVariants.{Updated, Removed, Absent, Overflow, Expired}
use Rattle.graph_types.specs.declared.requests.Reply.{Reply, TheVariants.{Cores, Degrees, Labels, Levels, OneEdge}}
use Rattle.feed_csv.specs.Commands.{feed_word_text}
use Rattle.script_lines.specs.declared.words.Word.{Word, TheVariants.{Feed, NotOpen, AlreadyOpen, BadWindow, NoKind, NoVertex}}
use Rattle.script_lines.specs.declared.words.Word.TheVariants.{BatchFull, BatchLimit, NamesFull, KindsFull, PoolEmpty, Start}

-- how a refusal is written
abbrev pub word_text : Word → List ℕ
word_text (Feed word) = feed_word_text word
word_text NotOpen = codes "NotOpen"
word_text AlreadyOpen = codes "AlreadyOpen"
word_text BadWindow = codes "BadWindow"
word_text NoKind = codes "NoKind"
word_text NoVertex = codes "NoVertex"
word_text BatchFull = codes "BatchFull"
word_text NamesFull = codes "NamesFull"
word_text KindsFull = codes "KindsFull"
word_text BatchLimit = codes "BatchLimit"
word_text PoolEmpty = codes "PoolEmpty"
word_text Start = codes "Start"

-- error <record> <Word>
abbrev pub error_line : ℕ → Word → List ℕ
error_line number word = codes "error " ++ (decimal number ++ (codes " " ++ (word_text word ++ codes "\n")))

-- whether an outcome is this one
abbrev pub is_outcome : Outcome → Outcome → Bool
is_outcome Inserted Inserted = true
is_outcome Updated Updated = true
is_outcome Removed Removed = true
is_outcome Absent Absent = true
is_outcome Overflow Overflow = true
is_outcome (Expired a) (Expired b) = a == b
is_outcome wanted other = false

abbrev pub is_expired : Outcome → Bool
is_expired (Expired count) = true
is_expired other = false

-- exp=<n>, where an operation was an expiry: how many edges the batch's expiries removed
abbrev pub expired_part : List Outcome → List ℕ
expired_part outcomes = if list_any is_expired outcomes then codes " exp=" ++ decimal (sum_by expired_in outcomes) else []

-- commit v=<version> ins=<n> upd=<n> rem=<n> abs=<n> ovf=<n>: how many operations had each outcome
abbrev pub commit_line : ℕ → List Outcome → List ℕ
commit_line version outcomes =
    codes "commit v=" ++ (decimal version
    ++ (codes " ins=" ++ (decimal (count_by (is_outcome Inserted) outcomes)
    ++ (codes " upd=" ++ (decimal (count_by (is_outcome Updated) outcomes)
    ++ (codes " rem=" ++ (decimal (count_by (is_outcome Removed) outcomes)
    ++ (codes " abs=" ++ (decimal (count_by (is_outcome Absent) outcomes)
    ++ (codes " ovf=" ++ (decimal (count_by (is_outcome Overflow) outcomes)
    ++ (expired_part outcomes ++ codes "\n"))))))))))))

-- collect floor=<n> recycled=<n> retired=<n>: the number that the retired were freed up to, how many were freed, and how
-- many stay retired
abbrev pub collect_line : ℕ → ℕ → ℕ → List ℕ
collect_line floor recycled retired =
    codes "collect floor=" ++ (decimal floor
    ++ (codes " recycled=" ++ (decimal recycled
    ++ (codes " retired=" ++ (decimal retired ++ codes "\n")))))

-- stat v=<version> names=<n> edges=<n> free=<n> retired=<n> used=<n>
abbrev pub stat_line : ℕ → ℕ → ℕ → ℕ → ℕ → ℕ → List ℕ
stat_line version names edges free retired used =
    codes "stat v=" ++ (decimal version
    ++ (codes " names=" ++ (decimal names
    ++ (codes " edges=" ++ (decimal edges
    ++ (codes " free=" ++ (decimal free
    ++ (codes " retired=" ++ (decimal retired
    ++ (codes " used=" ++ (decimal used ++ codes "\n")))))))))))

-- rebase v=<version> names=<n> edges=<n> used=<n>
abbrev pub rebase_line : ℕ → ℕ → ℕ → ℕ → List ℕ
rebase_line version names edges used =
    codes "rebase v=" ++ (decimal version
    ++ (codes " names=" ++ (decimal names
    ++ (codes " edges=" ++ (decimal edges
    ++ (codes " used=" ++ (decimal used ++ codes "\n")))))))

-- open <slot> v=<version>
abbrev pub open_line : ℕ → ℕ → List ℕ
open_line slot version = codes "open " ++ (decimal slot ++ (codes " v=" ++ (decimal version ++ codes "\n")))

-- close <slot>
abbrev pub close_line : ℕ → List ℕ
close_line slot = codes "close " ++ (decimal slot ++ codes "\n")

-- <name> <number>
abbrev pub number_line : List ℕ × ℕ → List ℕ
number_line entry = entry.0 ++ (codes " " ++ (decimal entry.1 ++ codes "\n"))

-- bfs <slot> reached=<n>, and then a line for each vertex that was reached, with its level
abbrev pub level_lines : ℕ → List (List ℕ × ℕ) → List ℕ
level_lines slot entries =
    (codes "bfs " ++ (decimal slot ++ (codes " reached=" ++ (decimal (length entries) ++ codes "\n"))))
    ++ flat_map number_line entries

-- how many different names there are among these
abbrev pub count_different : List (List ℕ) → ℕ
count_different names = length (fold with_name [] names)

-- <name> <name of the label>
abbrev pub label_line : List ℕ × List ℕ → List ℕ
label_line entry = entry.0 ++ (codes " " ++ (entry.1 ++ codes "\n"))

-- comp <slot> parts=<n>, and then a line for each vertex
abbrev pub label_lines : ℕ → ℕ → List (List ℕ × List ℕ) → List ℕ
label_lines slot parts entries =
    (codes "comp " ++ (decimal slot ++ (codes " parts=" ++ (decimal parts ++ codes "\n")))) ++ flat_map label_line entries

-- the greatest number of the entries, and 0 where there is no entry
abbrev pub greatest : List (List ℕ × ℕ) → ℕ
greatest entries = fold (λ most entry. max most entry.1) 0 entries

-- core <slot> max=<n>, and then a line for each vertex, with its core number
abbrev pub core_lines : ℕ → List (List ℕ × ℕ) → List ℕ
core_lines slot entries =
    (codes "core " ++ (decimal slot ++ (codes " max=" ++ (decimal (greatest entries) ++ codes "\n"))))
    ++ flat_map number_line entries

-- <name> <out> <in> <weight out>
abbrev pub degree_line : List ℕ × Degree → List ℕ
degree_line entry =
    entry.0 ++ (codes " " ++ (decimal entry.1.outgoing
    ++ (codes " " ++ (decimal entry.1.incoming ++ (codes " " ++ (signed_decimal entry.1.out_weight ++ codes "\n"))))))

-- deg <slot> edges=<n>, and then a line for each vertex
abbrev pub degree_lines : ℕ → ℕ → List (List ℕ × Degree) → List ℕ
degree_lines slot edges entries =
    (codes "deg " ++ (decimal slot ++ (codes " edges=" ++ (decimal edges ++ codes "\n")))) ++ flat_map degree_line entries

-- edge <slot> <weight> <first> <recent>, or edge <slot> none
abbrev pub edge_line : ℕ → Option (ℤ × ℕ × ℕ) → List ℕ
edge_line slot None = codes "edge " ++ (decimal slot ++ codes " none\n")
edge_line slot (Some shown) =
    codes "edge " ++ (decimal slot ++ (codes " " ++ (signed_decimal shown.0
    ++ (codes " " ++ (decimal shown.1 ++ (codes " " ++ (decimal shown.2 ++ codes "\n")))))))

-- a reply's lines, read off the reply alone: of the vertices with one label, one is that label itself, and each edge of the
-- view leaves one vertex
abbrev pub shown_lines : ℕ → Reply → List ℕ
shown_lines slot (Levels entries) = level_lines slot entries
shown_lines slot (Labels entries) = label_lines slot (count_by (λ entry. bytes_eq entry.0 entry.1) entries) entries
shown_lines slot (Cores entries) = core_lines slot entries
shown_lines slot (Degrees entries) = degree_lines slot (sum_by (λ entry. entry.1.outgoing) entries) entries
shown_lines slot (OneEdge shown) = edge_line slot shown

-- at the end of the input: end pending=<n>, and nothing where no operation is pending
abbrev pub end_line : ℕ → List ℕ
end_line zero = []
end_line (suc n) = codes "end pending=" ++ (decimal (suc n) ++ codes "\n")
