-- The command of a record, or the word of its refusal: one rule for each command. A rule takes the fields in the
-- order of refusals: how many there are, names and kinds, the weight, times, the slot.
use Rattle.std.specs.Prelude.{◌≡◌, ℕ, ℤ, ◌+◌, bytes_eq, codes, List, if◌then◌else◌, Result, Ok, Err}
use Rattle.graph_types.specs.{Valid.IsValid, declared.batches.NamedOp.{NamedOp, TheVariants.{Insert, Incr, Remove, Expire}}}
use Rattle.graph_types.specs.declared.requests.{NamedFilter.NamedFilter, Request.{Request, TheVariants.{Levels, Labels, Cores}}}
use Rattle.graph_types.specs.declared.requests.Request.TheVariants.{Degrees, OneEdge}
use Rattle.feed_csv.specs.Fields.{◌>>=◌, any_kind_at, field, kind_at, name_at, of_length, slot_at, time_at, weight_at}
use Rattle.feed_csv.specs.{Records.Row, declared.command.Command.{Command, TheVariants.{Op, Commit, OpenSlot, CloseSlot, Query}}}
use Rattle.feed_csv.specs.declared.command.{Command.TheVariants.{Stat, Collect, Rebase}, FeedWord.{FeedWord, TheVariants.Read}}
use Rattle.feed_csv.specs.declared.command.FeedWord.TheVariants.{BadCommand, BadFields, BadName, BadWeight, BadTime, BadSlot}
use Rattle.feed_csv.specs.declared.{command.FeedWord.TheVariants.Memory, rules.{EdgeFields.EdgeFields, EdgeNames.EdgeNames}}
use Rattle.csv.specs.declared.error.ErrorKind.{ErrorKind}
use Rattle.csv.specs.declared.error.ErrorKind.TheVariants as kind

-- kind,source,target from a place on
unfoldable pub names_at : Row → ℕ → Result EdgeNames FeedWord
names_at row place = do
  kind ← kind_at row place
  source ← name_at row (place + 1)
  target ← name_at row (place + 2)
  Ok (record { kind = kind; source = source; target = target })

-- word,kind,source,target,weight or amount,time
unfoldable pub edge_fields : Row → Result EdgeFields FeedWord
edge_fields record_fields = do
  row ← of_length 6 record_fields
  names ← names_at row 1
  amount ← weight_at row 4
  time ← time_at row 5
  Ok (record { names = names; amount = amount; time = time })

-- i or a, and what an edge has
unfoldable pub edge_command : (List ℕ → List ℕ → List ℕ → ℤ → ℕ → NamedOp) → Row → Result Command FeedWord
edge_command op row = do
  edge ← edge_fields row
  Ok (Op (op edge.names.kind edge.names.source edge.names.target edge.amount edge.time))

-- r,kind,source,target
unfoldable pub remove_of : Row → Result Command FeedWord
remove_of record_fields = do
  row ← of_length 4 record_fields
  names ← names_at row 1
  Ok (Op (Remove names.kind names.source names.target))

-- x,time
unfoldable pub expire_of : Row → Result Command FeedWord
expire_of record_fields = do
  row ← of_length 2 record_fields
  time ← time_at row 1
  Ok (Op (Expire time))

-- commit, stat or collect, alone
unfoldable pub bare_command : Command → Row → Result Command FeedWord
bare_command command record_fields = do
  row ← of_length 1 record_fields
  Ok command

-- open, close or rebase, and a slot
unfoldable pub slot_command : (ℕ → Command) → Row → Result Command FeedWord
slot_command command record_fields = do
  row ← of_length 2 record_fields
  slot ← slot_at row 1
  Ok (command slot)

-- kind or *,lo,hi from a place on
unfoldable pub filter_at : Row → ℕ → Result NamedFilter FeedWord
filter_at row place = do
  kind ← any_kind_at row place
  lo ← time_at row (place + 1)
  hi ← time_at row (place + 2)
  Ok (record { kind = kind; lo = lo; hi = hi })

-- word,slot,kind or *,lo,hi
unfoldable pub filter_fields : Row → Result (ℕ × NamedFilter) FeedWord
filter_fields record_fields = do
  row ← of_length 5 record_fields
  filter ← filter_at row 2
  slot ← slot_at row 1
  Ok (slot, filter)

-- bfs,slot,source,kind or *,lo,hi
unfoldable pub levels_of : Row → Result Command FeedWord
levels_of record_fields = do
  row ← of_length 6 record_fields
  source ← name_at row 2
  filter ← filter_at row 3
  slot ← slot_at row 1
  Ok (Query slot (Levels source filter))

-- comp, core or deg, a slot and a filter
unfoldable pub filter_command : (NamedFilter → Request) → Row → Result Command FeedWord
filter_command request row = do
  fields ← filter_fields row
  Ok (Query fields.0 (request fields.1))

-- edge,slot,kind,source,target
unfoldable pub edge_of : Row → Result Command FeedWord
edge_of record_fields = do
  row ← of_length 5 record_fields
  names ← names_at row 2
  slot ← slot_at row 1
  Ok (Query slot (OneEdge names.kind names.source names.target))

-- the first field says which command it is
unfoldable pub item_of : Row → Result Command FeedWord
item_of row =
    let word = field row 0 in
    if bytes_eq word (codes "i") then edge_command Insert row
    else (if bytes_eq word (codes "a") then edge_command Incr row
    else (if bytes_eq word (codes "r") then remove_of row
    else (if bytes_eq word (codes "x") then expire_of row
    else (if bytes_eq word (codes "commit") then bare_command Commit row
    else (if bytes_eq word (codes "open") then slot_command OpenSlot row
    else (if bytes_eq word (codes "close") then slot_command CloseSlot row
    else (if bytes_eq word (codes "bfs") then levels_of row
    else (if bytes_eq word (codes "comp") then filter_command Labels row
    else (if bytes_eq word (codes "core") then filter_command Cores row
    else (if bytes_eq word (codes "deg") then filter_command Degrees row
    else (if bytes_eq word (codes "edge") then edge_of row
    else (if bytes_eq word (codes "stat") then bare_command Stat row
    else (if bytes_eq word (codes "collect") then bare_command Collect row
    else (if bytes_eq word (codes "rebase") then slot_command Rebase row
    else Err BadCommand))))))))))))))

-- an operation that a command adds is valid
abbrev pub HasValidOp : Command → Type 0
HasValidOp (Op op) = IsValid op
HasValidOp _ = Unit {0}

-- how a word of refusal is written
abbrev pub feed_word_text : FeedWord → List ℕ
feed_word_text Read = codes "Read"
feed_word_text BadCommand = codes "BadCommand"
feed_word_text BadFields = codes "BadFields"
feed_word_text BadName = codes "BadName"
feed_word_text BadWeight = codes "BadWeight"
feed_word_text BadTime = codes "BadTime"
feed_word_text BadSlot = codes "BadSlot"
feed_word_text Memory = codes "Memory"

-- a word that stands for out of memory, or for the record's refusal
abbrev pub RefusesItem : {A : Type 0} → FeedWord → Result A FeedWord → Type 0
RefusesItem Memory item = Unit {0}
RefusesItem word item = item ≡ Err word

-- a result is what the rules give, unless memory ran out
abbrev pub Gives : {A : Type 0} → Result A FeedWord → Result A FeedWord → Type 0
Gives (Ok value) item = item ≡ Ok value
Gives (Err word) item = RefusesItem word item

-- out of memory has a word of its own, and every other fault is the reader's
abbrev pub fault_word : ErrorKind → FeedWord
fault_word kind.OutOfMemory = Memory
fault_word _ = Read
