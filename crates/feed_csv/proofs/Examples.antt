-- Records and what they give, computed from the definitions.
use Rattle.std.proofs.Common.{◌≡◌, ◌∷◌, [], codes, refl, None, Ok, Err, pos, negsuc}
use Rattle.csv.specs.{Machine.next_record, Reading.records_from, Reading.strip_bom, Records.field_at}
use Rattle.graph_types.specs.declared.{batches.NamedOp.TheVariants.{Insert, Incr}, requests.Request.TheVariants.{Degrees, Levels}}
use Rattle.feed_csv.specs.Commands.{bare_command, edge_command, edge_fields, filter_at, filter_command, filter_fields, item_of}
use Rattle.feed_csv.specs.{Commands.{levels_of, names_at, slot_command}, Fields.{any_kind_at, kind_at, name_at}}
use Rattle.feed_csv.specs.{Fields.{of_length, slot_at, time_at, weight_at}, Records.records_of}
use Rattle.feed_csv.specs.declared.command.Command.TheVariants.{Collect, Op, Query, Rebase, Stat}
use Rattle.feed_csv.specs.declared.command.FeedWord.TheVariants.{BadCommand, BadFields, BadName, BadSlot, BadTime}

-- blank lines are no records, a quoted field may hold a comma, and a byte order mark is dropped
pub three-records : records_of (0xEF ∷ 0xBB ∷ 0xBF ∷ codes "i,\"k,k\",a\r\n\ncommit\ndeg")
    ≡ (codes "i" ∷ codes "k,k" ∷ codes "a" ∷ []) ∷ (codes "commit" ∷ []) ∷ (codes "deg" ∷ []) ∷ []
unfolding next_record records_from strip_bom
three-records = refl

pub an-insertion : item_of (codes "i" ∷ codes "k" ∷ codes "a" ∷ codes "*" ∷ codes "-007" ∷ codes "5" ∷ [])
    ≡ Ok (Op (Insert (codes "k") (codes "a") (codes "*") (negsuc 6) 5))
unfolding item_of edge_command edge_fields names_at of_length kind_at name_at weight_at time_at field_at
an-insertion = refl

pub an-increment : item_of (codes "a" ∷ codes "k" ∷ codes "a" ∷ codes "b" ∷ codes "0010" ∷ codes "5" ∷ [])
    ≡ Ok (Op (Incr (codes "k") (codes "a") (codes "b") (pos 10) 5))
unfolding item_of edge_command edge_fields names_at of_length kind_at name_at weight_at time_at field_at
an-increment = refl

pub a-request : item_of (codes "deg" ∷ codes "015" ∷ codes "*" ∷ codes "0" ∷ codes "9223372036854775807" ∷ [])
    ≡ Ok (Query 15 (Degrees (record { kind = None; lo = 0; hi = 9223372036854775807 })))
unfolding item_of filter_command filter_fields filter_at of_length any_kind_at time_at slot_at field_at
a-request = refl

pub a-search : item_of (codes "bfs" ∷ codes "0" ∷ codes "*" ∷ codes "*" ∷ codes "3" ∷ codes "2" ∷ [])
    ≡ Ok (Query 0 (Levels (codes "*") (record { kind = None; lo = 3; hi = 2 })))
unfolding item_of levels_of filter_at of_length name_at any_kind_at time_at slot_at field_at
a-search = refl

-- a time comes before the slot, and a name before a time
pub a-bad-time : item_of (codes "deg" ∷ codes "x" ∷ codes "k" ∷ codes "0" ∷ codes "9223372036854775808" ∷ []) ≡ Err BadTime
unfolding item_of filter_command filter_fields filter_at of_length any_kind_at time_at slot_at field_at
a-bad-time = refl

pub a-bad-name : item_of (codes "deg" ∷ codes "x" ∷ codes "k k" ∷ codes "x" ∷ codes "0" ∷ []) ≡ Err BadName
unfolding item_of filter_command filter_fields filter_at of_length any_kind_at time_at slot_at field_at
a-bad-name = refl

pub a-commit-with-fields : item_of (codes "commit" ∷ codes "1" ∷ []) ≡ Err BadFields
unfolding item_of bare_command of_length field_at
a-commit-with-fields = refl

pub the-counts : item_of (codes "stat" ∷ []) ≡ Ok Stat
unfolding item_of bare_command of_length field_at
the-counts = refl

pub counts-with-fields : item_of (codes "stat" ∷ codes "1" ∷ []) ≡ Err BadFields
unfolding item_of bare_command of_length field_at
counts-with-fields = refl

pub a-collection : item_of (codes "collect" ∷ []) ≡ Ok Collect
unfolding item_of bare_command of_length field_at
a-collection = refl

pub a-rebase : item_of (codes "rebase" ∷ codes "007" ∷ []) ≡ Ok (Rebase 7)
unfolding item_of slot_command of_length slot_at field_at
a-rebase = refl

-- the number of fields comes before the slot
pub a-rebase-with-fields : item_of (codes "rebase" ∷ codes "16" ∷ codes "1" ∷ []) ≡ Err BadFields
unfolding item_of slot_command of_length slot_at field_at
a-rebase-with-fields = refl

pub a-rebase-past-the-slots : item_of (codes "rebase" ∷ codes "16" ∷ []) ≡ Err BadSlot
unfolding item_of slot_command of_length slot_at field_at
a-rebase-past-the-slots = refl

pub an-unknown-command : item_of ([] ∷ []) ≡ Err BadCommand
unfolding item_of field_at
an-unknown-command = refl
