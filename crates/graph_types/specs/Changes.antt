-- What an edge bears, and what is done to it, as the program has them.
use Rattle.std.specs.{Prelude.{ℕ, ◌≤◌}, Option.option_map, declared.option.Option.Option}
use Rattle.graph_types.specs.{Graph.Stamp, Limits.{IsWeight, IsTime, weight_limit}, declared.changes.EdgeChange.EdgeChange}
use Rattle.graph_types.specs.declared.changes.{EdgeChange.TheVariants.{Insert, Incr, Remove}, EdgeMarks.EdgeMarks}

-- the stamp that marks show
abbrev pub stamp_in : EdgeMarks → Stamp
stamp_in m = record { weight = m.weight; first = m.first; recent = m.recent }

abbrev pub option_stamp : Option EdgeMarks → Option Stamp
option_stamp o = option_map stamp_in o

-- a change that allows no weight past a limit
abbrev pub AllowsUpTo : ℕ → EdgeChange → Type 0
AllowsUpTo limit (Insert weight time most) = most ≤ limit
AllowsUpTo limit (Incr amount time most) = most ≤ limit
AllowsUpTo limit Remove = Unit {0}

-- marks, and a change, of a weight and times in range; the most that a change allows is in range too
pub record AreMarks (m : EdgeMarks) : Type 0 where
  pub weight : IsWeight m.weight
  pub first : IsTime m.first
  pub recent : IsTime m.recent

abbrev pub IsChange : EdgeChange → Type 0
IsChange (Insert weight time most) = IsWeight weight × IsTime time × (most ≤ weight_limit)
IsChange (Incr amount time most) = IsWeight amount × IsTime time × (most ≤ weight_limit)
IsChange Remove = Unit {0}
