-- How many fresh blocks operations may need.
use Rattle.std.specs.Prelude.{◌≡◌, ℕ, ◌+◌, ◌<◌, max, List, [], ◌∷◌, count_by, length, get_or, take, drop, Bool, not, ◌&&◌}
use Rattle.std.specs.{declared.option.Option.{Option, TheVariants.{None, Some}}, List.sum_by}
use Rattle.edge_block.specs.{Slots.BlockView, Rows.{OpenBlock, has_old}}
pub use Rattle.graph_version.specs.Ages.{old_blocks}
use Rattle.batch_shards.specs.{Groups.{is_past, is_expiry, AreExpiries, AreStepGroups}, declared.groups.Groups.Groups}
use Rattle.batch_shards.specs.declared.shard.{Act.{Act, TheVariants.{Edge, Expire}}, Step.Step}

-- the greatest time that f tells of an element, 0 where there is none
abbrev pub latest_by : {A : Type 0} → (A → ℕ) → List A → ℕ
latest_by f [] = 0
latest_by f (x ∷ xs) = max (f x) (latest_by f xs)

-- the greatest time of the expiries
abbrev pub act_time : Act → ℕ
act_time (Edge place change) = 0
act_time (Expire time) = time

abbrev pub latest : List Step → ℕ
latest steps = latest_by (λ s. act_time s.act) steps

-- for each place, the greatest time of the expiries up to it
pub record AreTimesReached (steps : List Step) (reached : List ℕ) : Type 0 where
  pub long : length reached ≡ length steps
  pub are : (k : ℕ) → k < length steps → get_or reached k 0 ≡ latest (take (k + 1) steps)

-- the lists of the operations on so many rows
pub record AreListed (rows : ℕ) (steps : List Step) (groups : Groups) : Type 0 where
  pub firsts : length groups.first.items ≡ rows
  pub nexts : length groups.next.items ≡ length steps
  pub are : AreStepGroups 0 steps groups.first.items groups.next.items
  pub expiries : AreExpiries 0 steps groups.expiries.items
  pub reached : AreTimesReached steps groups.reached.items

-- where lists tell of the operations on so many rows, they are right
abbrev pub IsGrouped : ℕ → List Step → Option Groups → Type 0
IsGrouped rows steps None = Unit {0}
IsGrouped rows steps (Some groups) = AreListed rows steps groups

-- operations on edges of rows that are not among so many first ones, and old blocks in these rows
abbrev pub needed_past : ℕ → (ℕ → List BlockView) → List ℕ → List Step → ℕ
needed_past done rows sources steps = count_by (λ s. is_past done s.act) steps
    + sum_by (λ source. old_blocks (latest steps) (rows source)) (drop done sources)

-- an operation on an edge needs a block, and the expiries together one for each old block
abbrev pub needed : (ℕ → List BlockView) → List ℕ → List Step → ℕ
needed rows sources steps = count_by (λ s. not (is_expiry s.act)) steps
    + sum_by (λ source. old_blocks (latest steps) (rows source)) sources

-- an old block that the batch has not touched yet, which an expiry would touch
abbrev pub is_unspent : ℕ → OpenBlock → Bool
is_unspent time b = not b.touched && has_old time b

abbrev pub unspent : ℕ → List OpenBlock → ℕ
unspent time row = count_by (is_unspent time) row

-- what an operation needs on a row, and what it may take beside the old blocks
abbrev pub spends : Act → List OpenBlock → ℕ
spends (Edge place change) row = 1
spends (Expire time) row = unspent time row

abbrev pub takes : Act → ℕ
takes (Edge place change) = 1
takes (Expire time) = 0
