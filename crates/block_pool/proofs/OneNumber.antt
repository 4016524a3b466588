-- What a batch makes of one number, which was kept, dropped, taken or left unused so often.
use Rattle.std.proofs.{Common.{◌≡◌, ℕ, ◌+◌, ◌≤◌, Bool, true, arith}, lemmas.Grind.common_steps}
use Rattle.std.specs.{Option.option_map, Prelude.if◌then◌else◌, declared.option.Option.Option}
use Rattle.block_reclamation.specs.{Status.{is_at, is_used, is_free}, declared.status.BlockStatus.BlockStatus}
use Rattle.block_reclamation.specs.declared.status.BlockStatus.TheVariants.{Used, Free, Granted}
use Rattle.block_reclamation.proofs.OneStatus.{marked_if}
use Rattle.graph_types.proofs.Times.{is_some_times}
use Rattle.block_pool.specs.Pools.{retired}

-- taken by version n, and then dropped by it
abbrev pub number_after : ℕ → Option BlockStatus → Bool → Bool → Option BlockStatus
number_after n p t d = if d then option_map (retired n) (marked_if (Used n) t p) else marked_if (Used n) t p

abbrev pub number_moved : ℕ → Option BlockStatus → Bool → Bool → Bool → Bool → Option BlockStatus
number_moved n p g t d u = marked_if Free u (number_after n (marked_if Granted g p) t d)

-- how often a batch kept a number, dropped it, took it, and left it unused
pub record NumberTimes : Type 0 where
  pub kept : ℕ
  pub dropped : ℕ
  pub taken : ℕ
  pub unused : ℕ

pub record OneNumber (n : ℕ) (p : Option BlockStatus) (m : NumberTimes) : Type 0 where
  pub moved :
      number_moved n p (is_some_times (m.taken + m.unused)) (is_some_times m.taken) (is_some_times m.dropped)
      (is_some_times m.unused) ≡ number_after n p (is_some_times m.taken) (is_some_times m.dropped)
  pub born : is_at is_used (number_after n p (is_some_times m.taken) (is_some_times m.dropped))
      ≡ is_some_times (m.kept + m.taken)

pub one_number : (n : ℕ) (p : Option BlockStatus) (kept dropped taken unused : ℕ) → kept + dropped ≤ 1 → taken + unused ≤ 1
    → is_at is_used p ≡ is_some_times (kept + dropped) → (is_some_times (taken + unused) ≡ true → is_at is_free p ≡ true)
    → OneNumber n p (record { kept = kept; dropped = dropped; taken = taken; unused = unused })
one_number n p kept dropped taken unused h g born free = grind (arith, common_steps)

-- a taken number is born afterwards
pub born_mark : (n : ℕ) (p : Option BlockStatus) (t d : Bool) → (t ≡ true → is_at is_free p ≡ true)
    → (d ≡ true → is_at is_used p ≡ true) → t ≡ true → is_at is_used (number_after n p t d) ≡ true
born_mark n p t d f g e = grind (arith, common_steps)
