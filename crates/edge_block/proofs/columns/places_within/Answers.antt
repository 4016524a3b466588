use Rattle.std.proofs.{Common.arith, Common.inl, Common.inr, lemmas.Nat.Bits.bit_at-zero}
use Rattle.edge_block.proofs.Times.{window_misses, window_covers}
use Rattle.edge_block.proofs.columns.places_within.Goals as goal

pub returns-then-greatest-lo : goal.returns-then-greatest-lo
returns-then-greatest-lo c = λ place. (
  (λ set. absurd (omega (arith, bit_at-zero place))),
  (λ at. absurd (window_misses c.args.live c.args.recents.now c.args.times c.args.lo c.args.hi place c.requires
      (elim c.if-greatest-lo.either [ inl before ↦ inl before | inr after ↦ inr after.1 ]) at)),
)

pub returns-then-greatest-hi : goal.returns-then-greatest-hi
returns-then-greatest-hi c = λ place. (
  (λ lives. window_covers c.args.live c.args.recents.now c.args.times c.args.lo c.args.hi place
      (omega arith) c.told-recents c.requires (omega arith) (omega arith) lives),
  (λ at. at.lives),
)
