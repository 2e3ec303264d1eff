-- The test of the room without a division. Assumes nothing.
use Rattle.std.proofs.Common.{◌≡◌, ℕ, ◌+◌, ◌-◌, ◌*◌, ◌/◌, ◌<◌, ◌≤◌, ltb, leb, ◌⊎◌, sym, ◌∙◌, inl, inr, div-lt_iff_lt-mul, arith}
use Rattle.std.proofs.lemmas.Bool.{cases_lt, lt-ltb, le-ltb, le-leb, lt-leb}
use Rattle.clock_pairs.proofs.has_room.Goals as goal

room : (x k : ℕ) → 0 < k → ltb x (32 * k) ≡ leb (1 + x / k) 32
room x k pos =
    elim (cases_lt x (32 * k)) [
      | inl lt ↦ lt-ltb _ _ lt ∙ sym (le-leb _ _ (omega (arith, (div-lt_iff_lt-mul {k = k} {x = x} {y = 32} pos).1 lt)))
      | inr le ↦ le-ltb _ _ le ∙ sym (lt-leb _ _ (low le (cases_lt (x / k) 32)))
    ]
  where
    low : 32 * k ≤ x → (x / k < 32) ⊎ (32 ≤ x / k) → 32 < 1 + x / k
    low le (inl lt) = absurd (omega (arith, (div-lt_iff_lt-mul {k = k} {x = x} {y = 32} pos).0 lt))
    low le (inr more) = omega arith

pub returns : goal.returns
returns c = room (c.args.b - 1) (c.args.b - c.args.a + 2) (omega arith)
