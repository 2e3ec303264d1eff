-- The oldest episode alone tells the verdict ahead. Assumes nothing.
use Rattle.std.proofs.Common.{◌≡◌, ℕ, ◌+◌, ◌-◌, ◌<◌, ◌≤◌, Bool, true, false, ◌&&◌, ◌||◌, leb, List, [], ◌∷◌, Some, None, refl, ap, ◌∙◌, inl, inr, arith}
use Rattle.std.proofs.lemmas.Bool.{cases_lt, and_from, le-leb, or_right}
use Rattle.std.proofs.lemmas.Bool.Decides.{nat_tests}
use Rattle.std.proofs.Math.Bool.{or-false}
use Rattle.mitl.specs.Memory.{ahead, Lasts}
use Rattle.clock_pairs.specs.declared.Episode.{Episode}
use Rattle.clock_pairs.specs.Episodes.{covers, reached}
use Rattle.clock_pairs.proofs.Order.{Apart}

-- the last of the list
abbrev pub oldest : Episode → List Episode → Episode
oldest e [] = e
oldest e (f ∷ es) = oldest f es

module _ (a b : ℕ) (upto : a ≤ b) where
  oldest_fell : (low : ℕ) (e : Episode) (es : List Episode) → Apart a b low (e ∷ es) → (low ≤ (oldest e es).fall) × ((oldest e es).fall < (oldest e es).rise) × ((oldest e es).rise ≤ b)
  oldest_fell low e [] p = (p.0, p.1, p.2)
  oldest_fell low e (f ∷ es) p =
      let r = oldest_fell (e.rise + (b - a) + 1) f es p.3 in
      (omega (arith, r.0, p.0, p.1), r.1, r.2)

  too_new : (e o : Episode) (d : ℕ) → e.rise + (b - a) + 1 ≤ o.fall → d + o.fall ≤ b → covers a b e d ≡ false
  too_new e o d far near = grind (arith, nat_tests)

  -- up to the end of its reach the marks are those of the oldest episode
  first_marks : (low : ℕ) (e : Episode) (es : List Episode) → Apart a b low (e ∷ es) → (d : ℕ) → d + (oldest e es).fall ≤ b → reached a b (e ∷ es) d ≡ covers a b (oldest e es) d
  first_marks low e [] p d near = or-false (covers a b e d)
  first_marks low e (f ∷ es) p d near =
      ap (λ t. t || reached a b (f ∷ es) d) (too_new e (oldest f es) d (oldest_fell (e.rise + (b - a) + 1) f es p.3).0 near)
      ∙ first_marks (e.rise + (b - a) + 1) f es p.3 d near

  module _ (e : Episode) (es : List Episode) (p : Apart a b 0 (e ∷ es)) (v : Bool) where
    abbrev on : ℕ → Bool
    on = ahead a v (reached a b (e ∷ es))

    on_first : (d : ℕ) → d + (oldest e es).fall ≤ b → on d ≡ (covers a b (oldest e es) d || (v && leb a d))
    on_first d near = ap (λ t. t || (v && leb a d)) (first_marks 0 e es p d near)

    -- the oldest episode is not in reach yet
    pub not_yet : 0 < a - (oldest e es).rise → Lasts on false (Some (a - (oldest e es).rise))
    not_yet pos =
        let o = oldest_fell 0 e es p in
        let before : (d : ℕ) → d < a - (oldest e es).rise → on d ≡ false = λ d lt. on_first d (omega (arith, o.0, o.1)) ∙ quiet (oldest e es) d v lt o.1 in
        (pos, before, on_first (a - (oldest e es).rise) (omega (arith, o.1)) ∙ starts (oldest e es) v (omega arith) o.1)
      where
        quiet : (o : Episode) (d : ℕ) (v : Bool) → d < a - o.rise → o.fall < o.rise → (covers a b o d || (v && leb a d)) ≡ false
        quiet o d true lt fell = grind (arith, nat_tests)
        quiet o d false lt fell = grind (arith, nat_tests)

        starts : (o : Episode) (v : Bool) → o.rise < a → o.fall < o.rise → (covers a b o (a - o.rise) || (v && leb a (a - o.rise))) ≡ true
        starts o v lt fell = grind (arith, nat_tests)

    in_reach : a ≤ (oldest e es).rise → (d : ℕ) → d < b - (oldest e es).fall → on d ≡ true
    in_reach le d lt = on_first d (omega arith) ∙ yes_there (oldest e es) d le lt
      where
        yes_there : (o : Episode) (d : ℕ) → a ≤ o.rise → d < b - o.fall → (covers a b o d || (v && leb a d)) ≡ true
        yes_there o d le lt = grind (arith, nat_tests)

    -- its reach ends before the operand's own yes is a ticks old, or the operand is no
    pub until : a ≤ (oldest e es).rise → (v ≡ true → b - (oldest e es).fall < a) → Lasts on true (Some (b - (oldest e es).fall))
    until le short =
        let o = oldest_fell 0 e es p in
        let pos : 0 < b - (oldest e es).fall = omega (arith, o.1, o.2) in
        (pos, in_reach le, on_first (b - (oldest e es).fall) (omega arith) ∙ ends (oldest e es) v short)
      where
        ends : (o : Episode) (v : Bool) → (v ≡ true → b - o.fall < a) → (covers a b o (b - o.fall) || (v && leb a (b - o.fall))) ≡ false
        ends o true short = let lt = short refl in grind (arith, nat_tests)
        ends o false short = grind (arith, nat_tests)

    pub for_ever : a ≤ (oldest e es).rise → v ≡ true → a ≤ b - (oldest e es).fall → Lasts on true None
    for_ever le steady long = always
      where
        always : (d : ℕ) → on d ≡ true
        always d = elim (cases_lt d (b - (oldest e es).fall)) [ inl lt ↦ in_reach le d lt | inr past ↦ or_right (reached a b (e ∷ es) d) (v && leb a d) (and_from _ _ steady (le-leb _ _ (omega arith))) ]
