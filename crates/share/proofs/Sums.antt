-- Sums over notes: one note more, and a part is at most the whole. Assumes nothing.
use Rattle.std.proofs.Common.{◌≡◌, ℕ, ◌+◌, ◌*◌, ◌<◌, ◌≤◌, Bool, true, false, cond, ◌&&◌, List, [], ◌∷◌, ◌++◌, length, get_or, take, filter, ap, ◌∙◌, arith, sum_by}
use Rattle.std.proofs.lemmas.List.Elements.{filter_more}
use Rattle.std.proofs.lemmas.List.Sums.{sum_by-append, sum_by-cons}
use Rattle.std.proofs.lemmas.Nat.{div_below}
use Rattle.record.specs.declared.Car.{Car}
use Rattle.record.specs.declared.Note.{Note}
use Rattle.share.specs.Ticks.{of_car, bit, ticks_where, car_ticks, rule_ticks, per_mille_lem}

abbrev ticks : List Note → ℕ
ticks ns = sum_by (λ n. n.ticks) ns

module _ (counts : Note → Bool) (ns : List Note) (i : ℕ) (d : Note) (within : i < length ns) where
  with_next : (b : Bool) → counts (get_or ns i d) ≡ b → ticks_where counts (take (i + 1) ns) ≡ ticks (filter counts (take i ns) ++ cond b (get_or ns i d ∷ []) [])
  with_next b is = ap ticks (filter_more counts ns i d within ∙ ap (λ x. filter counts (take i ns) ++ cond x (get_or ns i d ∷ []) []) is)

  pub counted_more : counts (get_or ns i d) ≡ true → ticks_where counts (take (i + 1) ns) ≡ ticks_where counts (take i ns) + (get_or ns i d).ticks
  counted_more on = let s = sum_by-append (λ n. n.ticks) (filter counts (take i ns)) (get_or ns i d ∷ []) in omega (arith, with_next true on, s, sum_by-cons (λ n. n.ticks) (get_or ns i d) [])

  pub passed_more : counts (get_or ns i d) ≡ false → ticks_where counts (take (i + 1) ns) ≡ ticks_where counts (take i ns)
  passed_more off = let s = sum_by-append (λ n. n.ticks) (filter counts (take i ns)) [] in omega (arith, with_next false off, s)

both_le : (x y : Bool) (n : Note) (ms ns : List Note) → ticks ms ≤ ticks ns → ticks (cond (x && y) (n ∷ ms) ms) ≤ ticks (cond x (n ∷ ns) ns)
both_le true true n ms ns h = omega (arith, sum_by-cons (λ n. n.ticks) n ms, sum_by-cons (λ n. n.ticks) n ns)
both_le true false n ms ns h = omega (arith, sum_by-cons (λ n. n.ticks) n ns)
both_le false y n ms ns h = h

pub rule_le : (ns : List Note) (c : Car) (i : ℕ) → rule_ticks ns c i ≤ car_ticks ns c
rule_le [] c i = omega arith
rule_le (n ∷ ns) c i = both_le (of_car c n) (bit i n.word) n _ _ (rule_le ns c i)

-- a part of a whole is at most a thousand thousandths
pub figure_le : (part whole : ℕ) → part ≤ whole → 0 < whole → per_mille_lem part whole ≤ 1000
figure_le part whole le some = omega (arith, div_below (part * 1000) whole 1001 some (omega arith))
