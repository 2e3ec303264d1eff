-- Word by word no mark from b on is set. Assumes nothing.
use Rattle.std.proofs.Common.{◌≡◌, ℕ, ◌-◌, ◌*◌, ◌/◌, ◌<◌, ◌≤◌, Bool, true, false, MatchBool, List, length, refl, sym, ⊎_elim, arith, rules, tests}
use Rattle.std.specs.List.{AllWithin, HoldsAt, range_with_len}
use Rattle.std.proofs.lemmas.Bool.{cases_lt, cases_Bool}
use Rattle.std.proofs.lemmas.List.FromFn.{length-range_with_len, get_or-range_with_len}
use Rattle.std.proofs.lemmas.Iterator.{cases_from_all, YieldsList-from_range}
use Rattle.bit_marks.specs.Marks.{marked, ends_by}
use Rattle.bit_marks.specs.Places.{ends_decided, past_words}
use Rattle.bit_marks.proofs.words.Marks.all_below.Goals as goal

-- no mark of the words from that of b on is set from b on, or some is: the words are those that there are
by_words : (b : ℕ) (ws : List ℕ) (r : Bool) → length ws ≡ 16 → (let all = range_with_len (b / 64) (16 - b / 64) in MatchBool r (AllWithin (λ at. (d : ℕ) → b ≤ d → d / 64 ≡ at → marked ws d ≡ false) all 0 (length all))
    ((k : ℕ) × (k < length all) × HoldsAt (λ at. ((d : ℕ) → b ≤ d → d / 64 ≡ at → marked ws d ≡ false) → ⊥) all k)) → r ≡ ends_by b ws
by_words b ws true l h = sym ((ends_decided b ws).1 (λ d p. ⊎_elim (within d p) (past_words ws d) (cases_lt d (64 * length ws))))
  where
    within : (d : ℕ) → b ≤ d → d < 64 * length ws → marked ws d ≡ false
    within d p q =
        let k : d / 64 - b / 64 < 16 - b / 64 = omega arith in
        h (d / 64 - b / 64) 0 (omega arith) (omega (arith, length-range_with_len (b / 64) (16 - b / 64))) d p
        (omega (arith, get_or-range_with_len (b / 64) (16 - b / 64) (d / 64 - b / 64) 0 k))
by_words b ws false l h = ⊎_elim (λ e. absurd (h.2 0 (λ d p _. (ends_decided b ws).0 e d p))) sym (cases_Bool (ends_by b ws))

pub returns : goal.returns
returns c =
    let b = c.args.b in
    let ws = c.args.self.now.words in
    let by_call = cases_from_all _ _ _ (λ at. (d : ℕ) → b ≤ d → d / 64 ≡ at → marked ws d ≡ false) (λ at. ((d : ℕ) → b ≤ d → d / 64 ≡ at → marked ws d ≡ false) → ⊥) c.all.ensures.ran
    (YieldsList-from_range (b / 64) 16 (16 - b / 64) refl refl) (λ x q k. search (rules, tests)) (λ x q k. search (rules, tests)) in
    by_words b ws c.all.result (omega arith) by_call
