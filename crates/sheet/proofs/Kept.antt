-- The notes of one car: their shares. Assumes nothing.
use Rattle.std.proofs.Common.{◌≡◌, Bool, true, false, cond, List, [], ◌∷◌, filter, sym, refl, ap, ◌∙◌, ap₂}
use Rattle.std.specs.List.{sum_by}
use Rattle.std.proofs.lemmas.Bool.{cond-false, and_left}
use Rattle.record.specs.declared.Car.{Car}
use Rattle.record.specs.declared.Note.{Note}
use Rattle.share.specs.Ticks.{of_car, yes_of, per_mille_lem}
use Rattle.sheet.specs.Rows.{SameShares}

-- notes that do not count may be left out
kept : (p counts : Note → Bool) → ((n : Note) → p n ≡ false → counts n ≡ false) → (ns : List Note) → filter counts (filter p ns) ≡ filter counts ns
kept p counts off [] = refl
kept p counts off (n ∷ ns) = go (kept p counts off ns) (p n) refl
  where
    go : filter counts (filter p ns) ≡ filter counts ns → (b : Bool) → p n ≡ b → filter counts (cond b (n ∷ filter p ns) (filter p ns)) ≡ filter counts (n ∷ ns)
    go rest true e = ap (λ ms. cond (counts n) (n ∷ ms) ms) rest
    go rest false e = rest ∙ sym (cond-false _ _ _ (off n e))

pub same_shares : (ns : List Note) (c : Car) → SameShares (filter (of_car c) ns) ns c
same_shares ns c =
    let all = ap (sum_by (λ n. n.ticks)) (kept (of_car c) (of_car c) (λ n e. e) ns) in
    (all, λ i. ap₂ per_mille_lem (ap (sum_by (λ n. n.ticks)) (kept (of_car c) (yes_of c i) (λ n e. and_left _ _ e) ns)) all)
