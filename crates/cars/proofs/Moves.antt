-- What a refused record leaves. Assumes nothing.
use Rattle.std.proofs.Common.{◌≡◌, ℕ, Bool, true, false, cond, List, get_or, set, is_ok, Some, Ok, Err, Result, sym, refl, ap, ◌∙◌}
use Rattle.std.specs.Result.{result_err}
use Rattle.std.proofs.lemmas.List.{set-get_or}
use Rattle.std.proofs.lemmas.Bool.{eqb-true}
use Rattle.refusal.specs.Faults.{refusal}
use Rattle.record.specs.Layout.{is_I}
use Rattle.cars.specs.declared.CarState.{CarState}
use Rattle.record.specs.declared.Car.{Car}
use Rattle.record.specs.Cars.{car_place}
use Rattle.cars.specs.declared.CarTable.{CarTable}
use Rattle.cars.specs.declared.FeedFault.{FeedFault}
use Rattle.cars.specs.declared.Slot.{Slot}
use Rattle.cars.specs.Cars.{no_slot, cars_of, place_of}
use Rattle.cars.specs.Moves.{Moved, MovedAt, Recorded, record_refusal, moved, is_running}
use Rattle.cars.proofs.Places.{car_found}

abbrev table : List Slot → ℕ → CarTable
table ss n = record { slots = ss; count = n }

unmoved : (s s' : Slot) (letter : ℕ) (r : Result Unit FeedFault) → Moved s letter s' r → is_ok r ≡ false → s' ≡ s
unmoved s s' letter (Ok u) m off = cc
unmoved s s' letter (Err e) m off = m.1

pub unmoved_at : (ss : List Slot) (n i letter : ℕ) (s' : Slot) (r : Result Unit FeedFault) → Moved (get_or ss i no_slot) letter s' r → is_ok r ≡ false → table (set ss i s') n ≡ table ss n
unmoved_at ss n i letter s' r m off = ap (λ s. table (set ss i s) n) (unmoved _ s' letter r m off) ∙ ap (λ xs. table xs n) (set-get_or ss i no_slot)

-- inputs leave a car as it is
moved_inputs : (c : Car) (s s' : CarState) (letter : ℕ) → is_I letter ≡ true → moved c s letter ≡ Ok s' → s' ≡ s
moved_inputs c s s' letter on e = after (is_running s) (sym first ∙ e)
  where
    is : letter ≡ 73
    is = eqb-true letter 73 on

    first : moved c s letter ≡ cond (is_running s) (Ok s) (Err (refusal 18 (car_place c)))
    first = ap (moved c s) is

    after : (b : Bool) → cond b (Ok s) (Err (refusal 18 (car_place c))) ≡ Ok s' → s' ≡ s
    after true f = cc
    after false f = cc

still : (s s' : Slot) (letter : ℕ) (r : Result Unit FeedFault) → is_I letter ≡ true → Moved s letter s' r → s' ≡ s
still s s' letter (Ok u) on m =
    let t = moved_inputs s.car s.state s'.state letter on m.0 in
    λ i. record { car = m.1 i; state = t i }
still s s' letter (Err e) on m = m.1

pub still_at : (ss : List Slot) (n i letter : ℕ) (s' : Slot) (r : Result Unit FeedFault) → Moved (get_or ss i no_slot) letter s' r → is_I letter ≡ true → table (set ss i s') n ≡ table ss n
still_at ss n i letter s' r m on = ap (λ s. table (set ss i s) n) (still _ s' letter r on m) ∙ ap (λ xs. table xs n) (set-get_or ss i no_slot)

-- a record that the listed car refuses
pub refused_at : (t : CarTable) (c : Car) (letter i : ℕ) (t' : CarTable) (e : FeedFault) → place_of (cars_of t) c ≡ Some i → MovedAt t i letter t' (Err e) → Recorded t c letter t' (Err e)
refused_at t c letter i t' e found m =
    (ap (record_refusal t c letter) found ∙ ap (λ d. result_err (moved d (get_or t.slots i no_slot).state letter)) (sym (car_found t c i found)) ∙ ap result_err m.there.0, m.refused refl)
