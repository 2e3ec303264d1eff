-- A record is taken by a watch that keeps a book. Assumes nothing.
use Rattle.std.proofs.Common.{◌≡◌, ℕ, ◌<◌, min, Bool, true, false, cond, not, ◌&&◌, ◌||◌, eqb, ◌⊎◌, List, [], ◌∷◌, ◌++◌, map, length, get_or, take, drop, replicate, is_some, Some, None, Ok, Err, Option, Result, sym, refl, ap, ◌∙◌, subst, ap₂, inl, inr}
use mathlib.Core.Path.{fun_ext}
use lib.ListN.{length-map}
use lib.Seq.{take-append_seam}
use Rattle.std.specs.List.{range_with_len}
use Rattle.std.specs.Result.{result_err}
use Rattle.std.proofs.lemmas.Bool.{cases_Bool, cases_eq, cond-true, cond-false, not_from_false, not-false, or_parts, or_cases, eqb-true, eq-eqb, both_ways}
use Rattle.mitl.specs.declared.Row.{Row}
use Rattle.mitl.specs.Memory.{Meaning}
use Rattle.mitl.specs.Rows.{timed_rows}
use Rattle.mitl.specs.Runs.{ticks}
use Rattle.refusal.specs.declared.Refusal.{Refusal}
use Rattle.refusal.specs.Faults.{Fault, refusal, fault, first_fault}
use Rattle.refusal.proofs.Held.{none_parts}
use Rattle.refusal.proofs.Firsts.{after_none, before_rest}
use Rattle.record.specs.declared.Car.{Car}
use Rattle.record.specs.declared.Note.{Note}
use Rattle.record.specs.declared.Record.{Record}
use Rattle.record.specs.Layout.{is_R, is_I, is_E, is_V, known, fields_at, field_faults, zero_fault}
use Rattle.record.specs.Cars.{same_car, no_car, car_place}
use Rattle.record.proofs.Cars.{same_self, same_is}
use Rattle.plan.specs.Rows.{rows_of}
use Rattle.engine.specs.declared.Fed.{Fed}
use Rattle.engine.specs.Means.{Means}
use Rattle.engine.specs.Due.{due, covered}
use Rattle.engine.specs.Judged.{note}
use Rattle.cars.specs.declared.CarState.{CarState}
use Rattle.cars.specs.declared.CarState.TheVariants.{Running, Ended}
use Rattle.cars.specs.declared.CarTable.{CarTable}
use Rattle.cars.specs.declared.FeedFault.{FeedFault}
use Rattle.cars.specs.Cars.{no_slot, listed, place_of, cars_of, state_at}
use Rattle.cars.specs.Moves.{is_running, moved, record_refusal, Recorded}
use Rattle.cars.specs.Refusals.{of_feed}
use Rattle.cars.proofs.Places.{car_found}
use Rattle.memories.specs.Parts.{part_at, OnlyPart, CarCleared, CarFed}
use Rattle.memories.proofs.Lent.{other_part, same_only}
use Rattle.book.specs.Book.{Book, with_car, noted, rows_of_book, due_runs, due_notes, restarted, finished, judged}
use Rattle.book.specs.Calls.{feed_faults, car_faults}
use Rattle.watch.specs.Keeping.{Held, held, Keeps}
use Rattle.watch.specs.Replies.{bytes_faults}
use Rattle.watch.proofs.Asking.{listed_is, in_list, place_is, some_cars, part_means}

-- the bytes' faults come first, then the car's
pub bytes_first : (k : Book) (bytes : List ℕ) (places : ℕ) (r : Refusal) → first_fault (bytes_faults bytes) ≡ Some r → first_fault (feed_faults k bytes places) ≡ Some r
bytes_first k bytes places r e = before_rest (bytes_faults bytes) (car_faults k (fields_at bytes) places) r e

pub car_next : (k : Book) (bytes : List ℕ) (places : ℕ) → first_fault (bytes_faults bytes) ≡ None → first_fault (feed_faults k bytes places) ≡ first_fault (car_faults k (fields_at bytes) places)
car_next k bytes places none = after_none (bytes_faults bytes) (car_faults k (fields_at bytes) places) none

-- a record for a car has one of three letters
abbrev pub Lettered : ℕ → Type 0
Lettered l = (l ≡ 82) ⊎ ((l ≡ 73) ⊎ (l ≡ 69))

pub lettered : (bytes : List ℕ) → first_fault (bytes_faults bytes) ≡ None → Lettered (fields_at bytes).letter
lettered bytes none =
    let l = (fields_at bytes).letter in
    let rest = (none_parts (fault (not (eqb (length bytes) 12)) 14 0) (fault (not (known l) || is_V l) 15 0 ∷ zero_fault (get_or bytes 1 0) ∷ field_faults (fields_at bytes)) none).1 in
    let off = or_parts (not (known l)) (is_V l) (none_parts (fault (not (known l) || is_V l) 15 0) (zero_fault (get_or bytes 1 0) ∷ field_faults (fields_at bytes)) rest).0 in
    by l (not-false (known l) off.0) off.1
  where
    by : (l : ℕ) → known l ≡ true → is_V l ≡ false → Lettered l
    by l on off =
        elim (or_cases (is_R l || is_I l) (is_E l || is_V l) on) [
          | inl a ↦ elim (or_cases (is_R l) (is_I l) a) [ inl r ↦ inl (eqb-true l 82 r) | inr i ↦ inr (inl (eqb-true l 73 i)) ]
          | inr b ↦ elim (or_cases (is_E l) (is_V l) b) [ inl e ↦ inr (inr (eqb-true l 69 e)) | inr v ↦ absurd (both_ways (is_V l) off v) ]
        ]

-- the car's faults, by whether it is listed and how it stands
abbrev three : ℕ → Car → Bool → CarState → ℕ → List Fault
three l c in_list s places =
    fault (not in_list) 17 (car_place c) ∷ fault ((is_I l || is_E l) && not (is_running s)) 18 (car_place c) ∷ fault (is_I l && eqb places 0) 19 0 ∷ []

-- what the state machine refuses is the first of them
refused_18 : (l : ℕ) (c : Car) (s : CarState) (places : ℕ) (r : Refusal) → Lettered l → moved c s l ≡ Err r → first_fault (three l c true s places) ≡ Some r
refused_18 l c s places r (inl is) e = let z : ◌≡◌ {A = Result CarState Refusal} (Ok Running) (Err r) = sym (ap (moved c s) is) ∙ e in cc
refused_18 l c s places r (inr (inl is)) e = ap (λ x. first_fault (three x c true s places)) is ∙ go (is_running s) (sym (ap (moved c s) is) ∙ e)
  where
    go : (b : Bool) → cond b (Ok s) (Err (refusal 18 (car_place c))) ≡ Err r → cond (not b) (Some (refusal 18 (car_place c))) (cond (true && eqb places 0) (Some (refusal 19 0)) None) ≡ Some r
    go true f = cc
    go false f = cc
refused_18 l c s places r (inr (inr is)) e = ap (λ x. first_fault (three x c true s places)) is ∙ go (is_running s) (sym (ap (moved c s) is) ∙ e)
  where
    go : (b : Bool) → cond b (Ok Ended) (Err (refusal 18 (car_place c))) ≡ Err r → cond (not b) (Some (refusal 18 (car_place c))) None ≡ Some r
    go true f = cc
    go false f = cc

-- what it takes has at most the third
taken_18 : (l : ℕ) (c : Car) (s s' : CarState) (places : ℕ) → Lettered l → moved c s l ≡ Ok s' → first_fault (three l c true s places) ≡ cond (is_I l && eqb places 0) (Some (refusal 19 0)) None
taken_18 l c s s' places (inl is) e = ap (λ x. first_fault (three x c true s places)) is ∙ ap (λ x. cond (is_I x && eqb places 0) (Some (refusal 19 0)) None) (sym is)
taken_18 l c s s' places (inr (inl is)) e =
    ap (λ x. first_fault (three x c true s places)) is ∙ go (is_running s) (sym (ap (moved c s) is) ∙ e) ∙ ap (λ x. cond (is_I x && eqb places 0) (Some (refusal 19 0)) None) (sym is)
  where
    go : (b : Bool) → cond b (Ok s) (Err (refusal 18 (car_place c))) ≡ Ok s'
        → cond (not b) (Some (refusal 18 (car_place c))) (cond (true && eqb places 0) (Some (refusal 19 0)) None) ≡ cond (true && eqb places 0) (Some (refusal 19 0)) None
    go true f = refl
    go false f = cc
taken_18 l c s s' places (inr (inr is)) e =
    ap (λ x. first_fault (three x c true s places)) is ∙ go (is_running s) (sym (ap (moved c s) is) ∙ e) ∙ ap (λ x. cond (is_I x && eqb places 0) (Some (refusal 19 0)) None) (sym is)
  where
    go : (b : Bool) → cond b (Ok Ended) (Err (refusal 18 (car_place c))) ≡ Ok s' → cond (not b) (Some (refusal 18 (car_place c))) None ≡ None
    go true f = refl
    go false f = cc

module _ {M : Type 0} (meaning : M → Meaning) (room : ℕ) (w : Held M) (k : Book) (keeps : Keeps meaning room w k) (r : Record) (places : ℕ) (letter : Lettered r.letter) where
  abbrev c : Car
  c = r.car

  state_is : (at : ℕ) → place_of (cars_of w.inner.cars) c ≡ Some at → state_at w.inner.cars at ≡ k.state c
  state_is at is = let p = place_is meaning room w k keeps c at is in keeps.states at p.0 ∙ ap k.state p.1

  faults_are : (at : ℕ) → place_of (cars_of w.inner.cars) c ≡ Some at → first_fault (car_faults k r places) ≡ first_fault (three r.letter c true (state_at w.inner.cars at) places)
  faults_are at is = ap₂ (λ b s. first_fault (three r.letter c b s places)) (in_list meaning room w k keeps c at is) (sym (state_is at is))

  -- the car is not listed, or does not run where it has to
  pub car_refused : (t' : CarTable) (e : FeedFault) → Recorded w.inner.cars c r.letter t' (Err e) → first_fault (car_faults k r places) ≡ Some (of_feed e)
  car_refused t' e told = by (place_of (cars_of w.inner.cars) c) refl told.0
    where
      by : (o : Option ℕ) → place_of (cars_of w.inner.cars) c ≡ o → record_refusal w.inner.cars c r.letter o ≡ Some (of_feed e) → first_fault (car_faults k r places) ≡ Some (of_feed e)
      by None is f = cond-true (not (listed k.cars c)) (Some (refusal 17 (car_place c))) _ (not_from_false _ (sym (listed_is meaning room w k keeps c) ∙ ap is_some is)) ∙ f
      by (Some at) is f = faults_are at is ∙ part (moved c (state_at w.inner.cars at) r.letter) refl f
        where
          part : (x : Result CarState Refusal) → moved c (state_at w.inner.cars at) r.letter ≡ x → result_err x ≡ Some (of_feed e)
              → first_fault (three r.letter c true (state_at w.inner.cars at) places) ≡ Some (of_feed e)
          part (Ok s) m f = cc
          part (Err q) m f = refused_18 r.letter c (state_at w.inner.cars at) places q letter m ∙ f

  module _ (t' : CarTable) (at : ℕ) (told : Recorded w.inner.cars c r.letter t' (Ok at)) where
    abbrev s : CarState
    s = state_at w.inner.cars at

    abbrev s' : CarState
    s' = state_at t' at

    pub moved_to : moved c s r.letter ≡ Ok s'
    moved_to = ap (λ d. moved d s r.letter) (sym (car_found w.inner.cars c at told.0)) ∙ told.1.there.0

    pub no_place_only : first_fault (car_faults k r places) ≡ cond (is_I r.letter && eqb places 0) (Some (refusal 19 0)) None
    no_place_only = faults_are at told.0 ∙ taken_18 r.letter c s s' places letter moved_to

    same_cars : (i : ℕ) → (get_or t'.slots i no_slot).car ≡ (get_or w.inner.cars.slots i no_slot).car
    same_cars i = elim (cases_eq i at) [
      | inl is ↦ subst (λ j. (get_or t'.slots j no_slot).car ≡ (get_or w.inner.cars.slots j no_slot).car) (sym is) told.1.there.1
      | inr not ↦ ap (λ x. x.car) (told.1.others i not)
    ]

    pub cars_same : cars_of t' ≡ cars_of w.inner.cars
    cars_same = ap₂ (λ f n. map f (range_with_len 0 (min n 32))) (fun_ext same_cars) told.1.count_same

    abbrev plan_rows : List Row
    plan_rows = rows_of w.inner.plan

    -- The car at this place has a new state and history, and its memories mean it; the others' stay.
    pub car_kept : (ms' : List M) (state : Car → CarState) (history written : Car → List ℕ)
        → s' ≡ state c → ((d : Car) → same_car d c ≡ false → state d ≡ k.state d) → ((d : Car) → same_car d c ≡ false → history d ≡ k.history d)
        → OnlyPart (timed_rows (rows_of w.inner.plan)) at w.memories ms'
        → Means meaning (rows_of w.inner.plan) (part_at (timed_rows (rows_of w.inner.plan)) at ms') (history c)
        → Keeps meaning room (held (record { plan = w.inner.plan; cars = t' }) ms')
        (record { table = k.table; cars = k.cars; state = state; history = history; written = written })
    car_kept ms' state history written own states histories only means = record {
      rows = keeps.rows;
      numbers = keeps.numbers;
      cars = cars_same ∙ keeps.cars;
      apart = keeps.apart;
      states = λ i lt. elim (cases_eq i at) [
        | inl is ↦ subst (λ j. state_at t' j ≡ state (get_or k.cars j no_car)) (sym is) (own ∙ ap state (sym here.1))
        | inr not ↦ ap (λ x. x.state) (told.1.others i not) ∙ keeps.states i lt ∙ sym (states (get_or k.cars i no_car) (other i lt not))
      ];
      size = only.long ∙ keeps.size;
      enough = keeps.enough;
      means = λ i lt. elim (cases_eq i at) [
        | inl is ↦ subst (λ j. Means meaning plan_rows (part_at (timed_rows plan_rows) j ms') (history (get_or k.cars j no_car))) (sym is)
            (subst (λ d. Means meaning plan_rows (part_at (timed_rows plan_rows) at ms') (history d)) (sym here.1) means)
        | inr not ↦ subst (λ h. Means meaning plan_rows (part_at (timed_rows plan_rows) i ms') h) (sym (histories (get_or k.cars i no_car) (other i lt not)))
            (subst (λ xs. Means meaning plan_rows xs (k.history (get_or k.cars i no_car))) (sym (other_part (timed_rows plan_rows) at i w.memories ms' only not)) (keeps.means i lt))
      ];
    }
      where
        here : (at < length k.cars) × (get_or k.cars at no_car ≡ c)
        here = place_is meaning room w k keeps c at told.0

        other : (i : ℕ) → i < length k.cars → (i ≡ at → ⊥) → same_car (get_or k.cars i no_car) c ≡ false
        other i lt not = elim (cases_Bool (same_car (get_or k.cars i no_car) c)) [
          | inl same ↦ absurd (not (keeps.apart i at lt here.0 (same_is (get_or k.cars i no_car) c same ∙ sym here.1)))
          | inr differ ↦ differ
        ]

    means_now : Means meaning (rows_of w.inner.plan) (part_at (timed_rows (rows_of w.inner.plan)) at w.memories) (k.history c)
    means_now = part_means meaning room w k keeps c at told.0

    with_self : {X : Type 0} (x : X) (f : Car → X) → with_car c x f c ≡ x
    with_self x f = cond-true (same_car c c) x (f c) (same_self c)

    with_other : {X : Type 0} (x : X) (f : Car → X) (d : Car) → same_car d c ≡ false → with_car c x f d ≡ f d
    with_other x f d off = cond-false (same_car d c) x (f d) off

    -- after a restart
    pub restart_kept : (ms' : List M) → r.letter ≡ 82 → CarCleared meaning (rows_of w.inner.plan) at w.memories ms'
        → Keeps meaning room (held (record { plan = w.inner.plan; cars = t' }) ms') (restarted k c)
    restart_kept ms' is told' =
        let runs : s' ≡ Running = let e : ◌≡◌ {A = Result CarState Refusal} (Ok Running) (Ok s') = ap (moved c s) (sym is) ∙ moved_to in cc in
        car_kept ms' (with_car c Running k.state) (with_car c [] k.history) (with_car c [] k.written) (runs ∙ sym (with_self Running k.state))
        (with_other Running k.state) (with_other [] k.history) told'.only
        (subst (λ h. Means meaning (rows_of w.inner.plan) (part_at (timed_rows (rows_of w.inner.plan)) at ms') h) (sym (with_self [] k.history)) (told'.means (k.history c) means_now))

    -- after an end
    pub end_kept : r.letter ≡ 69 → Keeps meaning room (held (record { plan = w.inner.plan; cars = t' }) w.memories) (finished k c)
    end_kept is =
        let ends : s' ≡ Ended = ended (is_running s) (ap (moved c s) (sym is) ∙ moved_to) in
        car_kept w.memories (with_car c Ended k.state) k.history k.written (ends ∙ sym (with_self Ended k.state))
        (with_other Ended k.state) (λ d off. refl) (same_only (timed_rows (rows_of w.inner.plan)) at w.memories) means_now
      where
        ended : (b : Bool) → cond b (Ok Ended) (Err (refusal 18 (car_place c))) ≡ Ok s' → s' ≡ Ended
        ended true e = cc
        ended false e = cc

    -- after inputs
    module _ (is : r.letter ≡ 73) where
      inputs : is_I r.letter ≡ true
      inputs = eq-eqb r.letter 73 is

      pub due_is : due_runs k r places ≡ due (rows_of w.inner.plan) (k.history c) r.ticks r.word places
      due_is =
          cond-true (is_I r.letter) (due (rows_of_book k) (k.history c) r.ticks r.word places) [] inputs
          ∙ ap (λ rs. due rs (k.history c) r.ticks r.word places) (sym (keeps.rows (some_cars meaning room w k keeps c at told.0)))

      stays : s' ≡ k.state c
      stays = ap (λ t. state_at t at) (told.1.inputs inputs) ∙ state_is at told.0

      pub inputs_kept : (ms' : List M) (notes : List Note) (ns ns' : List Note) (reply : Fed) → length ns ≡ places
          → CarFed meaning (rows_of w.inner.plan) at c r.word r.ticks w.memories ns ms' ns' reply
          → Keeps meaning room (held (record { plan = w.inner.plan; cars = t' }) ms') (judged k r places notes)
      inputs_kept ms' notes ns ns' reply size fed' =
          let j = fed'.judged (k.history c) means_now in
          let h = k.history c ++ replicate (ticks (due_runs k r places)) r.word in
          let same : k.history c ++ replicate (covered (rows_of w.inner.plan) (k.history c) r.ticks r.word (length ns)) r.word ≡ h =
          ap (λ n. k.history c ++ replicate n r.word) (ap (λ p. covered (rows_of w.inner.plan) (k.history c) r.ticks r.word p) size ∙ ap ticks (sym due_is)) in
          car_kept ms' k.state (with_car c h k.history) (noted k.written notes) stays (λ d off. refl) (with_other h k.history) fed'.only
          (subst (λ x. Means meaning (rows_of w.inner.plan) (part_at (timed_rows (rows_of w.inner.plan)) at ms') x) (same ∙ sym (with_self h k.history)) j.means)

      pub inputs_notes : (ms' : List M) (ns ns' : List Note) (reply : Fed) → length ns ≡ places
          → CarFed meaning (rows_of w.inner.plan) at c r.word r.ticks w.memories ns ms' ns' reply
          → (take reply.notes ns' ≡ due_notes k r places) × (reply.notes ≡ length (due_runs k r places)) × (reply.ticks ≡ ticks (due_runs k r places))
      inputs_notes ms' ns ns' reply size fed' =
          let j = fed'.judged (k.history c) means_now in
          let d = due (rows_of w.inner.plan) (k.history c) r.ticks r.word (length ns) in
          let is-due : d ≡ due_runs k r places = ap (λ p. due (rows_of w.inner.plan) (k.history c) r.ticks r.word p) size ∙ sym due_is in (
            ap₂ take (j.as_many ∙ sym (length-map d (note c))) j.written ∙ take-append_seam (map (note c) d) (drop (length d) ns) ∙ ap (map (note c)) is-due,
            j.as_many ∙ ap length is-due,
            j.covers ∙ ap ticks is-due,
          )
