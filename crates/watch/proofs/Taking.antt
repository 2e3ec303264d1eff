-- The step of a record, letter by letter. Assumes nothing.
use Rattle.std.proofs.Common.{◌≡◌, ℕ, Bool, false, cond, ◌&&◌, eqb, List, [], map, length, take, Some, None, Ok, Err, sym, ap, ◌∙◌, subst, ap₂}
use Rattle.std.proofs.lemmas.Bool.{cond-true, cond-false, ne_eqb}
use Rattle.mitl.specs.Memory.{Meaning}
use Rattle.mitl.specs.Runs.{Run, ticks}
use Rattle.refusal.specs.Faults.{refusal, first_fault}
use Rattle.record.specs.declared.Note.{Note}
use Rattle.record.specs.declared.Record.{Record}
use Rattle.record.specs.Layout.{fields_at, is_R, is_I, is_E}
use Rattle.plan.specs.Rows.{rows_of}
use Rattle.engine.specs.declared.Fed.{Fed}
use Rattle.engine.specs.Judged.{note}
use Rattle.cars.specs.declared.CarTable.{CarTable}
use Rattle.cars.specs.declared.FeedFault.{FeedFault}
use Rattle.cars.specs.Moves.{Recorded}
use Rattle.cars.specs.Refusals.{of_feed}
use Rattle.memories.specs.Parts.{CarCleared, CarFed}
use Rattle.book.specs.Book.{Book, due_runs, due_notes, judged, entered}
use Rattle.book.specs.Calls.{Answer, feed, fed, feed_faults, car_faults, Right, next}
use Rattle.watch.specs.Keeping.{Held, held, Keeps}
use Rattle.watch.specs.Replies.{bytes_faults}
use Rattle.watch.proofs.Feeding.{Lettered, car_next, lettered, car_refused, no_place_only, restart_kept, end_kept, inputs_kept, inputs_notes}
use Rattle.watch.proofs.Steps.{made, accepted_step}

module _ {M : Type 0} (meaning : M → Meaning) (admitted : ℕ → ℕ → Bool) (room : ℕ) (w : Held M) (k : Book) (keeps : Keeps meaning room w k)
    (bytes : List ℕ) (places : ℕ) (none : first_fault (bytes_faults bytes) ≡ None) (r : Record) (e : r ≡ fields_at bytes) where
  letter : Lettered r.letter
  letter = subst (λ (x : Record). Lettered x.letter) (sym e) (lettered bytes none)

  faults : first_fault (feed_faults k bytes places) ≡ first_fault (car_faults k r places)
  faults = car_next k bytes places none ∙ ap (λ x. first_fault (car_faults k x places)) (sym e)

  pub car_turned_down : (t' : CarTable) (f : FeedFault) → Recorded w.inner.cars r.car r.letter t' (Err f) → first_fault (feed_faults k bytes places) ≡ Some (of_feed f)
  car_turned_down t' f told = faults ∙ car_refused meaning room w k keeps r places letter t' f told

  abbrev Stepped : Held M → List Note → Answer → Type 0
  Stepped w' notes answer = Right admitted room k (made (feed bytes places) notes answer) × Keeps meaning room w' (next admitted room k (made (feed bytes places) notes answer))

  taken : (w' : Held M) (notes : List Note) → first_fault (car_faults k r places) ≡ None → notes ≡ due_notes k r places → Keeps meaning room w' (entered k r places notes)
      → Stepped w' notes (fed (length (due_runs k r places)) (ticks (due_runs k r places)))
  taken w' notes off are kept =
      accepted_step admitted room (Keeps meaning room) k (feed bytes places) w' notes (fed (length (due_runs k r places)) (ticks (due_runs k r places))) (faults ∙ off)
      (are ∙ ap (λ x. due_notes k x places) e) (ap (λ x. fed (length (due_runs k x places)) (ticks (due_runs k x places))) e) (subst (λ x. Keeps meaning room w' (entered k x places notes)) e kept)

  module _ (t' : CarTable) (at : ℕ) (told : Recorded w.inner.cars r.car r.letter t' (Ok at)) where
    off_unless : is_I r.letter ≡ false → first_fault (car_faults k r places) ≡ None
    off_unless no-inputs =
        no_place_only meaning room w k keeps r places letter t' at told ∙ ap (λ b. cond (b && eqb places 0) (Some (refusal 19 0)) None) no-inputs

    nothing_due : is_I r.letter ≡ false → due_runs k r places ≡ []
    nothing_due no-inputs = cond-false (is_I r.letter) _ [] no-inputs

    quiet : (w' : Held M) → is_I r.letter ≡ false → Keeps meaning room w' (entered k r places []) → Stepped w' [] (fed 0 0)
    quiet w' no-inputs kept =
        let are : [] ≡ due_notes k r places = ap (λ rs. map_note rs) (sym (nothing_due no-inputs)) in
        subst (λ rs. Stepped w' [] (fed (length rs) (ticks rs))) (nothing_due no-inputs) (taken w' [] (off_unless no-inputs) are kept)
      where
        map_note : List Run → List Note
        map_note rs = map (note r.car) rs

    pub restart_step : (ms' : List M) → r.letter ≡ 82 → CarCleared meaning (rows_of w.inner.plan) at w.memories ms' → Stepped (held (record { plan = w.inner.plan; cars = t' }) ms') [] (fed 0 0)
    restart_step ms' is told' =
        quiet (held (record { plan = w.inner.plan; cars = t' }) ms') (ap is_I is)
        (subst (Keeps meaning room (held (record { plan = w.inner.plan; cars = t' }) ms')) (sym (cond-true (is_R r.letter) _ _ (ap is_R is))) (restart_kept meaning room w k keeps r places letter t' at told ms' is told'))

    pub end_step : r.letter ≡ 69 → Stepped (held (record { plan = w.inner.plan; cars = t' }) w.memories) [] (fed 0 0)
    end_step is =
        quiet (held (record { plan = w.inner.plan; cars = t' }) w.memories) (ap is_I is)
        (subst (Keeps meaning room (held (record { plan = w.inner.plan; cars = t' }) w.memories))
        (sym (cond-false (is_R r.letter) _ _ (ap is_R is) ∙ cond-true (is_E r.letter) _ _ (ap is_E is))) (end_kept meaning room w k keeps r places letter t' at told is))

    pub place_refused : r.letter ≡ 73 → places ≡ 0 → first_fault (feed_faults k bytes places) ≡ Some (refusal 19 0)
    place_refused is no-places =
        faults ∙ no_place_only meaning room w k keeps r places letter t' at told
        ∙ ap₂ (λ l p. cond (is_I l && eqb p 0) (Some (refusal 19 0)) None) is no-places

    pub inputs_step : (ms' : List M) (ns ns' : List Note) (reply : Fed) → r.letter ≡ 73 → length ns ≡ places → (places ≡ 0 → ⊥)
        → CarFed meaning (rows_of w.inner.plan) at r.car r.word r.ticks w.memories ns ms' ns' reply
        → Stepped (held (record { plan = w.inner.plan; cars = t' }) ms') (take reply.notes ns') (fed reply.notes reply.ticks)
    inputs_step ms' ns ns' reply is size some fed' =
        let w' = held (record { plan = w.inner.plan; cars = t' }) ms' in
        let off : first_fault (car_faults k r places) ≡ None =
        no_place_only meaning room w k keeps r places letter t' at told
        ∙ ap₂ (λ l b. cond (is_I l && b) (Some (refusal 19 0)) None) is (ne_eqb places 0 some) in
        let about = inputs_notes meaning room w k keeps r places letter t' at told is ms' ns ns' reply size fed' in
        let book : entered k r places (take reply.notes ns') ≡ judged k r places (take reply.notes ns') = cond-false (is_R r.letter) _ _ (ap is_R is) ∙ cond-false (is_E r.letter) _ _ (ap is_E is) in
        subst (λ a. Stepped w' (take reply.notes ns') a) (sym (ap₂ fed about.1 about.2))
        (taken w' (take reply.notes ns') off about.0 (subst (Keeps meaning room w') (sym book) (inputs_kept meaning room w k keeps r places letter t' at told is ms' (take reply.notes ns') ns ns' reply size fed')))
