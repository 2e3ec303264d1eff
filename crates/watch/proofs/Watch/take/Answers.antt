use Rattle.std.proofs.Common.{◌≡◌, ℕ, [], length, sym, refl, ap, ◌∙◌, subst, inl, inr, arith}
use Rattle.std.proofs.lemmas.Bool.{eqb-true, eq-eqb, false≢true}
use Rattle.std.proofs.lemmas.Result.{err_from_is_err_and}
use Rattle.refusal.specs.Faults.{refusal}
use Rattle.record.specs.declared.Record.{Record}
use Rattle.record.specs.Layout.{is_I}
use Rattle.cars.specs.Refusals.{of_feed}
use Rattle.book.specs.Calls.{feed}
use Rattle.watch.specs.Keeping.{held, held_by, Keeps}
use Rattle.watch.proofs.Feeding.{Lettered, bytes_first, lettered}
use Rattle.watch.proofs.Taking.{car_turned_down, restart_step, end_step, place_refused, inputs_step}
use Rattle.watch.proofs.Steps.{refused_step}
use Rattle.watch.proofs.Watch.take.Goals as goal

pub returns-in_err-record-clause-step : goal.returns-in_err-record-clause-step
returns-in_err-record-clause-step g c =
    let o = g.M.WindowMemory.meaning in
    let bytes = c.args.bytes.now in
    let ns = c.args.notes.now in
    let e = of_feed c.in_err-record.field-0.0 in
    let p = err_from_is_err_and c.from_residual.result c.from_residual.ensures.1 in
    rw (p.1, p.2) (λ room k keeps. refused_step g.M.Admission.admitted room (Keeps o room) k (feed bytes (length ns)) (held_by c.args.self.now) e []
    (bytes_first k bytes (length ns) e c.in_err-record.ensures) refl keeps)

pub returns-in_err-at-clause-step : goal.returns-in_err-at-clause-step
returns-in_err-at-clause-step g c =
    let o = g.M.WindowMemory.meaning in
    let admitted = g.M.Admission.admitted in
    let bytes = c.args.bytes.now in
    let ns = c.args.notes.now in
    let w = held_by c.args.self.now in
    let read = c.in_ok-record.ensures in
    let told = c.in_err-at.ensures in
    let fault = c.in_err-at.field-0.0 in
    let p = err_from_is_err_and c.from_residual-in_err-at.result c.from_residual-in_err-at.ensures.1 in
    rw (p.1, p.2) (λ room k keeps. refused_step admitted room (Keeps o room) k (feed bytes (length ns)) _ (of_feed fault) []
    (car_turned_down o admitted room w k keeps bytes (length ns) read.0 c.in_ok-record.record read.1 c.record.new.self fault told) refl
    (subst (λ t. Keeps o room (held (record { plan = w.inner.plan; cars = t }) w.memories) k) (sym told.1) keeps))

pub returns-in-R-clause-step : goal.returns-in-R-clause-step
returns-in-R-clause-step g c =
    let read = c.in_ok-record.ensures in
    λ room k keeps. restart_step g.M.WindowMemory.meaning g.M.Admission.admitted room (held_by c.args.self.now) k keeps c.args.bytes.now (length c.args.notes.now) read.0 c.in_ok-record.record read.1
    c.record.new.self c.in_ok-at.at c.in_ok-at.ensures c.clear_car.new.memories c.in-R.is c.clear_car.ensures.cleared

pub returns-in-E-clause-step : goal.returns-in-E-clause-step
returns-in-E-clause-step g c =
    let read = c.in_ok-record.ensures in
    λ room k keeps. end_step g.M.WindowMemory.meaning g.M.Admission.admitted room (held_by c.args.self.now) k keeps c.args.bytes.now (length c.args.notes.now) read.0 c.in_ok-record.record read.1
    c.record.new.self c.in_ok-at.at c.in_ok-at.ensures c.in-E.is

-- a letter that is neither R nor E is I
third : (l : ℕ) → Lettered l → (l ≡ 82 → ⊥) → (l ≡ 69 → ⊥) → l ≡ 73
third l (inl is) a b = absurd (a is)
third l (inr (inl is)) a b = is
third l (inr (inr is)) a b = absurd (b is)

pub returns-in_default-clause-step : goal.returns-in_default-clause-step
returns-in_default-clause-step g c =
    let o = g.M.WindowMemory.meaning in
    let admitted = g.M.Admission.admitted in
    let bytes = c.args.bytes.now in
    let ns = c.args.notes.now in
    let w = held_by c.args.self.now in
    let r = c.in_ok-record.record in
    let read = c.in_ok-record.ensures in
    let told = c.in_ok-at.ensures in
    let is : r.letter ≡ 73 = third r.letter (subst (λ (x : Record). Lettered x.letter) (sym read.1) (lettered bytes read.0)) (λ e. omega arith) (λ e. omega arith) in
    let same = told.1.inputs (ap is_I is) in
    rw c.into.ensures (λ room k keeps. refused_step admitted room (Keeps o room) k (feed bytes (length ns)) _ (refusal 19 0) []
    (place_refused o admitted room w k keeps bytes (length ns) read.0 r read.1 c.record.new.self c.in_ok-at.at told is (eqb-true (length ns) 0 (sym c.if-is_empty.ensures))) refl
    (subst (λ t. Keeps o room (held (record { plan = w.inner.plan; cars = t }) w.memories) k) (sym same) keeps))

pub returns-in_default-2-clause-step : goal.returns-in_default-2-clause-step
returns-in_default-2-clause-step g c =
    let o = g.M.WindowMemory.meaning in
    let admitted = g.M.Admission.admitted in
    let bytes = c.args.bytes.now in
    let ns = c.args.notes.now in
    let w = held_by c.args.self.now in
    let r = c.in_ok-record.record in
    let read = c.in_ok-record.ensures in
    let ns' = c.feed_car.new.notes in
    let size : length ns ≡ length ns' = sym c.feed_car.ensures.fed.places in
    let is : r.letter ≡ 73 = third r.letter (subst (λ (x : Record). Lettered x.letter) (sym read.1) (lettered bytes read.0)) (λ e. omega arith) (λ e. omega arith) in
    λ room k keeps. inputs_step o admitted room w k keeps bytes (length ns') read.0 r read.1 c.record.new.self c.in_ok-at.at c.in_ok-at.ensures
    c.feed_car.new.memories ns ns' c.feed_car.result is size (λ e. false≢true (c.if-is_empty.ensures ∙ eq-eqb (length ns) 0 (size ∙ e))) c.feed_car.ensures.fed
