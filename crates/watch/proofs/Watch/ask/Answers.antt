use Rattle.std.proofs.Common.{◌≡◌, min, length, [], Some, sym, refl, ◌∙◌, subst}
use Rattle.std.proofs.lemmas.Result.{err_from_is_err_and}
use Rattle.refusal.specs.Faults.{refusal}
use Rattle.record.specs.Cars.{car_place}
use Rattle.plan.specs.Rows.{rows_of}
use Rattle.memories.specs.Parts.{Indexed}
use Rattle.book.specs.Calls.{query, shown, timed_place}
use Rattle.watch.specs.Keeping.{held_by, Keeps}
use Rattle.watch.proofs.Asking.{missing, there, not_listed, not_timed, timed_is, no_fault, not_missing, shown_right}
use Rattle.watch.proofs.Steps.{refused_step, accepted_step}
use Rattle.watch.proofs.Watch.ask.Goals as goal

pub returns-in_err-at-clause-step : goal.returns-in_err-at-clause-step
returns-in_err-at-clause-step g c =
    let o = g.M.WindowMemory.meaning in
    let car = c.args.car in
    let row = c.args.row in
    let w = held_by c.args.self.now in
    let p = err_from_is_err_and c.from_residual.result c.from_residual.ensures.1 in
    let m = missing c.find.result _ _ _ c.find.ensures c.in_err-at.ensures.value in
    rw (p.1, p.2, m.1) (λ room k keeps. refused_step g.M.Admission.admitted room (Keeps o room) k (query car row c.args.d) w (refusal 17 (car_place car)) []
    (not_listed o room w k keeps car row m.0) refl keeps)

pub returns-in_err-place-clause-step : goal.returns-in_err-place-clause-step
returns-in_err-place-clause-step g c =
    let o = g.M.WindowMemory.meaning in
    let car = c.args.car in
    let row = c.args.row in
    let w = held_by c.args.self.now in
    let p = err_from_is_err_and c.from_residual-in_err-place.result c.from_residual-in_err-place.ensures.1 in
    let found = there c.find.result _ _ _ c.find.ensures c.in_ok-at.ensures.value in
    let m = missing c.timed_row.result _ _ _ c.timed_row.ensures c.in_err-place.ensures.value in
    rw (p.1, p.2, m.1) (λ room k keeps. refused_step g.M.Admission.admitted room (Keeps o room) k (query car row c.args.d) w (refusal 20 row) []
    (not_timed o room w k keeps car c.in_ok-at.at found row (sym (timed_is o room w k keeps car c.in_ok-at.at found row) ∙ m.0)) refl keeps)

pub returns-in_err-index-clause-step : goal.returns-in_err-index-clause-step
returns-in_err-index-clause-step g c =
    let o = g.M.WindowMemory.meaning in
    let car = c.args.car in
    let row = c.args.row in
    let w = held_by c.args.self.now in
    let found = there c.find.result _ _ _ c.find.ensures c.in_ok-at.ensures.value in
    let timed = there c.timed_row.result _ _ _ c.timed_row.ensures c.in_ok-place.ensures.value in
    let m = missing c.index_of.result _ _ _ refl c.in_err-index.ensures.value in
    λ room k keeps.
    let place : timed_place k row ≡ Some c.in_ok-place.place = sym (timed_is o room w k keeps car c.in_ok-at.at found row) ∙ timed in
    absurd (not_missing o room w k keeps car c.in_ok-at.at found row c.in_ok-place.place place
    (subst (Indexed (rows_of w.inner.plan) c.in_ok-at.at (min c.in_ok-place.place w.inner.plan.count) (length w.memories)) m.0 c.index_of.ensures))

pub returns-clause-step : goal.returns-clause-step
returns-clause-step g c =
    let o = g.M.WindowMemory.meaning in
    let car = c.args.car in
    let row = c.args.row in
    let w = held_by c.args.self.now in
    let s = c.show.result in
    let found = there c.find.result _ _ _ c.find.ensures c.in_ok-at.ensures.value in
    let timed = there c.timed_row.result _ _ _ c.timed_row.ensures c.in_ok-place.ensures.value in
    let indexed = subst (Indexed (rows_of w.inner.plan) c.in_ok-at.at (min c.in_ok-place.place w.inner.plan.count) (length w.memories)) (there c.index_of.result _ _ _ refl c.in_ok-index.ensures.value) c.index_of.ensures in
    λ room k keeps.
    let place : timed_place k row ≡ Some c.in_ok-place.place = sym (timed_is o room w k keeps car c.in_ok-at.at found row) ∙ timed in
    accepted_step g.M.Admission.admitted room (Keeps o room) k (query car row c.args.d) w [] (shown s.mark s.count)
    (no_fault o room w k keeps car c.in_ok-at.at found row c.in_ok-place.place place) refl
    (shown_right o room w k keeps car c.in_ok-at.at found row c.in_ok-place.place place c.args.d c.in_ok-index.index s c.index-self-index.result indexed c.show.ensures.0 c.show.ensures.1) keeps
