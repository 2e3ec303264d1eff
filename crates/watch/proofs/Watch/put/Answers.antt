use Rattle.std.proofs.Common.{◌≡◌, [], Some, None, refl, ap, ◌∙◌, subst}
use Rattle.std.proofs.lemmas.Result.{err_from_is_err_and}
use Rattle.refusal.specs.Faults.{first_fault}
use Rattle.plan.specs.Totals.{counts_of}
use Rattle.book.specs.Calls.{set, planned, set_faults}
use Rattle.watch.specs.Keeping.{held, held_by, Keeps}
use Rattle.watch.specs.Refusals.{of_set}
use Rattle.watch.proofs.Sets.{set_kept}
use Rattle.watch.proofs.Steps.{refused_step, accepted_step}
use Rattle.watch.proofs.Watch.put.Goals as goal

pub returns-in_err-self-clause-step : goal.returns-in_err-self-clause-step
returns-in_err-self-clause-step g c =
    let o = g.M.WindowMemory.meaning in
    let admitted = g.M.Admission.admitted in
    let t = c.args.table.now in
    let cs = c.args.cars.now in
    let e = of_set c.in_err-self.field-0.0 in
    let p = err_from_is_err_and c.from_residual.result c.from_residual.ensures.1 in
    rw (p.1, p.2) (λ room k keeps. refused_step admitted room (Keeps o room) k (set t cs) (held_by c.args.self.now) e []
    (subst (λ n. first_fault (set_faults admitted n t cs) ≡ Some e) keeps.size c.in_err-self.ensures) refl keeps)

pub returns-clause-step : goal.returns-clause-step
returns-clause-step g c =
    let o = g.M.WindowMemory.meaning in
    let admitted = g.M.Admission.admitted in
    let t = c.args.table.now in
    let cs = c.args.cars.now in
    let ms = c.args.self.now.memories.now in
    let ms' = c.prepare_cars.new.memories in
    let inner = c.in_ok-self.field-0 in
    let loaded = c.in_ok-self.ensures in
    λ room k keeps.
    let none = subst (λ n. first_fault (set_faults admitted n t cs) ≡ None) keeps.size loaded.0 in
    accepted_step admitted room (Keeps o room) k (set t cs) (held inner ms') [] (planned c.counts.result) none refl
    (ap planned (c.counts.ensures ∙ ap counts_of loaded.1.rows))
    (set_kept o admitted room t cs inner ms ms' keeps.size none loaded.1 loaded.2 c.prepare_cars.ensures.prepared)
