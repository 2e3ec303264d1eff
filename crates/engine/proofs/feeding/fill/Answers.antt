use Rattle.std.proofs.Common.{◌≡◌, ◌-◌, ◌<◌, ◌≤◌, false, ◌&&◌, ltb, length, refl, ◌∙◌, subst, inl, inr, arith}
use Rattle.std.proofs.lemmas.Bool.{cases_lt}
use Rattle.plan.specs.Rows.{rows_of}
use Rattle.engine.proofs.Noting.{noted_none, noted_more, judged_all, idle_not, writes_on, writes_off, rest_more}
use Rattle.engine.proofs.feeding.fill.Goals as goal

pub loop-step-init : goal.loop-step-init
loop-step-init g c =
    let i = c.args.inputs in
    record {
      low = omega arith;
      places = omega arith;
      some = λ pos. absurd (omega arith);
      rest = refl;
      past = λ k m le. refl;
      noted = λ h means. noted_none _ (rows_of c.args.plan.now) h i.car i.word i.ticks _ _ (i.ticks - i.ticks) (omega arith) means;
      foreseen = λ _. c.next-step.ensures;
    }

pub run-n-requires : goal.run-n-requires
run-n-requires g c =
    let on = writes_on c.loop-step.left c.loop-step.used (length c.loop-step.notes) c.loop-step-test.ensures in
    let work = idle_not (rows_of c.args.plan.now) c.args.inputs.ticks c.args.part.now c.args.notes.now c.requires in
    record { enough = omega (arith, work.2, c.loop-step.auto.part); left = on.0; foreseen = c.loop-step.invariant.foreseen on.0 }

pub loop-step-preserved : goal.loop-step-preserved
loop-step-preserved g c =
    let inv = c.loop-step.invariant in
    let i = c.args.inputs in
    let left = c.loop-step.left in
    let used = c.loop-step.used in
    let n = c.run-n.result.1 in
    let whole = c.run-n.ensures.whole in
    let on = writes_on left used (length c.loop-step.notes) c.loop-step-test.ensures in
    let pos : 0 < n = whole.some in
    let le : n ≤ left = whole.within in
    let low : left ≤ i.ticks = inv.low in
    record {
      low = omega arith;
      places = omega (arith, on.1, c.loop-step.auto.notes);
      some = λ _. omega arith;
      rest = rest_more c.args.notes.now c.loop-step.notes used _ inv.rest;
      past = λ k m beyond. whole.held.past k m beyond ∙ inv.past k m beyond;
      noted = λ h means.
          noted_more _ (rows_of c.args.plan.now) h i.car i.word i.ticks c.loop-step.part c.run-n.new.part c.loop-step.notes used (i.ticks - left) left c.loop-step.step.word n
          on.1 (omega arith) (inv.noted h means) whole (i.ticks - (left - n)) (omega arith);
      foreseen = λ more. c.run-n.ensures.after (omega arith);
    }

pub returns : goal.returns
returns g c =
    let inv = c.loop-step.invariant in
    let i = c.args.inputs in
    let left = c.loop-step.left in
    let used = c.loop-step.used in
    let long : length c.loop-step.notes ≡ length c.args.notes.now = c.loop-step.auto.notes in
    let low : left ≤ i.ticks = inv.low in
    let stop = subst (λ k. ◌≡◌ false (◌&&◌ (ltb 0 left) (ltb used k))) long c.loop-step-test.ensures in
    record {
      bounded = record {
        part_length = c.loop-step.auto.part;
        places_length = long;
        past = inv.past;
        rest = inv.rest;
        within_places = inv.places;
        within_ticks = omega arith;
        some = λ busy.
            let work = idle_not (rows_of c.args.plan.now) i.ticks c.args.part.now c.args.notes.now busy in
            elim (cases_lt left i.ticks) [
              | inl less ↦ omega arith
              | inr same ↦ absurd (elim (cases_lt 0 used) [ inl some ↦ omega (arith, inv.some some) | inr none ↦ writes_off left used _ stop (omega (arith, work.0)) (omega (arith, work.1)) ])
            ];
      };
      judged = λ h means.
          judged_all _ (rows_of c.args.plan.now) i.car i.word i.ticks c.args.part.now c.args.notes.now
          c.loop-step.part c.loop-step.notes used left (i.ticks - left) long inv.places inv.rest (omega arith) stop h (inv.noted h means);
    }
