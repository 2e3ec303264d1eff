-- Taking ticks. Assumes nothing.
use Rattle.std.proofs.Common.{◌≡◌, false, ◌⊎◌, sym, ap, ◌∙◌, ap₂, inl, inr, ⊎_elim, rules}
use Rattle.mitl.specs.Memory.{took}
use Rattle.clock_pairs.proofs.ClockPairs.tell.Goals as goal

pub returns-then-n-eq0 : goal.returns-then-n-eq0
returns-then-n-eq0 c =
    let idle : (c.args.operand ≡ false) ⊎ (c.args.n ≡ 0) = ⊎_elim inl (λ h. inr h.1) c.if-n-eq0.either in
    let took_it = c.take_no.ensures c.args.operand idle ∙ ap (took c.args.operand c.args.n) c.settle-settled.ensures.means in
    search (rules, took_it)

pub returns-then-goes_on : goal.returns-then-goes_on
returns-then-goes_on c =
    let took_it = c.take_on.ensures ∙ ap₂ (λ v o. took v c.args.n o) (sym c.if-n-eq0.false.0) c.settle-settled.ensures.means in
    search (rules, took_it)

pub returns-else-goes_on : goal.returns-else-goes_on
returns-else-goes_on c =
    let took_it = c.take_rise.ensures ∙ ap₂ (λ v o. took v c.args.n o) (sym c.if-n-eq0.false.0) c.settle-settled.ensures.means in
    search (rules, took_it)
