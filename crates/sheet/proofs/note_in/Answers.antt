use Rattle.std.proofs.Common.{sym, subst, arith}
use Rattle.sheet.specs.Pieces.{Told}
use Rattle.sheet.proofs.Numbers.{none_told, car_number, word_number, ticks_number, not_parsed, parsed}
use Rattle.sheet.proofs.note_in.Goals as goal

pub returns-in_err-car : goal.returns-in_err-car
returns-in_err-car c = subst (Told c.args.line.now) (sym c.from_residual.ensures) (none_told c.args.line.now c.in_err-car.ensures)

pub returns-in_err-number : goal.returns-in_err-number
returns-in_err-number c =
    let h = c.in_ok-car.ensures in
    subst (Told c.args.line.now) (sym c.from_residual-in_err-number.ensures) (λ n s l. not_parsed 16 c.in_ok-car.car.now c.parse.result c.parse.ensures.value.0 c.in_err-number.ensures.value n.car.number s.car_fits (car_number _ _ _ _ h.0 h.1 h.2 n l))

pub returns-in_err-word : goal.returns-in_err-word
returns-in_err-word c =
    let h = c.in_ok-car.ensures in
    subst (Told c.args.line.now) (sym c.from_residual-in_err-word.ensures) (λ n s l. not_parsed 16 c.in_ok-car.word.now c.parse-2.result c.parse-2.ensures.value.0 c.in_err-word.ensures.value n.word s.word_fits (word_number _ _ _ _ h.0 h.1 h.2 n l))

pub returns-in_err-ticks : goal.returns-in_err-ticks
returns-in_err-ticks c =
    let h = c.in_ok-car.ensures in
    subst (Told c.args.line.now) (sym c.from_residual-in_err-ticks.ensures) (λ n s l. not_parsed 32 c.in_ok-car.ticks.now c.parse-3.result c.parse-3.ensures.value.0 c.in_err-ticks.ensures.value n.ticks s.ticks_fit (ticks_number _ _ _ _ h.0 h.1 h.2 n l))

pub returns-then-number-eq0 : goal.returns-then-number-eq0
returns-then-number-eq0 c n s l =
    let h = c.in_ok-car.ensures in
    let e = parsed 16 c.in_ok-car.car.now c.parse.result c.parse.ensures.value.0 c.in_ok-number.number c.in_ok-number.ensures.value n.car.number (car_number _ _ _ _ h.0 h.1 h.2 n l) in
    omega (arith, e, c.if-number-eq0.true, s.some)
