use Rattle.std.proofs.Common.{◌≡◌, false, length, sym, ◌∙◌, subst, arith, below_more}
use Rattle.cars.specs.Cars.{Filled, wrong_car}
use Rattle.cars.proofs.Places.{filled_more, refused_is, no_position, first_position}
use Rattle.cars.proofs.CarTable.filled.Goals as goal

pub returns-then-refuses : goal.returns-then-refuses
returns-then-refuses c =
    let cs = c.args.cars.now in
    let i = c.loop-i.i in
    let inv = c.loop-i.invariant in
    first_position cs i c.loop-i-test.true inv.1 (sym (refused_is cs i c.loop-i.table (omega arith) (omega arith) inv.0) ∙ sym c.if-refuses.ensures)

pub loop-i-preserved : goal.loop-i-preserved
loop-i-preserved c =
    let cs = c.args.cars.now in
    let i = c.loop-i.i in
    let inv = c.loop-i.invariant in
    let here : wrong_car cs i ≡ false = sym (refused_is cs i c.loop-i.table (omega arith) (omega arith) inv.0) ∙ sym c.if-refuses.ensures in
    (filled_more cs i c.loop-i.table c.add.new.self inv.0 c.add.ensures, below_more (λ j. wrong_car cs j ≡ false) i inv.1 here)

pub returns : goal.returns
returns c =
    let cs = c.args.cars.now in
    let all : c.loop-i.i ≡ length cs = omega arith in
    let inv = c.loop-i.invariant in
    (no_position cs (λ j lt. inv.1 j (omega arith)), subst (λ n. Filled cs n c.loop-i.table) all inv.0)
