use Rattle.std.proofs.Common.{◌≡◌, ℕ, List, ◌∷◌, ◌++◌, Some, None, sym, subst, arith}
use Rattle.std.proofs.lemmas.Str.Pattern.{split_after, split_parts}
use Rattle.sheet.specs.Pieces.{Fields, Spaceless}
use Rattle.sheet.proofs.Spaces.{no_second, no_third, all_laid}
use Rattle.sheet.proofs.fields.Goals as goal

pub returns-in_err-car : goal.returns-in_err-car
returns-in_err-car c =
    let line = c.args.line.now in
    let t = c.in_ok-rest.rest in
    subst (Fields line) (sym c.from_residual-in_err-car.ensures) (no_second line t.now c.in_ok-rest.ensures (split_parts 32 t.now None c.in_err-car.ensures.cases (omega arith)))

pub returns-in_err-word : goal.returns-in_err-word
returns-in_err-word c =
    let line = c.args.line.now in
    let t = c.in_ok-rest.rest in
    let a = c.in_ok-car.car in
    let u = c.in_ok-car.rest in
    let cut : (b y : List ℕ) → Spaceless b → t.now ≡ b ++ (32 ∷ y) → u.now ≡ y = λ b y none e. (split_after 32 t.now b y (Some (a, u)) c.in_ok-car.ensures.cases (omega arith) e none).1 in
    subst (Fields line) (sym c.from_residual-in_err-word.ensures) (no_third line t.now c.in_ok-rest.ensures u.now cut (split_parts 32 u.now None c.in_err-word.ensures.cases (omega arith)))

pub returns : goal.returns
returns c =
    let line = c.args.line.now in
    let t = c.in_ok-rest.rest in
    let a = c.in_ok-car.car in
    let u = c.in_ok-car.rest in
    let b = c.in_ok-word.word in
    let d = c.in_ok-word.ticks in
    let first = split_parts 32 t.now (Some (a, u)) c.in_ok-car.ensures.cases (omega arith) in
    let second = split_parts 32 u.now (Some (b, d)) c.in_ok-word.ensures.cases (omega arith) in
    (all_laid line t.now c.in_ok-rest.ensures a.now u.now b.now d.now first.0 second.0, first.1, second.1)
