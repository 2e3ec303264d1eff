use Rattle.std.proofs.Common.{◌∷◌, Some, None, sym, subst, arith}
use Rattle.std.proofs.lemmas.Str.Pattern.{strip_prefix_char}
use Rattle.sheet.specs.Pieces.{AfterLetter}
use Rattle.sheet.proofs.Spaces.{then_space}
use Rattle.sheet.proofs.after_letter.Goals as goal

pub returns-in_err-strip_prefix : goal.returns-in_err-strip_prefix
returns-in_err-strip_prefix c =
    let line = c.args.line.now in
    let none : _ = strip_prefix_char 86 line None c.in_err-strip_prefix.ensures.cases (omega arith) in
    subst (AfterLetter line) (sym c.from_residual.ensures) (λ t e. none (32 ∷ t) e)

pub returns : goal.returns
returns c =
    let line = c.args.line.now in
    let x = c.in_ok-strip_prefix.field-0 in
    let r = c.strip_prefix-2.result in
    let letter : _ = strip_prefix_char 86 line (Some x) c.in_ok-strip_prefix.ensures.cases (omega arith) in
    then_space line x.now letter r (strip_prefix_char 32 x.now r c.strip_prefix-2.ensures.cases (omega arith))
