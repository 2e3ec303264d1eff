use Rattle.std.proofs.Common.{sym, subst}
use Rattle.sheet.specs.Pieces.{Told}
use Rattle.sheet.proofs.Numbers.{line_text, not_text}
use Rattle.sheet.proofs.told_by.Goals as goal

pub returns-in_err-ok : goal.returns-in_err-ok
returns-in_err-ok c =
    let line = c.args.line.now in
    subst (Told line) (sym c.from_residual.ensures) (λ n s l. not_text line _ _ c.from_utf8.result c.in_err-ok.ensures.value c.from_utf8.ensures.cases (line_text n line l))
