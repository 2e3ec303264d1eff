-- What is left to show for the fields of a row of the table. Assumes nothing.
use Rattle.std.proofs.Common.{◌≡◌, ◌+◌, ◌-◌, take, drop, ap, ◌∙◌, arith}
use Rattle.table.specs.Layout.{fields_from, row_start}
use Rattle.table.proofs.row.Fields.of_row.Goals as goal

pub returns : goal.returns
returns c =
    let start = row_start c.args.row in
    let long : start + 16 - start ≡ 16 = omega arith in
    c.apart.ensures ∙ ap (λ n. fields_from (take n (drop start c.args.bytes.now))) long
