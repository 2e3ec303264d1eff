-- What is left to show for the reply to a table. Assumes nothing.
use Rattle.std.proofs.Common.{rules}
use Rattle.table.proofs.Finish.{built_reply, head_refused, row_refused}
use Rattle.table.proofs.decode.Goals as goal

pub returns-in_err-head : goal.returns-in_err-head
returns-in_err-head g c = search (rules, head_refused)

pub returns-in_err-draft : goal.returns-in_err-draft
returns-in_err-draft g c = search (rules, row_refused)

pub returns : goal.returns
returns g c =
    rw c.ok_or.ensures.value (search (rules, built_reply))
