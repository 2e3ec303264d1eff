-- What is left to show for a rule number used before. Assumes nothing.
use Rattle.std.proofs.Common.{◌≡◌, ℕ, zero, suc, ◌≤◌, Bool, ◌||◌, List, length, take, refl, sym, ap, ◌∙◌, arith, rules, add-one}
use Rattle.std.proofs.Math.Bool.{or_comm}
use Rattle.std.proofs.lemmas.List.{take_all}
use Rattle.std.proofs.lemmas.List.Folds.{list_any_more}
use Rattle.std.proofs.lemmas.Iterator.{YieldsList-from_slice}
use Rattle.std.proofs.lemmas.Iterator.Search.{any_from_yields_List}
use Rattle.std.specs.List.{list_any}
use Rattle.mitl.specs.declared.Row.{Row}
use Rattle.mitl.specs.declared.Row.TheVariants.{Input}
use Rattle.mitl.specs.Rows.{row_at, is_rule}
use Rattle.mitl.specs.Windows.{some_below}
use Rattle.table.specs.Drafts.{taken_rows}
use Rattle.table.proofs.draft.Draft.has_rule.Goals as goal
use borrow.Author.Tests.{tests}

any_some : (p : Row → Bool) (rows : List Row) (n : ℕ) → n ≤ length rows → list_any p (take n rows) ≡ some_below (λ k. p (row_at rows k)) n
any_some p rows zero h = refl
any_some p rows (suc n) h =
    ap (λ m. list_any p (take m rows)) (sym (add-one n)) ∙ list_any_more p rows n (Input 0) (omega arith) ∙ or_comm (list_any p (take n rows)) (p (row_at rows n))
    ∙ ap (λ b. p (row_at rows n) || b) (any_some p rows n (omega arith))

pub returns : goal.returns
returns c =
    let rows = taken_rows c.args.self.now in
    any_from_yields_List (is_rule c.args.number) _ _ _ c.any.ensures.ran (YieldsList-from_slice rows cc) (λ x b q k. search (rules, tests))
    ∙ ap (list_any (is_rule c.args.number)) (sym (take_all (length rows) rows (omega arith))) ∙ any_some (is_rule c.args.number) rows (length rows) (omega arith)
