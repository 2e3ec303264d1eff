-- The timed rows of a chain, counted. Assumes nothing.
use Rattle.std.proofs.Common.{◌≡◌, ℕ, zero, suc, ◌≤◌, cond, List, length, take, count_by, sym, refl, ap, ◌∙◌, add-one, arith}
use Rattle.std.proofs.lemmas.List.{take_all}
use Rattle.std.proofs.lemmas.List.Sums.{sum_by_more}
use Rattle.mitl.specs.declared.Row.{Row}
use Rattle.mitl.specs.declared.Row.TheVariants.{Input}
use Rattle.mitl.specs.Rows.{is_timed, timed_before, timed_rows}

-- so many timed rows are among the first k
pub timed_first : (rows : List Row) (k : ℕ) → k ≤ length rows → count_by is_timed (take k rows) ≡ timed_before rows k
timed_first rows zero le = refl
timed_first rows (suc k) le =
    let here = rw (add-one k) at (sum_by_more (λ r. cond (is_timed r) 1 0) rows k (Input 0) le) in
    let before = timed_first rows k (omega arith) in
    omega arith

pub timed_all : (rows : List Row) → count_by is_timed rows ≡ timed_rows rows
timed_all rows = ap (count_by is_timed) (sym (take_all (length rows) rows (omega arith))) ∙ timed_first rows (length rows) (omega arith)
