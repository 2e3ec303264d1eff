-- What a plan's invariant says of its rows. Assumes nothing.
use Rattle.std.proofs.Common.{◌≡◌, ℕ, zero, suc, ◌+◌, ◌<◌, ◌≤◌, true, false, cond, List, length, take, sym, ap, ◌∙◌, subst, ap₂, inl, inr, zero-add, add-one, arith}
use Rattle.std.proofs.lemmas.List.{get_or-take, get_or_past, length-take}
use Rattle.std.proofs.lemmas.Bool.{and_parts, ltb-true, cases_lt}
use Rattle.mitl.specs.declared.Row.{Row}
use Rattle.mitl.specs.declared.Row.TheVariants.{Input, Not, And, Or, Once, Always, Since, Rule}
use Rattle.mitl.specs.Rows.{Earlier, Chained, row_at, is_timed, timed_before, timed_rows}
use Rattle.mitl.specs.Blocks.{Proper}
use Rattle.plan.specs.declared.plan.Plan.{Plan}
use Rattle.plan.specs.Rows.{rows_of}
use Rattle.plan.specs.Sound.{row_ok, EachOk}
use Rattle.plan.proofs.Earlier.{row_earlier, row_proper}
use Rattle.engine.specs.Steps.{Readable}

readable : (rows : List Row) (k : ℕ) (r : Row) → k ≤ 64 → row_ok rows k r ≡ true → Readable r
readable rows k (Input i) le ok = ltb-true i 32 ok
readable rows k (Not l) le ok = row_earlier rows k 64 le (Not l) ok
readable rows k (And l r) le ok = row_earlier rows k 64 le (And l r) ok
readable rows k (Or l r) le ok = row_earlier rows k 64 le (Or l r) ok
readable rows k (Once l a b) le ok = row_earlier rows k 64 le (Once l a b) ok
readable rows k (Always l a b) le ok = row_earlier rows k 64 le (Always l a b) ok
readable rows k (Since l r a b) le ok = row_earlier rows k 64 le (Since l r a b) ok
readable rows k (Rule i l) le ok = (ltb-true i 16 (and_parts _ _ ok).0, row_earlier rows k 64 le (Rule i l) ok)

-- the rows in use: the first n, of at most 64
module _ (rows : List Row) (n : ℕ) (few : n ≤ 64) (each : EachOk rows n) where
  pub used_most : length (take n rows) ≤ n
  used_most = omega (arith, length-take n rows)

  pub used_row : (k : ℕ) → k < n → row_at (take n rows) k ≡ row_at rows k
  used_row k lt = get_or-take n rows k (Input 0) lt

  pub used_earlier : (k : ℕ) → k < n → Earlier k (row_at (take n rows) k)
  used_earlier k lt = subst (Earlier k) (sym (used_row k lt)) (row_earlier rows k k (omega arith) (row_at rows k) (each k lt))

  pub used_chained : Chained (take n rows)
  used_chained k lt = used_earlier k (omega (arith, used_most))

  pub used_proper : (k : ℕ) → k < length (take n rows) → Proper (row_at (take n rows) k)
  used_proper k lt = let low : k < n = omega (arith, used_most) in subst Proper (sym (used_row k low)) (row_proper rows k (row_at rows k) (each k low))

  pub used_readable : (k : ℕ) → k < n → Readable (row_at (take n rows) k)
  used_readable k lt = subst Readable (sym (used_row k lt)) (readable rows k (row_at rows k) (omega arith) (each k lt))

-- timed rows, one after another
one_more : (r : Row) → cond (is_timed r) 1 0 ≤ 1
one_more r = elim (is_timed r) as (λ b. cond b 1 0 ≤ 1) [ true ↦ omega arith | false ↦ omega arith ]

pub timed_most : (rows : List Row) (k : ℕ) → timed_before rows k ≤ k
timed_most rows zero = omega arith
timed_most rows (suc k) = omega (arith, timed_most rows k, one_more (row_at rows k))

pub timed_mono : (rows : List Row) (j k : ℕ) → j ≤ k → timed_before rows j ≤ timed_before rows k
timed_mono rows j zero le = let e : j ≡ 0 = omega arith in rw e (omega arith)
timed_mono rows j (suc k) le =
    elim (cases_lt j (suc k)) [
      | inl less ↦ omega (arith, timed_mono rows j k (omega arith))
      | inr more ↦ (let e : j ≡ suc k = omega arith in rw e (omega arith))
    ]

-- the memory of a timed row stands before those of later rows
pub timed_past : (rows : List Row) (j k : ℕ) → j < k → is_timed (row_at rows j) ≡ true → timed_before rows j < timed_before rows k
timed_past rows j k lt timed =
    let one : ◌≡◌ {A = ℕ} (cond (is_timed (row_at rows j)) 1 0) 1 = ap (λ b. cond b 1 0) timed in
    omega (arith, one, timed_mono rows (suc j) k (omega arith))

pub timed_next : (rows : List Row) (k : ℕ) → timed_before rows (k + 1) ≡ cond (is_timed (row_at rows k)) 1 0 + timed_before rows k
timed_next rows k = ap (timed_before rows) (add-one k)

-- past the row at place k
pub timed_step : (rows : List Row) (k : ℕ) (row : Row) (at next : ℕ) → row_at rows k ≡ row → at ≡ timed_before rows k → next ≡ cond (is_timed row) 1 0 + at → next ≡ timed_before rows (k + 1)
timed_step rows k row at next is place e = e ∙ ap₂ (λ r n. cond (is_timed r) 1 0 + n) (sym is) place ∙ sym (timed_next rows k)

-- there is no timed row past the end
beyond : (rows : List Row) (k : ℕ) → length rows ≤ k → is_timed (row_at rows k) ≡ false
beyond rows k le = ap is_timed (get_or_past rows k (Input 0) le)

pub timed_all : (rows : List Row) (k : ℕ) → length rows ≤ k → timed_before rows k ≡ timed_rows rows
timed_all rows zero le = let e : 0 ≡ length rows = omega arith in ap (timed_before rows) e
timed_all rows (suc k) le =
    elim (cases_lt k (length rows)) [
      | inl less ↦ (let e : suc k ≡ length rows = omega arith in ap (timed_before rows) e)
      | inr more ↦ ap (λ b. cond b 1 0 + timed_before rows k) (beyond rows k more) ∙ zero-add (timed_before rows k) ∙ timed_all rows k more
    ]

module _ (p : Plan) where
  pub plan_chained : Chained (rows_of p)
  plan_chained = used_chained p.rows p.count p.few p.each

  pub plan_proper : (k : ℕ) → k < length (rows_of p) → Proper (row_at (rows_of p) k)
  plan_proper = used_proper p.rows p.count p.few p.each

-- a row that a plan gives along its chain
module _ (p : Plan) (rows : List Row) (is : rows ≡ rows_of p) (k : ℕ) (lt : k < length rows) where
  pub given_low : k < p.count
  given_low = omega (arith, lt, ap length is, used_most p.rows p.count p.few p.each)

  pub given_earlier : (j : ℕ) → j < k + 1 → Earlier j (row_at (rows_of p) j)
  given_earlier j low = used_earlier p.rows p.count p.few p.each j (omega (arith, given_low))

  pub given_readable : Readable (row_at rows k)
  given_readable = subst (λ rs. Readable (row_at rs k)) (sym is) (used_readable p.rows p.count p.few p.each k given_low)

  -- its memory lies among those of the timed rows
  pub given_place : (at : ℕ) → at ≡ timed_before (rows_of p) k → is_timed (row_at rows k) ≡ true → at < timed_rows (rows_of p)
  given_place at place timed =
      omega (arith, place, timed_past (rows_of p) k (length (rows_of p)) (omega (arith, lt, ap length is)) (ap (λ rs. is_timed (row_at rs k)) (sym is) ∙ timed))

  pub given_early : (at : ℕ) → at ≡ timed_before (rows_of p) k → at < 64
  given_early at place = omega (arith, place, timed_most (rows_of p) k, given_low, p.few)
