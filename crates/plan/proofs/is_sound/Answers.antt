-- What is left to show for the test of the first rows. Assumes nothing.
use Rattle.std.proofs.Common.{◌≡◌, ◌&&◌, ◌≤◌, leb, take, length, ap₂, ◌∙◌, inl, inr, arith, rules}
use Rattle.std.proofs.lemmas.Bool.{cases_Bool, leb-true}
use Rattle.std.specs.List.{list_any, list_all, enumerate_from}
use Rattle.plan.specs.Sound.{is_a_rule, row_ok}
use Rattle.plan.proofs.Cut.{each_cut, some_cut}
use Rattle.plan.proofs.is_sound.Goals as goal

pub returns : goal.returns
returns c =
    let rows = c.args.rows.now in
    let n = c.args.count in
    let told : c.is_some_and.result ≡ (leb n 64 && (list_all (λ (k, row). row_ok (take k (take n rows)) (length (take k (take n rows))) row) (enumerate_from 0 (take n rows)) && list_any is_a_rule (take n rows))) = search rules in
    elim (cases_Bool (leb n 64)) [
      | inl few ↦
          let within : n ≤ length rows = omega (arith, leb-true n 64 few, c.told-rows) in
          told ∙ ap₂ (λ x y. leb n 64 && (x && y)) (each_cut rows n within) (some_cut rows n within)
      | inr over ↦ rw over (rw over at told)
    ]
