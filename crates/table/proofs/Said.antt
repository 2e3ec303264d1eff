-- What the tests on the rows before a place say of the chain and of the bytes. Assumes nothing.
use Rattle.std.proofs.Common.{◌≡◌, ℕ, ◌<◌, Bool, true, false, cond, not, ◌&&◌, eqb, List, length, get_or, is_some, Some, None, Decides, Option, unwrap_or, sym, refl, ap, ◌∙◌, arith}
use Rattle.std.proofs.lemmas.List.FromFn.{length-map-range_with_len, get_or-map-range_with_len}
use Rattle.std.proofs.lemmas.Bool.{both_ways}
use Rattle.std.proofs.lemmas.Bool.Decides.{nat_tests}
use Rattle.mitl.specs.declared.Row.TheVariants.{Input}
use Rattle.mitl.specs.Rows.{row_at, is_rule}
use Rattle.plan.specs.Places.{place_among_lem}
use Rattle.plan.specs.Sound.{is_a_rule}
use Rattle.plan.proofs.Below.{some_from, some_at}
use Rattle.plan.proofs.Found.{found_place, lost_from}
use Rattle.table.specs.Chain.{on_chain, fields_at, row_in, numbers_before, rows_before}
use Rattle.table.specs.Faults.{unless_rule, rule_used, row_of}
use Rattle.table.specs.Laws.{ReadAsSaid}
use Rattle.table.specs.Layout.{fields_of}
use Rattle.table.specs.Letters.{letter_from}
use Rattle.table.specs.declared.row.Fields.{Fields}
use Rattle.table.specs.declared.row.Letter.{Letter}
use Rattle.table.specs.declared.row.Letter.TheVariants.{P, N, A, O, D, B, S, R}

-- a row is a rule just where its letter is R
module _ (ns : List ℕ) (f : Fields) where
  letters : (p n a o d b s r : Bool) → Option Letter
  letters p n a o d b s r =
      cond p (Some P) (cond n (Some N) (cond a (Some A) (cond o (Some O) (cond d (Some D) (cond b (Some B) (cond s (Some S) (cond r (Some R) None)))))))

  last_of : (p n a o d b s r : Bool) → Bool
  last_of p n a o d b s r = not p && (not n && (not a && (not o && (not d && (not b && (not s && r))))))

  last_is : (p n a o d b s r : Bool) → (is_a_rule (row_of ns (letters p n a o d b s r) f) ≡ last_of p n a o d b s r)
      × ((m : ℕ) → is_rule m (row_of ns (letters p n a o d b s r) f) ≡ (last_of p n a o d b s r && eqb m f.number))
  unfolding letters last_of
  last_is true n a o d b s r = (refl, λ m. refl)
  last_is false true a o d b s r = (refl, λ m. refl)
  last_is false false true o d b s r = (refl, λ m. refl)
  last_is false false false true d b s r = (refl, λ m. refl)
  last_is false false false false true b s r = (refl, λ m. refl)
  last_is false false false false false true s r = (refl, λ m. refl)
  last_is false false false false false false true r = (refl, λ m. refl)
  last_is false false false false false false false true = (refl, λ m. refl)
  last_is false false false false false false false false = (refl, λ m. refl)

  only_r : (c : ℕ) → last_of (eqb c 80) (eqb c 78) (eqb c 65) (eqb c 79) (eqb c 68) (eqb c 66) (eqb c 83) (eqb c 82) ≡ eqb c 82
  unfolding last_of
  only_r c = grind (arith, nat_tests)

  pub rule_letter_is : (c : ℕ) → is_a_rule (row_of ns (letter_from c) f) ≡ eqb c 82
  unfolding letters
  rule_letter_is c = (last_is (eqb c 80) (eqb c 78) (eqb c 65) (eqb c 79) (eqb c 68) (eqb c 66) (eqb c 83) (eqb c 82)).0 ∙ only_r c

  pub rule_number_is : (m c : ℕ) → is_rule m (row_of ns (letter_from c) f) ≡ (eqb c 82 && eqb m f.number)
  unfolding letters
  rule_number_is m c =
      (last_is (eqb c 80) (eqb c 78) (eqb c 65) (eqb c 79) (eqb c 68) (eqb c 66) (eqb c 83) (eqb c 82)).1 m ∙ ap (λ b. b && eqb m f.number) (only_r c)

module _ (t : List ℕ) (i : ℕ) where
  at_place : (k : ℕ) → k < i → get_or (numbers_before t i) k 0 ≡ on_chain t k
  at_place k l = get_or-map-range_with_len (on_chain t) 0 i k k 0 l (omega arith)

  row_place : (k : ℕ) → k < i → row_at (rows_before t i) k ≡ row_in t k
  row_place k l = get_or-map-range_with_len (row_in t) 0 i k k (Input 0) l (omega arith)

  found_at : (n k : ℕ) → place_among_lem (numbers_before t i) n ≡ Some k → (k < i) × (on_chain t k ≡ n)
  found_at n k e =
      let w = found_place (numbers_before t i) n k e in
      let l : k < i = omega (arith, w.0, length-map-range_with_len (on_chain t) 0 i) in
      (l, sym (at_place k l) ∙ w.1)

  lost_at : (n : ℕ) → place_among_lem (numbers_before t i) n ≡ None → (k : ℕ) → k < i → on_chain t k ≡ n → ⊥
  lost_at n e k l s =
      lost_from 0 (numbers_before t i) n e k (omega (arith, length-map-range_with_len (on_chain t) 0 i)) (at_place k l ∙ s)

  stands_by : (n : ℕ) (o : Option ℕ) → place_among_lem (numbers_before t i) n ≡ o → Decides (is_some o) ((k : ℕ) × (k < i) × (on_chain t k ≡ n))
  stands_by n None e = (λ y. grind arith, λ w. absurd (lost_at n e w.0 w.1 w.2))
  stands_by n (Some k) e = let w = found_at n k e in (λ _. (k, w.0, w.1), λ _. refl)

  place_by : (n : ℕ) (o : Option ℕ) → place_among_lem (numbers_before t i) n ≡ o → is_some o ≡ true → (unwrap_or o 0 < i) × (on_chain t (unwrap_or o 0) ≡ n)
  place_by n None e y = absurd (both_ways true (sym y) refl)
  place_by n (Some k) e y = found_at n k e

  -- the row at place k is a rule just where row n, which stands there, has the letter R
  rule_at : (n k : ℕ) → k < i → on_chain t k ≡ n → is_a_rule (row_at (rows_before t i) k) ≡ eqb (fields_of t n).letter 82
  rule_at n k l e =
      ap is_a_rule (row_place k l) ∙ rule_letter_is (numbers_before t k) (fields_at t k) (fields_at t k).letter
      ∙ ap (λ r. eqb (fields_of t r).letter 82) e

  operand_by : (n : ℕ) (o : Option ℕ) → place_among_lem (numbers_before t i) n ≡ o
      → Decides (is_some (unless_rule (rows_before t i) o)) (((k : ℕ) × (k < i) × (on_chain t k ≡ n)) × ((fields_of t n).letter ≡ 82 → ⊥))
  operand_by n None e = (λ y. absurd (both_ways true (sym y) refl), λ w. absurd (lost_at n e w.0.0 w.0.1 w.0.2))
  operand_by n (Some k) e =
      let w = found_at n k e in
      let r = rule_at n k w.0 w.1 in (
        λ z. ((k, w.0, w.1), λ e. grind (arith, nat_tests)),
        λ z. grind (arith, nat_tests, z.1),
      )

  number_at : (n k : ℕ) → k < i → is_rule n (row_at (rows_before t i) k) ≡ (eqb (fields_at t k).letter 82 && eqb n (fields_at t k).number)
  number_at n k l =
      ap (is_rule n) (row_place k l) ∙ rule_number_is (numbers_before t k) (fields_at t k) n (fields_at t k).letter

  used_by : (n : ℕ) → Decides (rule_used (rows_before t i) n) ((k : ℕ) × (k < i) × ((fields_at t k).letter ≡ 82) × ((fields_at t k).number ≡ n))
  used_by n =
      let long = length-map-range_with_len (row_in t) 0 i in (
        λ y.
            let w = some_at (λ k. is_rule n (row_at (rows_before t i) k)) (length (rows_before t i)) y in
            let l : w.0 < i = omega (arith, w.1, long) in
            let e = number_at n w.0 l in
            (w.0, l, grind (arith, nat_tests), grind (arith, nat_tests)),
        λ w.
            let e = number_at n w.0 w.1 in
            some_from (λ k. is_rule n (row_at (rows_before t i) k)) (length (rows_before t i)) w.0 (omega (arith, w.1, long)) (grind (arith, nat_tests, w.2, w.3)),
      )

pub said : (t : List ℕ) (i : ℕ) → ReadAsSaid t i
said t i =
    record {
      stands = λ n. stands_by t i n (place_among_lem (numbers_before t i) n) refl;
      place = λ n y. place_by t i n (place_among_lem (numbers_before t i) n) refl y;
      operand = λ n. operand_by t i n (place_among_lem (numbers_before t i) n) refl;
      used = used_by t i;
    }
