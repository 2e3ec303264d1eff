-- What the walk along a chain keeps. Assumes nothing.
use Rattle.std.proofs.Common.{◌≡◌, ℕ, ◌+◌, ◌<◌, ◌≤◌, Bool, List, [], ◌∷◌, ◌++◌, map, length, Some, None, Ok, Option, sym, ap, ◌∙◌, inl, inr, add-one, arith, below_more}
use Rattle.std.specs.List.{range_with_len}
use Rattle.std.proofs.lemmas.List.FromFn.{map-range_with_len_more}
use Rattle.std.proofs.lemmas.Bool.{cases_eq}
use Rattle.std.proofs.lemmas.Bool.Decides.{nat_tests}
use Rattle.table.specs.Chain.{on_chain, row_in, row_faults, chain_faults, chain_length, rows_before, numbers_before}
use Rattle.table.specs.Drafts.{taken_rows, taken_numbers}
use Rattle.table.specs.Faults.{faults_of, row_of}
use Rattle.table.specs.Steps.{Stepped, Walked, named}
use Rattle.table.specs.Layout.{fields_of, rows_told, row_start}
use Rattle.table.specs.Letters.{letter_from}
use Rattle.refusal.specs.Faults.{first_fault}
use Rattle.refusal.specs.declared.Refusal.{Refusal}
use Rattle.table.specs.declared.draft.Draft.{Draft}
use Rattle.table.specs.declared.row.Step.{Step}
use Rattle.table.proofs.Chains.{Headed, low_at, room_at, longer, ends_at}
use Rattle.refusal.proofs.Firsts.{along_none, along_some}

-- after the rows of d, with the row `next` to come
pub record Walking (admits : ℕ → ℕ → Bool) (t : List ℕ) (d : Draft) (next : Option ℕ) : Type 0 where
  pub here : next ≡ named (on_chain t d.count)
  pub fine : (k : ℕ) → k < d.count → first_fault (row_faults admits t k) ≡ None
  pub met : (k : ℕ) → k < d.count → on_chain t k ≡ 0 → ⊥
  pub took_rows : taken_rows d ≡ rows_before t d.count
  pub took_numbers : taken_numbers d ≡ numbers_before t d.count

-- a row that is named has the number, which is not zero
is_named : (n r : ℕ) → named n ≡ Some r → (n ≡ r) × (n ≡ 0 → ⊥)
is_named n r e = (grind (arith, nat_tests), λ z. grind (arith, nat_tests))

none_named : (n : ℕ) → named n ≡ None → n ≡ 0
none_named n e = grind (arith, nat_tests)

-- one more item of a list that is made place by place
took_more : {X : Type 0} (f : ℕ → X) (xs ys : List X) (n m : ℕ) (x : X) → ys ≡ xs ++ x ∷ [] → xs ≡ map f (range_with_len 0 n) → x ≡ f n → m ≡ n + 1
    → ys ≡ map f (range_with_len 0 m)
took_more f xs ys n m x more e same count =
    more ∙ (λ i. e i ++ (same i ∷ [])) ∙ sym (map-range_with_len_more f 0 n n (omega arith)) ∙ ap (λ k. map f (range_with_len 0 k)) (sym count)

module _ (admits : ℕ → ℕ → Bool) (t : List ℕ) (h : Headed t) (d : Draft) (next : Option ℕ) (w : Walking admits t d next) where
  module _ (at : ℕ) (on : next ≡ Some at) where
    now : (on_chain t d.count ≡ at) × (on_chain t d.count ≡ 0 → ⊥)
    now = is_named (on_chain t d.count) at (sym w.here ∙ on)

    met_all : (k : ℕ) → k ≤ d.count → on_chain t k ≡ 0 → ⊥
    met_all k l e =
        elim (cases_eq k d.count) [ inl same ↦ now.1 (ap (on_chain t) (sym same) ∙ e) | inr other ↦ w.met k (omega arith) e ]

    pub room : d.count < 64
    room = omega (arith, room_at admits t h d.count w.fine met_all, h.few_rows)

    pub ready : (1 ≤ at) × (row_start at + 16 ≤ length t)
    ready =
        let low : at ≤ rows_told t = omega (arith, low_at admits t h d.count w.fine d.count (omega arith), now.0) in
        let high : at ≡ 0 → ⊥ = λ e. now.1 (now.0 ∙ e) in
        (omega arith, omega (arith, h.long))

    module _ (told : ℕ) (all : told ≡ rows_told t) where
      -- the faults of the row to come, in words of the table
      same_faults : faults_of admits told (taken_numbers d) (taken_rows d) at (letter_from (fields_of t at).letter) (fields_of t at) ≡ row_faults admits t d.count
      same_faults = λ i.
          faults_of admits (all i) (w.took_numbers i) (w.took_rows i) (sym now.0 i) (letter_from (fields_of t (sym now.0 i)).letter) (fields_of t (sym now.0 i))

      pub failed : (r : Refusal) → first_fault (faults_of admits told (taken_numbers d) (taken_rows d) at (letter_from (fields_of t at).letter) (fields_of t at)) ≡ Some r
          → first_fault (chain_faults admits t) ≡ Some r
      failed r e =
          along_some (row_faults admits t) 0 (chain_length t) d.count r (omega arith)
          (let l = longer t d.count d.few met_all in omega arith) (λ k _ l. w.fine k l) (ap first_fault (sym same_faults) ∙ e)

      pub more : (s : Step) → Stepped admits told d t at (Ok s) → (e : Draft) → e.count ≡ d.count + 1 → taken_rows e ≡ taken_rows d ++ s.row ∷ []
          → taken_numbers e ≡ taken_numbers d ++ at ∷ [] → Walking admits t e s.next
      more s step e count rows numbers =
          record {
            here = step.2 ∙ ap named (ap (λ r. (fields_of t r).next) (sym now.0) ∙ ap (on_chain t) (sym (add-one d.count) ∙ sym count));
            fine = λ k l. below_more _ d.count w.fine (ap first_fault (sym same_faults) ∙ step.0) k (omega arith);
            met = λ k l. below_more _ d.count w.met (met_all d.count (omega arith)) k (omega arith);
            took_rows = took_more (row_in t) (taken_rows d) (taken_rows e) d.count e.count s.row rows w.took_rows
                (step.1 ∙ (λ i. row_of (w.took_numbers i) (letter_from (fields_of t (sym now.0 i)).letter) (fields_of t (sym now.0 i)))) count;
            took_numbers = took_more (on_chain t) (taken_numbers d) (taken_numbers e) d.count e.count at numbers w.took_numbers (sym now.0) count;
          }

  module _ (off : next ≡ None) where
    whole : d.count ≡ chain_length t
    whole = ends_at t d.count h d.few w.met (none_named (on_chain t d.count) (sym w.here ∙ off))

    pub walked : Walked admits t (Ok d)
    walked = (
      along_none (row_faults admits t) 0 (chain_length t) (λ k _ l. w.fine k (omega (arith, whole))),
      record { count = whole; rows = w.took_rows; numbers = w.took_numbers; each = w.fine },
    )
