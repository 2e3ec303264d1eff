-- The laws of a table's refusal and of its chain. Assumes nothing.
use Rattle.std.proofs.Common.{◌≡◌, ℕ, zero, suc, ◌-◌, ◌<◌, ◌≤◌, Bool, not, eqb, List, [], ◌∷◌, ◌++◌, take, drop, replicate, Some, None, Ok, Err, Result, sym, refl, ◌∙◌, inl, inr, arith}
use Rattle.std.proofs.lemmas.List.{take-append-drop}
use Rattle.std.proofs.lemmas.Bool.{cases_lt, eqb-true, eqb-false}
use Rattle.std.proofs.lemmas.Option.{none-some, same_Some}
use Rattle.mitl.specs.declared.Row.TheVariants.{Input}
use Rattle.plan.specs.declared.plan.Plan.{Plan}
use Rattle.plan.specs.Sound.{is_a_rule}
use Rattle.plan.proofs.Below.{some_from, some_none}
use Rattle.table.specs.Chain.{on_chain, row_in, fields_at, first_from, chain_length, ruled, head_faults, row_faults, chain_faults, table_refusal}
use Rattle.table.specs.Decoded.{Decoded}
use Rattle.table.specs.Laws.{Clear, GoesOn, Told, ChainEnds, RowsFit, SameReply, TablesTold}
use Rattle.refusal.specs.Faults.{Fault, fault, first_fault}
use Rattle.table.specs.Refusals.{of_table}
use Rattle.refusal.specs.declared.Refusal.{Refusal}
use Rattle.table.specs.declared.fault.TableFault.{TableFault}
use Rattle.table.proofs.Chains.{Headed, headed, low_at, apart_at, room_at, longer, ends_at}
use Rattle.table.proofs.Finish.{head_refused, row_refused, rule_refused, not_refused}
use Rattle.table.proofs.Fitting.{rows_fit}
use Rattle.table.proofs.Said.{said}
use Rattle.refusal.proofs.Firsts.{along_none, along_some, none_joined, none_along}
use Rattle.table.proofs.Numbers.{first_before, first_at}

module _ (admits : ℕ → ℕ → Bool) (t : List ℕ) where
  module _ (opened : first_fault (head_faults t) ≡ None) (i : ℕ) (clear : Clear admits t i) (on : GoesOn admits t i) where
    meets : (k : ℕ) → k ≤ i → on_chain t k ≡ 0 → ⊥
    meets zero l e = omega (arith, (headed t opened).some_first)
    meets (suc k) l e = on k (omega arith) e

    roomy : i < 64
    roomy = omega (arith, room_at admits t (headed t opened) i clear meets, (headed t opened).few_rows)

    row_told : (r : Refusal) → first_fault (row_faults admits t i) ≡ Some r → table_refusal admits t ≡ Some r
    row_told r e =
        let far = longer t i (omega (arith, roomy)) meets in
        row_refused admits t opened r
        (along_some (row_faults admits t) 0 (chain_length t) i r (omega arith) (omega arith) (λ k _ l. clear k l) e)

    module _ (clear' : Clear admits t (suc i)) (end : on_chain t (suc i) ≡ 0) where
      long : suc i ≡ chain_length t
      long = ends_at t (suc i) (headed t opened) (omega (arith, roomy)) (λ k l. meets k (omega arith)) end

      walked : first_fault (chain_faults admits t) ≡ None
      walked = along_none (row_faults admits t) 0 (chain_length t) (λ k _ l. clear' k (omega (arith, long)))

  pub tells : Told admits t
  tells =
      record {
        head = head_refused admits t;
        row = row_told;
        no_rule = λ opened i clear on end none.
            let before : Clear admits t i = λ k l. clear k (omega arith) in
            let n = long opened i before on clear end in
            rule_refused admits t opened (walked opened i before on clear end)
            (some_none (λ k. is_a_rule (row_in t k)) (chain_length t) (λ k l. none k (omega arith)));
        sound = λ opened i clear on end k l some.
            let before : Clear admits t i = λ k l. clear k (omega arith) in
            let n = long opened i before on clear end in (
              not_refused admits t opened (walked opened i before on clear end)
                  (some_from (λ k. is_a_rule (row_in t k)) (chain_length t) k (omega arith) some),
              sym n,
            );
      }

  parts : table_refusal admits t ≡ None → (first_fault (head_faults t) ≡ None) × (first_fault (chain_faults admits t) ≡ None)
  unfolding table_refusal
  parts e =
      let last : List Fault = fault (not (ruled t)) 11 0 ∷ [] in
      let p = none_joined (head_faults t) (chain_faults admits t ++ last) e in
      (p.0, (none_joined (chain_faults admits t) last p.1).0)

  module _ (h : Headed t) (clear : Clear admits t (chain_length t)) where
    past : (k : ℕ) → suc k < chain_length t → on_chain t (suc k) ≡ 0 → ⊥
    unfolding chain_length
    past k l = eqb-false (on_chain t (suc k)) 0 (first_before (λ i. eqb (fields_at t i).next 0) 0 64 k (omega arith) (omega arith))

    meets_all : (k : ℕ) → k < chain_length t → on_chain t k ≡ 0 → ⊥
    meets_all zero l e = omega (arith, h.some_first)
    meets_all (suc k) l e = past k l e

    -- the last row has no next
    over : on_chain t (chain_length t) ≡ 0
    unfolding chain_length
    over =
        elim (cases_lt (first_from (λ i. eqb (fields_at t i).next 0) 0 64) 64) [
          | inl l ↦ eqb-true _ 0 (first_at (λ i. eqb (fields_at t i).next 0) 0 64 l)
          | inr l ↦
              absurd (omega (arith, room_at admits t h 64 (λ k m. clear k (omega arith)) (λ k m. meets_all k (omega arith)), h.few_rows))
        ]

    chained_by : (n : ℕ) → chain_length t ≡ suc n → ChainEnds admits t
    chained_by n e =
        let before : Clear admits t n = λ k l. clear k (omega arith) in
        record {
          few = omega (arith, room_at admits t h n before (λ k l. meets_all k (omega arith)));
          ends = over;
          within = λ k l. (omega (arith, meets_all k l), low_at admits t h n before k (omega arith));
          apart = λ j k l m. apart_at admits t h n before j k l (omega arith);
        }

  all_clear : table_refusal admits t ≡ None → Clear admits t (chain_length t)
  all_clear e k l = none_along (row_faults admits t) 0 (chain_length t) (parts e).1 k (omega arith) (omega arith)

  pub chained : table_refusal admits t ≡ None → ChainEnds admits t
  unfolding chain_length
  chained e = chained_by (headed t (parts e).0) (all_clear e) _ refl

  pub fit : table_refusal admits t ≡ None → RowsFit t
  fit e = rows_fit admits t (all_clear e)

  same_list : {X : Type 0} (xs ys : List X) (m n : ℕ) (d : X) (zs : List X) → m ≡ n → take m xs ≡ zs → take n ys ≡ zs
      → drop m xs ≡ replicate (64 - m) d → drop n ys ≡ replicate (64 - n) d → xs ≡ ys
  same_list xs ys m n d zs e a b c f = grind (arith, take-append-drop m xs, take-append-drop n ys)

  pub one : (r s : Result Plan TableFault) → Decoded admits t r → Decoded admits t s → SameReply r s
  one (Ok p) (Ok q) a b =
      let count = a.1.count ∙ sym b.1.count in (
        same_list p.rows q.rows p.count q.count (Input 0) _ count a.1.rows b.1.rows a.1.idle_rows b.1.idle_rows,
        same_list p.numbers q.numbers p.count q.count 0 _ count a.1.numbers b.1.numbers a.1.idle_numbers b.1.idle_numbers,
        count,
      )
  one (Ok p) (Err g) a b = none-some (of_table g) (sym a.0 ∙ b)
  one (Err f) (Ok q) a b = none-some (of_table f) (sym b.0 ∙ a)
  one (Err f) (Err g) a b = same_Some (of_table f) (of_table g) (sym a ∙ b)

pub tables_told : TablesTold
tables_told = record { said = said; told = tells; chained = chained; one_reply = one }
