-- A whole chain as a plan, and the refusal of a table by its parts. Assumes nothing.
use Rattle.std.proofs.Common.{◌≡◌, ℕ, ◌<◌, Bool, true, false, not, ◌&&◌, List, [], ◌∷◌, ◌++◌, Some, None, Option, sym, ap, ◌∙◌, arith}
use Rattle.std.proofs.lemmas.List.FromFn.{get_or-map-range_with_len}
use Rattle.std.proofs.lemmas.List.{get_or-take}
use Rattle.std.specs.Option.{ok_or}
use Rattle.std.proofs.lemmas.Bool.{le-leb, cond-true, cond-false}
use Rattle.mitl.specs.declared.Row.TheVariants.{Input}
use Rattle.mitl.specs.Rows.{row_at}
use Rattle.mitl.specs.Windows.{some_below}
use Rattle.plan.specs.declared.plan.Plan.{Plan}
use Rattle.plan.specs.Built.{Built}
use Rattle.plan.specs.Sound.{is_a_rule, row_ok, sound_rows}
use Rattle.plan.proofs.Below.{all_from, some_same}
use Rattle.table.specs.Chain.{row_in, ruled, head_faults, chain_faults, table_refusal}
use Rattle.table.specs.Decoded.{Decoded, PlanOf}
use Rattle.table.specs.declared.fault.TableFault.TheVariants.{NoRule}
use Rattle.table.specs.Steps.{DraftOf}
use Rattle.refusal.specs.Faults.{Fault, first_fault, refusal, fault}
use Rattle.table.specs.declared.draft.Draft.{Draft}
use Rattle.refusal.specs.declared.Refusal.{Refusal}
use Rattle.table.proofs.Chains.{row_stands}
use Rattle.refusal.proofs.Firsts.{after_none, before_rest}

module _ (admits : ℕ → ℕ → Bool) (t : List ℕ) (d : Draft) (of : DraftOf admits t d) where
  row_here : (k : ℕ) → k < d.count → row_at d.rows k ≡ row_in t k
  row_here k h =
      sym (get_or-take d.count d.rows k (Input 0) h) ∙ ap (λ l. row_at l k) of.rows
      ∙ get_or-map-range_with_len (row_in t) 0 d.count k k (Input 0) h (omega arith)

  sound_draft : sound_rows d.rows d.count ≡ ruled t
  sound_draft =
      let small = le-leb d.count 64 d.few in
      let each = all_from (λ k. row_ok d.rows k (row_at d.rows k)) d.count (row_stands admits t d.rows d.count of.each row_here) in
      let some = some_same (λ k. is_a_rule (row_at d.rows k)) (λ k. is_a_rule (row_in t k)) d.count (λ k h. ap is_a_rule (row_here k h)) in
      (λ i. small i && (each i && some i)) ∙ ap (some_below (λ k. is_a_rule (row_in t k))) of.count

  planned : (p : Plan) → p.rows ≡ d.rows → p.numbers ≡ d.numbers → p.count ≡ d.count → PlanOf t p
  planned p rows numbers count =
      record { count = cc; rows = cc; numbers = cc; idle_rows = cc (d.idle_rows); idle_numbers = cc (d.idle_numbers) }

module _ (admits : ℕ → ℕ → Bool) (t : List ℕ) where
  last_check : List Fault
  last_check = fault (not (ruled t)) 11 0 ∷ []

  pub head_refused : (r : Refusal) → first_fault (head_faults t) ≡ Some r → table_refusal admits t ≡ Some r
  unfolding table_refusal last_check
  head_refused r e = before_rest (head_faults t) (chain_faults admits t ++ last_check) r e

  module _ (opened : first_fault (head_faults t) ≡ None) where
    pub row_refused : (r : Refusal) → first_fault (chain_faults admits t) ≡ Some r → table_refusal admits t ≡ Some r
    unfolding table_refusal last_check
    row_refused r e = after_none (head_faults t) (chain_faults admits t ++ last_check) opened ∙ before_rest (chain_faults admits t) last_check r e

    module _ (walked : first_fault (chain_faults admits t) ≡ None) where
      by_rules : table_refusal admits t ≡ first_fault last_check
      unfolding table_refusal last_check
      by_rules = after_none (head_faults t) (chain_faults admits t ++ last_check) opened ∙ after_none (chain_faults admits t) last_check walked

      pub rule_refused : ruled t ≡ false → table_refusal admits t ≡ Some (refusal 11 0)
      unfolding last_check
      rule_refused none = by_rules ∙ cond-true (not (ruled t)) (Some (refusal 11 0)) None (ap not none)

      pub not_refused : ruled t ≡ true → table_refusal admits t ≡ None
      unfolding last_check
      not_refused some = by_rules ∙ cond-false (not (ruled t)) (Some (refusal 11 0)) None (ap not some)

      -- the reply to a whole chain: its plan, or that it has no rule
      pub built_reply : (d : Draft) → DraftOf admits t d → (o : Option Plan) → Built d.rows d.numbers d.count o → Decoded admits t (ok_or o NoRule)
      built_reply d of None built = rule_refused (sym (sound_draft admits t d of) ∙ built)
      built_reply d of (Some p) built =
          (not_refused (sym (sound_draft admits t d of) ∙ built.0), planned admits t d of p built.1 built.2 built.3)
