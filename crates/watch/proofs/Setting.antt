-- Set's faults, layer by layer. Assumes nothing.
use Rattle.std.proofs.Common.{◌≡◌, ℕ, ◌*◌, ◌<◌, ◌≤◌, Bool, true, false, not, ◌&&◌, ltb, leb, List, [], ◌∷◌, ◌++◌, length, Some, None, Option, sym, ap, ◌∙◌, subst, mul-le-mul, arith}
use Rattle.std.proofs.lemmas.List.FromFn.{length-map-range_with_len, get_or-map-range_with_len}
use Rattle.std.proofs.lemmas.Bool.{lt-ltb, le-ltb, cond-true, cond-false, and_parts, not-false, leb-true, false≢true}
use Rattle.mitl.specs.declared.Row.{Row}
use Rattle.mitl.specs.declared.Row.TheVariants.{Input}
use Rattle.mitl.specs.Rows.{row_at, is_timed, timed_rows}
use Rattle.plan.specs.declared.plan.Plan.{Plan}
use Rattle.plan.specs.Rows.{rows_of}
use Rattle.engine.proofs.Plans.{used_most, timed_most}
use Rattle.refusal.specs.declared.Refusal.{Refusal}
use Rattle.refusal.specs.Faults.{Fault, fault, refusal, first_fault}
use Rattle.refusal.proofs.Held.{none_parts}
use Rattle.refusal.proofs.Firsts.{after_none, before_rest, none_held, none_along, none_joined}
use Rattle.record.specs.declared.Car.{Car}
use Rattle.mitl.specs.Outlook.{row_from, row_to}
use Rattle.table.specs.declared.row.Fields.{Fields}
use Rattle.table.specs.declared.row.Letter.{Letter}
use Rattle.table.specs.declared.row.Letter.TheVariants.{P, N, A, O, D, B, S, R}
use Rattle.table.specs.Chain.{rows_in, table_faults, table_refusal, head_faults, chain_faults, row_faults, ruled, chain_length, row_in, on_chain, letter_at, fields_at, numbers_before, rows_before}
use Rattle.table.specs.Faults.{faults_as, faults_of, row_as, row_of}
use Rattle.table.specs.Layout.{rows_told}
use Rattle.table.specs.Letters.{window_used}
use Rattle.memories.specs.Parts.{Admitted}
use Rattle.cars.specs.Cars.{list_faults, position_faults}
use Rattle.book.specs.Calls.{set_faults}

module _ (admitted : ℕ → ℕ → Bool) (room : ℕ) (t : List ℕ) (cs : List Car) where
  abbrev room_faults : List Fault
  room_faults = fault (ltb room (length cs * timed_rows (rows_in t))) 13 0 ∷ []

  pub table_first : (r : Refusal) → table_refusal admitted t ≡ Some r → first_fault (set_faults admitted room t cs) ≡ Some r
  unfolding table_refusal
  table_first r e = before_rest (table_faults admitted t) (list_faults cs ++ room_faults) r e

  module _ (sound : table_refusal admitted t ≡ None) where
    pub list_first : (r : Refusal) → first_fault (list_faults cs) ≡ Some r → first_fault (set_faults admitted room t cs) ≡ Some r
    unfolding table_refusal
    list_first r e = after_none (table_faults admitted t) (list_faults cs ++ room_faults) sound ∙ before_rest (list_faults cs) room_faults r e

    module _ (listed : first_fault (list_faults cs) ≡ None) where
      pub room_first : room < length cs * timed_rows (rows_in t) → first_fault (set_faults admitted room t cs) ≡ Some (refusal 13 0)
      unfolding table_refusal
      room_first lt =
          after_none (table_faults admitted t) (list_faults cs ++ room_faults) sound ∙ after_none (list_faults cs) room_faults listed
          ∙ cond-true (ltb room (length cs * timed_rows (rows_in t))) (Some (refusal 13 0)) None (lt-ltb room _ lt)

      pub none_first : length cs * timed_rows (rows_in t) ≤ room → first_fault (set_faults admitted room t cs) ≡ None
      unfolding table_refusal
      none_first le =
          after_none (table_faults admitted t) (list_faults cs ++ room_faults) sound ∙ after_none (list_faults cs) room_faults listed
          ∙ cond-false (ltb room (length cs * timed_rows (rows_in t))) (Some (refusal 13 0)) None (le-ltb room _ le)

-- a sound list has 1 to 32 cars, and a plan at most 64 timed rows
pub few_cars : (cs : List Car) → first_fault (list_faults cs) ≡ None → (1 ≤ length cs) × (length cs ≤ 32)
few_cars cs none =
    let off = (none_parts (fault (not (leb 1 (length cs) && leb (length cs) 32)) 12 0) (position_faults cs) none).0 in
    let p = and_parts (leb 1 (length cs)) (leb (length cs) 32) (not-false _ off) in
    (leb-true 1 (length cs) p.0, leb-true (length cs) 32 p.1)

pub few_timed : (p : Plan) → timed_rows (rows_of p) ≤ 64
few_timed p = omega (arith, timed_most (rows_of p) (length (rows_of p)), used_most p.rows p.count p.few p.each, p.few)

pub few_memories : (cs : List Car) (p : Plan) → first_fault (list_faults cs) ≡ None → length cs * timed_rows (rows_of p) ≤ 2048
few_memories cs p none = omega (arith, mul-le-mul (few_cars cs none).1 (few_timed p))

-- every window of an accepted table is admitted
module _ (admitted : ℕ → ℕ → Bool) (t : List ℕ) where
  admitted_as : (told : ℕ) (ns : List ℕ) (rs : List Row) (r : ℕ) (c : Letter) (f : Fields) → first_fault (faults_as admitted told ns rs r c f) ≡ None
      → is_timed (row_as ns c f) ≡ true → admitted (row_from (row_as ns c f)) (row_to (row_as ns c f)) ≡ true
  admitted_as told ns rs r c f none = by c (none_held (faults_as admitted told ns rs r c f) none).1.1.1.1.0
    where
      by : (c : Letter) → (window_used c && not (admitted f.a f.b)) ≡ false → is_timed (row_as ns c f) ≡ true → admitted (row_from (row_as ns c f)) (row_to (row_as ns c f)) ≡ true
      by P off timed = absurd (false≢true timed)
      by N off timed = absurd (false≢true timed)
      by A off timed = absurd (false≢true timed)
      by O off timed = absurd (false≢true timed)
      by D off timed = not-false (admitted f.a f.b) off
      by B off timed = not-false (admitted f.a f.b) off
      by S off timed = not-false (admitted f.a f.b) off
      by R off timed = absurd (false≢true timed)

  admitted_of : (told : ℕ) (ns : List ℕ) (rs : List Row) (r : ℕ) (o : Option Letter) (f : Fields) → first_fault (faults_of admitted told ns rs r o f) ≡ None
      → is_timed (row_of ns o f) ≡ true → admitted (row_from (row_of ns o f)) (row_to (row_of ns o f)) ≡ true
  admitted_of told ns rs r None f none timed = absurd (false≢true timed)
  admitted_of told ns rs r (Some c) f none timed = admitted_as told ns rs r c f none timed

  pub all_admitted : table_refusal admitted t ≡ None → Admitted admitted (rows_in t)
  unfolding table_refusal
  all_admitted sound p lt timed =
      let last : List Fault = fault (not (ruled t)) 11 0 ∷ [] in
      let walked = (none_joined (chain_faults admitted t) last (none_joined (head_faults t) (chain_faults admitted t ++ last) sound).1).0 in
      let long : length (rows_in t) ≡ chain_length t = length-map-range_with_len (row_in t) 0 (chain_length t) in
      let none = none_along (row_faults admitted t) 0 (chain_length t) walked p (omega arith) (omega (arith, long)) in
      let is : row_at (rows_in t) p ≡ row_in t p = get_or-map-range_with_len (row_in t) 0 (chain_length t) p p (Input 0) (omega (arith, long)) (omega arith) in
      subst (λ r. admitted (row_from r) (row_to r) ≡ true) (sym is)
      (admitted_of (rows_told t) (numbers_before t p) (rows_before t p) (on_chain t p) (letter_at t p) (fields_at t p) none (ap is_timed (sym is) ∙ timed))
