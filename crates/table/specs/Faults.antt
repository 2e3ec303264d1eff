-- What is wrong with a row, by its fields and the rows before it on the chain. Assumes nothing.
use Rattle.std.specs.Prelude.{ℕ, Bool, true, cond, not, ◌&&◌, ◌||◌, List, [], ◌∷◌, length, is_some, Some, None, Option, ◌==◌, nat_lt}
use Rattle.std.specs.Option.{unwrap_or}
use Rattle.mitl.specs.declared.Row.{Row}
use Rattle.mitl.specs.declared.Row.TheVariants.{Input, Not, And, Or, Once, Always, Since, Rule}
use Rattle.mitl.specs.Rows.{row_at, is_rule}
use Rattle.mitl.specs.Windows.{some_below, sound_window}
use Rattle.plan.specs.Places.{place_among_lem}
use Rattle.plan.specs.Sound.{is_a_rule}
use Rattle.table.specs.declared.row.Fields.{Fields}
use Rattle.table.specs.declared.row.Letter.{Letter}
use Rattle.table.specs.declared.row.Letter.TheVariants.{P, N, A, O, D, B, S, R}
use Rattle.table.specs.Letters.{left_used, right_used, window_used, rule_letter, well_filled_lem}
use Rattle.refusal.specs.Faults.{Fault, fault}

-- Below, ns are the numbers of the rows before, along the chain, and rs what these rows say.

-- a place, unless a rule stands there
abbrev pub unless_rule : List Row → Option ℕ → Option ℕ
unless_rule rs None = None
unless_rule rs (Some k) = cond (is_a_rule (row_at rs k)) None (Some k)

-- the place of the operand n: a row before that is no rule
abbrev pub operand_place : List ℕ → List Row → ℕ → Option ℕ
operand_place ns rs n = unless_rule rs (place_among_lem ns n)

abbrev pub operands_right : List ℕ → List Row → Letter → Fields → Bool
operands_right ns rs c f =
    (not (left_used c) || is_some (operand_place ns rs f.left)) && (not (right_used c) || is_some (operand_place ns rs f.right))

-- rule n is among the rows
abbrev pub rule_used : List Row → ℕ → Bool
rule_used rs n = some_below (λ k. is_rule n (row_at rs k)) (length rs)

module _ (admits : ℕ → ℕ → Bool) (told : ℕ) (ns : List ℕ) (rs : List Row) (r : ℕ) where
  -- the faults of row r with a known letter, in the order in which they are told; `told` is the table's row count
  abbrev pub faults_as : Letter → Fields → List Fault
  faults_as c f =
      fault (not (well_filled_lem c f)) 5 r
      ∷ (fault (not (operands_right ns rs c f)) 6 r
      ∷ (fault (window_used c && not (sound_window f.a f.b)) 7 r
      ∷ (fault (rule_letter c && rule_used rs f.number) 8 r
      ∷ (fault (window_used c && not (admits f.a f.b)) 9 r
      ∷ (fault (nat_lt told f.next || (f.next == r || is_some (place_among_lem ns f.next))) 10 r
      ∷ [])))))

  abbrev pub faults_of : Option Letter → Fields → List Fault
  faults_of None f = fault true 4 r ∷ []
  faults_of (Some c) f = faults_as c f

-- the place of row n among the rows before
abbrev pub place_in : List ℕ → ℕ → ℕ
place_in ns n = unwrap_or (place_among_lem ns n) 0

-- what a row says, with the places of its operands
abbrev pub row_with_lem : Letter → Fields → ℕ → ℕ → Row
row_with_lem P f l r = Input f.number
row_with_lem N f l r = Not l
row_with_lem A f l r = And l r
row_with_lem O f l r = Or l r
row_with_lem D f l r = Once l f.a f.b
row_with_lem B f l r = Always l f.a f.b
row_with_lem S f l r = Since l r f.a f.b
row_with_lem R f l r = Rule f.number l

abbrev pub row_as : List ℕ → Letter → Fields → Row
row_as ns c f = row_with_lem c f (place_in ns f.left) (place_in ns f.right)

abbrev pub row_of : List ℕ → Option Letter → Fields → Row
row_of ns None f = Input 0
row_of ns (Some c) f = row_as ns c f
