-- Worked cases, settled by one proof over their list. Assumes nothing.
use Rattle.std.specs.Prelude.{◌≡◌, ℕ, zero, suc, ◌-◌, Bool, true, false, cond, List, [], ◌∷◌, ◌++◌, map, length, replicate}
use Rattle.std.specs.List.{range_with_len, AllByRecursion}
use Rattle.mitl.specs.declared.Row.{Row}
use Rattle.mitl.specs.declared.Row.TheVariants.{Input, Not, And, Or, Once, Always, Since}
use Rattle.mitl.specs.Formulas.{Formula, parts}
use Rattle.mitl.specs.Rows.{formula_at, formulas, read, scaled_rows}
use Rattle.mitl.specs.Outlook.{outlook, to}
use Rattle.mitl.specs.Memory.{stretches, most_stretches_lem}

-- the ticks below n at which p says yes
abbrev pub yes_ticks : (ℕ → Bool) → ℕ → List ℕ
yes_ticks p zero = []
yes_ticks p (suc n) = yes_ticks p n ++ cond (p n) (n ∷ []) []

-- a case is about the last row of its chain
abbrev pub last_place : List Row → ℕ
last_place rows = length rows - 1

abbrev pub last_formula : List Row → Formula
last_formula rows = formula_at (formulas rows) (last_place rows)

pub data Case : Type 0 where
  -- over this history the row is read as yes at these ticks, and as no at all its others
  yes_at : List Row → List ℕ → List ℕ → Case
  -- after this history the row's marks are these, and they have so many stretches of yes
  marks_are : List Row → List ℕ → List Bool → ℕ → Case
  -- the most stretches of the window from a to b
  most_are : ℕ → ℕ → ℕ → Case

abbrev pub Right : Case → Type 0
Right (yes_at rows h expected) = yes_ticks (read rows h (last_place rows)) (length h) ≡ expected
Right (marks_are rows h expected count) =
    (map (outlook (last_formula rows) h) (range_with_len 0 (to (last_formula rows))) ≡ expected) × (stretches (outlook (last_formula rows) h) (to (last_formula rows)) ≡ count)
Right (most_are a b expected) = most_stretches_lem a b ≡ expected

-- Chains of a case: D and B over input 0; S with input 0 on its left and input 1 on its right.
abbrev pub chain_d : ℕ → ℕ → List Row
chain_d a b = Input 0 ∷ Once 0 a b ∷ []

abbrev pub chain_b : ℕ → ℕ → List Row
chain_b a b = Input 0 ∷ Always 0 a b ∷ []

abbrev pub chain_s : ℕ → ℕ → List Row
chain_s a b = Input 0 ∷ Input 1 ∷ Since 0 1 a b ∷ []

-- In a word of these histories 1 is input 0 alone, and 3 is inputs 0 and 1.
abbrev pub cases : List Case
cases =
    -- D 2 to 4, left yes at 0: yes at 2, 3 and 4 only
    yes_at (chain_d 2 4) (1 ∷ replicate 9 0) (2 ∷ 3 ∷ 4 ∷ [])
    -- S 1 to 3, left yes at every tick, right at 1: yes at 2, 3 and 4 only
    ∷ yes_at (chain_s 1 3) (1 ∷ 3 ∷ replicate 8 1) (2 ∷ 3 ∷ 4 ∷ [])
    -- the same, with left no at 3: yes at 2 only
    ∷ yes_at (chain_s 1 3) (1 ∷ 3 ∷ 1 ∷ 0 ∷ replicate 6 1) (2 ∷ [])
    -- B 2 to 4, left never yes: yes at 0 and 1 only, where the window has no tick
    ∷ yes_at (chain_b 2 4) (replicate 10 0) (0 ∷ 1 ∷ [])
    -- D 3 to 4, left yes at 0 and 3, after four ticks: two stretches
    ∷ marks_are (chain_d 3 4) (1 ∷ 0 ∷ 0 ∷ 1 ∷ []) (true ∷ false ∷ true ∷ true ∷ []) 2
    -- D 3 to 4, left yes at 0 and 2, after three ticks: one stretch
    ∷ marks_are (chain_d 3 4) (1 ∷ 0 ∷ 1 ∷ []) (true ∷ true ∷ true ∷ true ∷ []) 1
    -- the first case with every tick split in two: yes at parts 4 to 9 only
    ∷ yes_at (scaled_rows 2 (chain_d 2 4)) (parts 2 (1 ∷ replicate 9 0)) (4 ∷ 5 ∷ 6 ∷ 7 ∷ 8 ∷ 9 ∷ [])
    -- the most stretches of the windows 3 to 4, 0 to 2, and 96 to 97
    ∷ most_are 3 4 2
    ∷ most_are 0 2 1
    ∷ most_are 96 97 33
    ∷ []

abbrev pub CasesRight : Type 0
CasesRight = AllByRecursion Right cases

-- a row over inputs 0 and 1
abbrev pub chain_of : Row → List Row
chain_of r = Input 0 ∷ Input 1 ∷ r ∷ []

-- N, A and O over the four pairs of readings. In a word of this history 1 is input 0 alone, 2 is input 1 alone, and 3
-- is both.
abbrev pub pair_cases : List Case
pair_cases =
    -- N of input 0: yes at 0 and 2 only
    yes_at (chain_of (Not 0)) (0 ∷ 1 ∷ 2 ∷ 3 ∷ []) (0 ∷ 2 ∷ [])
    -- A: yes at 3 only
    ∷ yes_at (chain_of (And 0 1)) (0 ∷ 1 ∷ 2 ∷ 3 ∷ []) (3 ∷ [])
    -- O: yes at 1, 2 and 3 only
    ∷ yes_at (chain_of (Or 0 1)) (0 ∷ 1 ∷ 2 ∷ 3 ∷ []) (1 ∷ 2 ∷ 3 ∷ [])
    ∷ []

abbrev pub PairCasesRight : Type 0
PairCasesRight = AllByRecursion Right pair_cases
