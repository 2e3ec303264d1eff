-- The rows of a rule table along its chain, how they are read, and the verdict word. Assumes nothing.
-- A row goes by its place on the chain, from 0. Its operands are rows at earlier places.
use Rattle.std.specs.Prelude.{◌≡◌, ℕ, zero, suc, ◌+◌, ◌*◌, ◌^◌, ◌<◌, ◌≤◌, Bool, true, false, cond, ◌&&◌, ◌⊎◌, List, [], ◌∷◌, ◌++◌, map, length, Decides, ◌==◌, slice_index, slice_index_or}
use Rattle.mitl.specs.declared.Row.{Row}
use Rattle.mitl.specs.declared.Row.TheVariants.{Input, Not, And, Or, Once, Always, Since, Rule}
use Rattle.mitl.specs.Formulas.{Formula, input, neg, both, either, once, always, since, bit, sat}
use Rattle.mitl.specs.Windows.{Window, some_below}

-- the timed rows, those with a window: D, B and S
abbrev pub is_timed : Row → Bool
is_timed (Input i) = false
is_timed (Not l) = false
is_timed (And l r) = false
is_timed (Or l r) = false
is_timed (Once l a b) = true
is_timed (Always l a b) = true
is_timed (Since l r a b) = true
is_timed (Rule i l) = false

-- every operand is a row earlier than place k
abbrev pub Earlier : ℕ → Row → Type 0
Earlier k (Input i) = Unit {0}
Earlier k (Not l) = l < k
Earlier k (And l r) = (l < k) × (r < k)
Earlier k (Or l r) = (l < k) × (r < k)
Earlier k (Once l a b) = l < k
Earlier k (Always l a b) = l < k
Earlier k (Since l r a b) = (l < k) × (r < k)
Earlier k (Rule i l) = l < k

-- the row at place k
abbrev pub row_at : List Row → ℕ → Row
row_at rows k = slice_index_or rows k (Input 0)

-- how many timed rows stand before place p
abbrev pub timed_before : List Row → ℕ → ℕ
timed_before rows zero = 0
timed_before rows (suc p) = cond (is_timed (row_at rows p)) 1 0 + timed_before rows p

abbrev pub timed_rows : List Row → ℕ
timed_rows rows = timed_before rows (length rows)

-- all operands are earlier rows
abbrev pub Chained : List Row → Type 0
Chained rows = (k : ℕ) → k < length rows → Earlier k (row_at rows k)

-- What a row says at tick t of the history h, where `reading k u` is how the row at place k is read at tick u.
abbrev pub Says : Row → List ℕ → (ℕ → ℕ → Bool) → ℕ → Type 0
Says (Input i) h reading t = bit i (slice_index h t) ≡ true
Says (Not l) h reading t = reading l t ≡ false
Says (And l r) h reading t = (reading l t ≡ true) × (reading r t ≡ true)
Says (Or l r) h reading t = (reading l t ≡ true) ⊎ (reading r t ≡ true)
Says (Once l a b) h reading t = (u : ℕ) × Window a b t u × (reading l u ≡ true)
Says (Always l a b) h reading t = (u : ℕ) → Window a b t u → reading l u ≡ true
Says (Since l r a b) h reading t = (u : ℕ) × Window a b t u × (reading r u ≡ true) × ((s : ℕ) → u ≤ s → s ≤ t → reading l s ≡ true)
Says (Rule i l) h reading t = reading l t ≡ true

-- `reading` is how the rows are read over h
abbrev pub Reads : List Row → List ℕ → (ℕ → ℕ → Bool) → Type 0
Reads rows h reading = (k : ℕ) → k < length rows → (t : ℕ) → Decides (reading k t) (Says (row_at rows k) h reading t)

abbrev pub formula_at : List Formula → ℕ → Formula
formula_at fs k = slice_index_or fs k (input 0)

-- the formula of a row, given those of the rows before it
abbrev pub formula_of : List Formula → Row → Formula
formula_of fs (Input i) = input i
formula_of fs (Not l) = neg (formula_at fs l)
formula_of fs (And l r) = both (formula_at fs l) (formula_at fs r)
formula_of fs (Or l r) = either (formula_at fs l) (formula_at fs r)
formula_of fs (Once l a b) = once (formula_at fs l) a b
formula_of fs (Always l a b) = always (formula_at fs l) a b
formula_of fs (Since l r a b) = since (formula_at fs l) (formula_at fs r) a b
formula_of fs (Rule i l) = formula_at fs l

-- the formulas fs and after them those of the rows
abbrev pub along : List Formula → List Row → List Formula
along fs [] = fs
along fs (r ∷ rows) = along (fs ++ (formula_of fs r ∷ [])) rows

-- the formulas of the rows, place by place
abbrev pub formulas : List Row → List Formula
formulas rows = along [] rows

-- how the row at place k is read at tick t of the history h
abbrev pub read : List Row → List ℕ → ℕ → ℕ → Bool
read rows h k t = sat (formula_at (formulas rows) k) h t

-- the number whose bit i, for i below n, is on where f i is
abbrev pub word : (ℕ → Bool) → ℕ → ℕ
word f zero = 0
word f (suc n) = cond (f n) (2 ^ n) 0 + word f n

-- the row is rule i
abbrev pub is_rule : ℕ → Row → Bool
is_rule i (Input j) = false
is_rule i (Not l) = false
is_rule i (And l r) = false
is_rule i (Or l r) = false
is_rule i (Once l a b) = false
is_rule i (Always l a b) = false
is_rule i (Since l r a b) = false
is_rule i (Rule j l) = i == j

-- Rule i is yes where v k is how the row at place k is read; no where the chain has no rule i.
abbrev pub rule_by : List Row → (ℕ → Bool) → ℕ → Bool
rule_by rows v i = some_below (λ k. is_rule i (row_at rows k) && v k) (length rows)

-- rule i is read as yes at tick t
abbrev pub rule : List Row → List ℕ → ℕ → ℕ → Bool
rule rows h t i = rule_by rows (λ k. read rows h k t) i

-- no two rules have one number
abbrev pub RulesApart : List Row → Type 0
RulesApart rows =
    (i j k l m : ℕ) → j < length rows → k < length rows → row_at rows j ≡ Rule i l → row_at rows k ≡ Rule i m → j ≡ k

-- The verdict word of tick t: bit i is rule i. (Shut, since it computes to sixteen terms.)
unfoldable pub verdict : List Row → List ℕ → ℕ → ℕ
verdict rows h t = word (rule rows h t) 16

-- every bound multiplied by q
abbrev pub scaled_row : ℕ → Row → Row
scaled_row q (Input i) = Input i
scaled_row q (Not l) = Not l
scaled_row q (And l r) = And l r
scaled_row q (Or l r) = Or l r
scaled_row q (Once l a b) = Once l (q * a) (q * b)
scaled_row q (Always l a b) = Always l (q * a) (q * b)
scaled_row q (Since l r a b) = Since l r (q * a) (q * b)
scaled_row q (Rule i l) = Rule i l

abbrev pub scaled_rows : ℕ → List Row → List Row
scaled_rows q rows = map (scaled_row q) rows
