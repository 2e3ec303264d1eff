-- The readings along a chain: they are what the rows say, the only ones, and a split of the ticks keeps them. Assumes nothing.
use Rattle.std.proofs.Common.{◌≡◌, ℕ, zero, suc, ◌+◌, ◌*◌, ◌/◌, ◌<◌, ◌≤◌, Bool, ◌&&◌, List, [], ◌∷◌, ◌++◌, map, length, Decides, sym, refl, ap, ◌∙◌, subst, ap₂, inl, inr, not-suc-le-zero, zero-add, arith, length-append}
use mathlib.Core.Path.{fun_ext}
use lib.ListN.{length-map, get_or-map}
use Rattle.std.proofs.lemmas.List.{get_or_append_left, get_or_at, map_push}
use Rattle.std.proofs.lemmas.Bool.{cases_lt, not-true, not_from_false, and_parts, and_from, or_cases, or_left, or_right}
use Rattle.std.proofs.lemmas.Bool.Decides.{same_from_decides, Decides-like, Decides-at}
use Rattle.mitl.specs.declared.Row.{Row}
use Rattle.mitl.specs.declared.Row.TheVariants.{Input, Not, And, Or, Once, Always, Since, Rule}
use Rattle.mitl.specs.Formulas.{Formula, input, neg, both, either, once, always, since, sat, scaled, parts}
use Rattle.mitl.specs.Rows.{Earlier, row_at, Chained, Says, Reads, formula_at, formula_of, along, formulas, read, word, is_rule, rule, verdict, scaled_row, scaled_rows}
use Rattle.mitl.proofs.Tests.{itself, decides_sat}
use Rattle.mitl.proofs.Parts.{sat_parts}
use Rattle.mitl.specs.Windows.{some_below}

-- what stands stays
along_before : (rows : List Row) (fs : List Formula) (k : ℕ) → k < length fs → formula_at (along fs rows) k ≡ formula_at fs k
along_before [] fs k lt = refl
along_before (r ∷ rows) fs k lt =
    along_before rows (fs ++ (formula_of fs r ∷ [])) k (simp length-append (omega arith)) ∙ get_or_append_left fs (formula_of fs r ∷ []) (input 0) k lt

formula_of_same : (fs gs : List Formula) (k : ℕ) → ((l : ℕ) → l < k → formula_at fs l ≡ formula_at gs l) → (r : Row) → Earlier k r → formula_of fs r ≡ formula_of gs r
formula_of_same fs gs k same (Input i) e = refl
formula_of_same fs gs k same (Not l) e = ap neg (same l e)
formula_of_same fs gs k same (And l r) e = ap₂ both (same l e.0) (same r e.1)
formula_of_same fs gs k same (Or l r) e = ap₂ either (same l e.0) (same r e.1)
formula_of_same fs gs k same (Once l a b) e = ap (λ f. once f a b) (same l e)
formula_of_same fs gs k same (Always l a b) e = ap (λ f. always f a b) (same l e)
formula_of_same fs gs k same (Since l r a b) e = ap₂ (λ f g. since f g a b) (same l e.0) (same r e.1)
formula_of_same fs gs k same (Rule i l) e = same l e

along_at : (rows : List Row) (fs : List Formula) → ((j : ℕ) → j < length rows → Earlier (length fs + j) (row_at rows j))
    → (j : ℕ) → j < length rows → formula_at (along fs rows) (length fs + j) ≡ formula_of (along fs rows) (row_at rows j)
along_at [] fs chained j lt = absurd (not-suc-le-zero lt)
along_at (r ∷ rows) fs chained zero lt =
    let gs = fs ++ (formula_of fs r ∷ []) in
    let here : formula_at (along gs rows) (length fs + 0) ≡ formula_of fs r =
    along_before rows gs (length fs + 0) (simp length-append (omega arith)) ∙ get_or_at fs (formula_of fs r) [] (input 0) (length fs + 0) (omega arith) in
    let before : (l : ℕ) → l < length fs + 0 → formula_at fs l ≡ formula_at (along gs rows) l =
    λ l less. let low : l < length fs = omega arith in sym (along_before (r ∷ rows) fs l low) in
    here ∙ formula_of_same fs (along gs rows) (length fs + 0) before r (chained 0 lt)
along_at (r ∷ rows) fs chained (suc j) lt =
    let gs = fs ++ (formula_of fs r ∷ []) in
    let longer : (i : ℕ) → length gs + i ≡ length fs + suc i = λ i. simp length-append (omega arith) in
    let rest = along_at rows gs (λ i less. subst (λ k. Earlier k (row_at rows i)) (sym (longer i)) (chained (suc i) (omega arith))) j (omega arith) in
    ap (formula_at (along gs rows)) (sym (longer j)) ∙ rest

pub formulas_at : (rows : List Row) → Chained rows → (k : ℕ) → k < length rows → formula_at (formulas rows) k ≡ formula_of (formulas rows) (row_at rows k)
formulas_at rows chained k lt =
    ap (formula_at (formulas rows)) (sym (zero-add k)) ∙ along_at rows [] (λ j less. subst (λ n. Earlier n (row_at rows j)) (sym (zero-add j)) (chained j less)) k lt

says : (fs : List Formula) (h : List ℕ) (t : ℕ) (r : Row) → Decides (sat (formula_of fs r) h t) (Says r h (λ k u. sat (formula_at fs k) h u) t)
says fs h t (Input i) = itself _
says fs h t (Not l) = (not-true _, not_from_false _)
says fs h t (And l r) = (and_parts _ _, λ e. and_from _ _ e.0 e.1)
says fs h t (Or l r) = (or_cases _ _, elim [ inl e ↦ or_left _ _ e | inr e ↦ or_right _ _ e ])
says fs h t (Once l a b) =
    let at = decides_sat (formula_at fs l) h in
    Decides-like _ (λ r. (r.0, r.1, (at r.0).1 r.2)) (λ r. (r.0, r.1, (at r.0).0 r.2)) (decides_sat (once (formula_at fs l) a b) h t)
says fs h t (Always l a b) =
    let at = decides_sat (formula_at fs l) h in
    Decides-like _ (λ r u w. (at u).1 (r u w)) (λ r u w. (at u).0 (r u w)) (decides_sat (always (formula_at fs l) a b) h t)
says fs h t (Since l r a b) =
    let at = decides_sat (formula_at fs l) h in
    let at' = decides_sat (formula_at fs r) h in
    Decides-like _
    (λ r. (r.0, r.1, (at' r.0).1 r.2, λ s low high. (at s).1 (r.3 s low high)))
    (λ r. (r.0, r.1, (at' r.0).0 r.2, λ s low high. (at s).0 (r.3 s low high)))
    (decides_sat (since (formula_at fs l) (formula_at fs r) a b) h t)
says fs h t (Rule i l) = itself _

pub read_reads : (rows : List Row) (h : List ℕ) → Chained rows → Reads rows h (read rows h)
read_reads rows h chained k lt t = Decides-at _ _ (ap (λ f. sat f h t) (formulas_at rows chained k lt)) (says (formulas rows) h t (row_at rows k))

-- readings that agree before place k agree on what the row at k says
Says-same : (k : ℕ) (h : List ℕ) (x y : ℕ → ℕ → Bool) → ((l : ℕ) → l < k → (u : ℕ) → x l u ≡ y l u) → (r : Row) → Earlier k r → (t : ℕ) → Says r h x t → Says r h y t
Says-same k h x y same (Input i) e t s = s
Says-same k h x y same (Not l) e t s = sym (same l e t) ∙ s
Says-same k h x y same (And l r) e t s = (sym (same l e.0 t) ∙ s.0, sym (same r e.1 t) ∙ s.1)
Says-same k h x y same (Or l r) e t (inl s) = inl (sym (same l e.0 t) ∙ s)
Says-same k h x y same (Or l r) e t (inr s) = inr (sym (same r e.1 t) ∙ s)
Says-same k h x y same (Once l a b) e t s = (s.0, s.1, sym (same l e s.0) ∙ s.2)
Says-same k h x y same (Always l a b) e t s = λ u w. sym (same l e u) ∙ s u w
Says-same k h x y same (Since l r a b) e t s =
    (s.0, s.1, sym (same r e.1 s.0) ∙ s.2, λ v low high. sym (same l e.0 v) ∙ s.3 v low high)
Says-same k h x y same (Rule i l) e t s = sym (same l e t) ∙ s

module _ (rows : List Row) (h : List ℕ) (chained : Chained rows) (x y : ℕ → ℕ → Bool) (first : Reads rows h x) (second : Reads rows h y) where
  same_below : (n : ℕ) → n ≤ length rows → (k : ℕ) → k < n → (t : ℕ) → x k t ≡ y k t
  same_below zero le k lt t = absurd (not-suc-le-zero lt)
  same_below (suc n) le k lt t =
      let before = same_below n (omega arith) in
      elim (cases_lt k n) [
        | inl less ↦ before k less t
        | inr more ↦
            (let is : k ≡ n = omega arith in
            let within : k < length rows = omega arith in
            let before' : (l : ℕ) → l < k → (u : ℕ) → x l u ≡ y l u = λ l less u. before l (omega arith) u in
            let back : (l : ℕ) → l < k → (u : ℕ) → y l u ≡ x l u = λ l less u. sym (before' l less u) in
            same_from_decides _ _
            (Decides-like _ (Says-same k h x y before' (row_at rows k) (chained k within) t) (Says-same k h y x back (row_at rows k) (chained k within) t) (first k within t))
            (second k within t))
      ]

  pub one_reading : (k : ℕ) → k < length rows → (t : ℕ) → x k t ≡ y k t
  one_reading = same_below (length rows) (omega arith)

-- bounds multiplied along the chain are bounds multiplied in the formulas
scaled_at : (q : ℕ) (fs : List Formula) (k : ℕ) → formula_at (map (scaled q) fs) k ≡ scaled q (formula_at fs k)
scaled_at q fs k = get_or-map (scaled q) fs k (input 0)

formula_of_scaled : (q : ℕ) (fs : List Formula) (r : Row) → formula_of (map (scaled q) fs) (scaled_row q r) ≡ scaled q (formula_of fs r)
formula_of_scaled q fs (Input i) = refl
formula_of_scaled q fs (Not l) = ap neg (scaled_at q fs l)
formula_of_scaled q fs (And l r) = ap₂ both (scaled_at q fs l) (scaled_at q fs r)
formula_of_scaled q fs (Or l r) = ap₂ either (scaled_at q fs l) (scaled_at q fs r)
formula_of_scaled q fs (Once l a b) = ap (λ f. once f (q * a) (q * b)) (scaled_at q fs l)
formula_of_scaled q fs (Always l a b) = ap (λ f. always f (q * a) (q * b)) (scaled_at q fs l)
formula_of_scaled q fs (Since l r a b) = ap₂ (λ f g. since f g (q * a) (q * b)) (scaled_at q fs l) (scaled_at q fs r)
formula_of_scaled q fs (Rule i l) = scaled_at q fs l

along_scaled : (q : ℕ) (rows : List Row) (fs : List Formula) → along (map (scaled q) fs) (scaled_rows q rows) ≡ map (scaled q) (along fs rows)
along_scaled q [] fs = refl
along_scaled q (r ∷ rows) fs =
    ap (λ gs. along gs (scaled_rows q rows))
    (ap (λ f. map (scaled q) fs ++ (f ∷ [])) (formula_of_scaled q fs r) ∙ sym (map_push (scaled q) fs (formula_of fs r)))
    ∙ along_scaled q rows (fs ++ (formula_of fs r ∷ []))

is_rule_scaled : (q i : ℕ) (r : Row) → is_rule i (scaled_row q r) ≡ is_rule i r
is_rule_scaled q i (Input j) = refl
is_rule_scaled q i r = refl

scaled_row_at : (q : ℕ) (rows : List Row) (k : ℕ) → row_at (scaled_rows q rows) k ≡ scaled_row q (row_at rows k)
scaled_row_at q rows k = get_or-map (scaled_row q) rows k (Input 0)

module _ (q : ℕ) (pos : 0 < q) (rows : List Row) (h : List ℕ) (p : ℕ) where
  pub read_parts : (k : ℕ) → read (scaled_rows q rows) (parts q h) k p ≡ read rows h k (p / q)
  read_parts k =
      ap (λ f. sat f (parts q h) p)
      (ap (λ fs. formula_at fs k) (along_scaled q rows []) ∙ scaled_at q (formulas rows) k)
      ∙ sat_parts q pos (formula_at (formulas rows) k) h p

  rule_parts : (i : ℕ) → rule (scaled_rows q rows) (parts q h) p i ≡ rule rows h (p / q) i
  rule_parts i =
      ap₂ some_below
      (fun_ext (λ k. ap₂ ◌&&◌ (ap (is_rule i) (scaled_row_at q rows k) ∙ is_rule_scaled q i (row_at rows k)) (read_parts k)))
      (length-map rows (scaled_row q))

  pub verdict_parts : verdict (scaled_rows q rows) (parts q h) p ≡ verdict rows h (p / q)
  unfolding verdict
  verdict_parts = ap (λ f. word f 16) (fun_ext rule_parts)

earlier_scaled : (q k : ℕ) (r : Row) → Earlier k r → Earlier k (scaled_row q r)
earlier_scaled q k (Input j) e = e
earlier_scaled q k r e = e

pub chained_scaled : (q : ℕ) (rows : List Row) → Chained rows → Chained (scaled_rows q rows)
chained_scaled q rows chained k lt =
    subst (Earlier k) (sym (scaled_row_at q rows k))
    (earlier_scaled q k (row_at rows k) (chained k (omega (arith, length-map rows (scaled_row q)))))
