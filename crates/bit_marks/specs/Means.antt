-- What sound marks mean, and what each function makes of that. Assumes nothing.
use Rattle.std.specs.Prelude.{◌≡◌, ℕ, suc, ◌+◌, ◌-◌, ◌<◌, ◌≤◌, Bool, true, false, cond, ◌&&◌, ◌||◌, List, nat_le, nat_lt, refl}
use Rattle.std.proofs.Common.{sym, ap, ap₂, subst, ◌∙◌, ⊎_elim, arith}
use Rattle.std.proofs.Math.Path.{fun_ext}
use Rattle.std.proofs.lemmas.Bool.{cond-true, cond-false, cases_Bool, and_from, and_parts, and_right, or_from, le-ltb, le-leb, ltb-true, leb-true}
use Rattle.std.proofs.lemmas.Bool.Decides.{nat_tests, same_from_decides, Decides-like, Decides-and, Decides-ltb}
use Rattle.mitl.proofs.Tests.{decides_leb, decides_some}
use Rattle.mitl.specs.Windows.{sound_window}
use Rattle.mitl.specs.Memory.{Meaning, new_memory, taken, meets, ahead}
use Rattle.bit_marks.specs.Marks.{served, marked, ends_by, sound, told, meaning_of}
use Rattle.bit_marks.specs.declared.BitMarks.{BitMarks}
use Rattle.bit_marks.specs.Places.{ends_decided}

pub when_sound : (m : BitMarks) → sound m ≡ true → meaning_of m ≡ told m
when_sound m e = cond-true (sound m) (told m) new_memory e

pub record Parts (m : BitMarks) : Type 0 where
  pub admitted : served m.a m.b ≡ true
  pub order : m.a < m.b
  pub small : m.b ≤ 1000
  pub within : ends_by m.b m.marks.words ≡ true
  pub none : (d : ℕ) → m.b ≤ d → marked m.marks.words d ≡ false

pub parts : (m : BitMarks) → sound m ≡ true → Parts m
parts m e =
    let p = and_parts (served m.a m.b) (ends_by m.b m.marks.words) e in
    let q = and_parts (sound_window m.a m.b) (nat_le m.b 1000) p.0 in
    let s = and_parts (nat_lt m.a m.b) (nat_le m.b 864000) q.0 in
    record { admitted = p.0; order = ltb-true _ _ s.0; small = leb-true _ _ q.1; within = p.1; none = (ends_decided m.b m.marks.words).0 p.1 }

-- past the marks there is no yes
pub marks_within : (m : BitMarks) (d : ℕ) → (meaning_of m).b ≤ d → (meaning_of m).mark d ≡ false
marks_within m d h = ⊎_elim kept new (cases_Bool (sound m))
  where
    kept : sound m ≡ true → (meaning_of m).mark d ≡ false
    kept e =
        let w = when_sound m e in
        ap (λ (t : Meaning). t.mark d) w ∙ (parts m e).none d (subst (λ (t : Meaning). t.b ≤ d) w h)

    new : sound m ≡ false → (meaning_of m).mark d ≡ false
    new e = ap (λ (t : Meaning). t.mark d) (cond-false (sound m) (told m) new_memory e)

-- from b on the verdict is the operand
pub past_ahead : (m : BitMarks) → sound m ≡ true → (v : Bool) (d : ℕ) → m.b ≤ d → ahead m.a v (marked m.marks.words) d ≡ v
past_ahead m e v d h =
    let p = parts m e in
    ap₂ (λ x y. x || (v && y)) (p.none d h) (le-leb m.a d (omega arith)) ∙ kept v
  where
    kept : (v : Bool) → (false || (v && true)) ≡ v
    kept true = refl
    kept false = refl

abbrev pub the_marks : ℕ → ℕ → List ℕ → BitMarks
the_marks a b ws = record { a = a; b = b; marks = record { words = ws } }

abbrev meant : ℕ → ℕ → (ℕ → Bool) → Meaning
meant a b f = record { a = a; b = b; mark = f }

module _ (a b : ℕ) (ws : List ℕ) (f : ℕ → Bool) (admitted : served a b ≡ true) (same : (d : ℕ) → marked ws d ≡ f d) (none : (d : ℕ) → b ≤ d → f d ≡ false) where
  -- words with the marks f are sound, and mean these
  pub marks_sound : sound (the_marks a b ws) ≡ true
  marks_sound = and_from (served a b) (ends_by b ws) admitted ((ends_decided b ws).1 (λ d h. same d ∙ none d h))

  pub marks_mean : meaning_of (the_marks a b ws) ≡ meant a b f
  marks_mean = when_sound (the_marks a b ws) marks_sound ∙ ap (meant a b) (fun_ext same)

-- a tick d ahead is within reach of one of the n ticks taken
pub meets_is : (a b n d : ℕ) → a ≤ b → meets a b n d ≡ (nat_lt 0 n && (nat_le a (d + n) && nat_lt d b))
meets_is a b n d h =
    same_from_decides (meets a b n d) (nat_lt 0 n && (nat_le a (d + n) && nat_lt d b))
    (Decides-like (meets a b n d) (λ p. (omega (arith, p.1), (omega (arith, p.1, p.2.0), omega (arith, p.2.1))))
    (λ p. (a - d - 1, omega (arith, p.0, p.1.0), (omega (arith, p.1.0), omega (arith, p.1.1))))
    (decides_some (λ i. nat_le a (d + suc i) && nat_le (d + suc i) b) (λ i. (a ≤ d + suc i) × (d + suc i ≤ b)) (λ i. Decides-and _ _ (decides_leb a (d + suc i)) (decides_leb (d + suc i) b)) n))
    (Decides-and (nat_lt 0 n) (nat_le a (d + n) && nat_lt d b) (Decides-ltb 0 n) (Decides-and (nat_le a (d + n)) (nat_lt d b) (decides_leb a (d + n)) (Decides-ltb d b)))

-- marks moved down by n, and those from a - n on and below b set where the operand is yes
pub taken_is : (a b n d : ℕ) (v : Bool) (mark : ℕ → Bool) → a ≤ b → (mark (d + n) || (nat_le (a - n) d && nat_lt d (cond (v && nat_lt 0 n) b 0))) ≡ taken a b v n mark d
taken_is a b n d v mark h = ap (λ t. mark (d + n) || t) (reached v ∙ ap (λ t. v && t) (sym (meets_is a b n d h)))
  where
    reached : (v : Bool) → (nat_le (a - n) d && nat_lt d (cond (v && nat_lt 0 n) b 0)) ≡ (v && (nat_lt 0 n && (nat_le a (d + n) && nat_lt d b)))
    reached true = grind (arith, nat_tests)
    reached false = grind (arith, nat_tests)

-- no tick from b on comes within reach
pub taken_none : (a b n d : ℕ) (v : Bool) (mark : ℕ → Bool) → a ≤ b → ((d : ℕ) → b ≤ d → mark d ≡ false) → b ≤ d → taken a b v n mark d ≡ false
taken_none a b n d v mark h none p =
    or_from (mark (d + n)) (v && meets a b n d) (none (d + n) (omega arith))
    (and_right v (meets a b n d) (meets_is a b n d h ∙ and_right (nat_lt 0 n) (nat_le a (d + n) && nat_lt d b) (and_right (nat_le a (d + n)) (nat_lt d b) (le-ltb d b p))))
