-- From the fields of twelve bytes to the record and back. Assumes nothing.
use Rattle.std.proofs.Common.{◌≡◌, ℕ, ◌<◌, not, eqb, List, ◌∷◌, ◌++◌, length, get_or, None, Ok, Err, Result, sym, refl, ap, ◌∙◌, ap₂}
use Rattle.std.proofs.lemmas.Bool.{eq-eqb, eqb-true, not-false, not_from_true, cond-false}
use Rattle.refusal.specs.Faults.{first_fault}
use Rattle.refusal.proofs.Firsts.{none_held}
use Rattle.record.specs.declared.Record.{Record}
use Rattle.record.specs.declared.RecordFault.{RecordFault}
use Rattle.record.specs.Layout.{bytes_of, fields_at, apart_faults, reading_faults}
use Rattle.record.specs.Replies.{Fields, Checked, Read}
use Rattle.record.proofs.Orders.{two_back, four_back, twelve}

fields_are : (bytes : List ℕ) (z : ℕ) (r : Record) → Fields bytes z r → r ≡ fields_at bytes
fields_are bytes z r f = λ i. record { letter = f.letter_is i; car = record { number = f.car_is i }; ticks = f.ticks_is i; word = f.word_is i }

-- twelve bytes with a zero byte are those of the record that stands in them
pub laid_again : (s : List ℕ) → length s ≡ 12 → ((i : ℕ) → get_or s i 0 < 256) → get_or s 1 0 ≡ 0 → s ≡ bytes_of (fields_at s)
laid_again s h low z =
    twelve s h
    ∙ joined z
    (sym (two_back _ _ _ (low 2) (low 3) refl))
    (sym (four_back _ _ _ _ _ (low 4) (low 5) (low 6) (low 7) refl))
    (sym (four_back _ _ _ _ _ (low 8) (low 9) (low 10) (low 11) refl))
  where
    joined : {l z : ℕ} {c c' n n' w w' : List ℕ} → z ≡ 0 → c ≡ c' → n ≡ n' → w ≡ w' → ◌≡◌ {A = List ℕ} (l ∷ z ∷ (c ++ (n ++ w))) (l ∷ 0 ∷ (c' ++ (n' ++ w')))
    joined {l} b c d e = λ i. l ∷ b i ∷ (c i ++ (d i ++ e i))

-- of twelve bytes only the fields can be at fault
reading_of : (bytes : List ℕ) → length bytes ≡ 12 → first_fault (reading_faults bytes) ≡ first_fault (apart_faults (fields_at bytes) (get_or bytes 1 0))
reading_of bytes h = cond-false (not (eqb (length bytes) 12)) _ _ (not_from_true _ (eq-eqb (length bytes) 12 h))

reading_is : (bytes : List ℕ) (z : ℕ) (r : Record) → Fields bytes z r → first_fault (reading_faults bytes) ≡ first_fault (apart_faults r z)
reading_is bytes z r f = reading_of bytes f.twelve ∙ ap₂ (λ x y. first_fault (apart_faults x y)) (sym (fields_are bytes z r f)) (sym f.zero_is)

zero_from : (r : Record) (z : ℕ) → first_fault (apart_faults r z) ≡ None → z ≡ 0
zero_from r z e = eqb-true z 0 (not-false _ (none_held (apart_faults r z) e).1.0)

pub read_from : (bytes : List ℕ) (z : ℕ) (r : Record) → ((i : ℕ) → get_or bytes i 0 < 256) → Fields bytes z r → (x : Result Record RecordFault) → Checked r z x → Read bytes x
read_from bytes z r low f (Ok s) h =
    let is : s ≡ fields_at bytes = h.1 ∙ fields_are bytes z r f in (
      reading_is bytes z r f ∙ h.0,
      laid_again bytes f.twelve low (sym f.zero_is ∙ zero_from r z h.0) ∙ ap bytes_of (sym is),
      is,
    )
read_from bytes z r low f (Err e) h = reading_is bytes z r f ∙ h
