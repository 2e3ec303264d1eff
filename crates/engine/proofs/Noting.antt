-- Longest runs written one after another. Assumes nothing.
use Rattle.std.proofs.Common.{◌≡◌, ℕ, zero, suc, ◌+◌, ◌-◌, ◌<◌, ◌≤◌, true, false, ◌&&◌, ◌||◌, eqb, ltb, List, [], ◌∷◌, ◌++◌, map, length, get_or, take, drop, set, replicate, sym, refl, ap, ◌∙◌, subst, ap₂, inl, inr, not-suc-le-zero, arith, take-append-drop}
use mathlib.Core.Bool.{false≢true}
use lib.ListN.{length-map}
use Rattle.std.proofs.lemmas.List.{append-nil, take_more_set, map_push, length-take-le, drop-drop, drop-set-lt}
use Rattle.std.proofs.lemmas.Bool.{and_parts, and_from, or_parts, lt-ltb, ltb-true, ltb-false, eqb-false, cases_lt}
use Rattle.record.specs.declared.Car.{Car}
use Rattle.record.specs.declared.Note.{Note}
use Rattle.mitl.specs.declared.Row.{Row}
use Rattle.mitl.specs.Memory.{Meaning}
use Rattle.mitl.specs.Rows.{timed_rows}
use Rattle.mitl.specs.Runs.{Run, expanded, Longest, ticks}
use Rattle.mitl.proofs.Runs.{EndsOff, longest_push, expanded_push, length_expanded, written_all, written_full}
use Rattle.engine.specs.Means.{Means}
use Rattle.engine.specs.Due.{coming, due, covered}
use Rattle.engine.specs.Held.{coming_first, Whole}
use Rattle.engine.specs.Judged.{note, Judged, idle}
use Rattle.engine.proofs.Verdicts.{coming_more, coming_at_once, coming_length, longer}

-- a block that begins with z has z as its first verdict
first_of : (rows : List Row) (h : List ℕ) (w n z : ℕ) → 0 < n → coming rows h n w ≡ replicate n z → coming_first rows h w ≡ z
first_of rows h w zero z pos e = absurd (not-suc-le-zero pos)
first_of rows h w (suc n) z pos e = ap (λ xs. get_or xs 0 0) (sym (coming_at_once rows h w n) ∙ e)

ends_push : (rs : List Run) (z n y : ℕ) → (z ≡ y → ⊥) → EndsOff (rs ++ (record { word = z; count = n } ∷ [])) y
ends_push [] z n y off = off
ends_push (r ∷ []) z n y off = off
ends_push (r ∷ (s ∷ rs)) z n y off = ends_push (s ∷ rs) z n y off

pub writes_off : (left used places : ℕ) → false ≡ (ltb 0 left && ltb used places) → 0 < left → used < places → ⊥
writes_off left used places e pos room = false≢true (e ∙ and_from _ _ (lt-ltb 0 left pos) (lt-ltb used places room))

-- so many notes are written for the first ticks: they are longest runs, and another verdict word comes next
pub record Noted {X : Type 0} (meaning : X → Meaning) (rows : List Row) (h : List ℕ) (c : Car) (w all done : ℕ) (ms : List X) (ns : List Note) (used : ℕ) : Type 0 where
  pub written : List Run
  pub noted : take used ns ≡ map (note c) written
  pub cut : coming rows h done w ≡ expanded written
  pub longest : Longest written
  pub ends : done < all → EndsOff written (coming_first rows (h ++ replicate done w) w)
  pub means : Means meaning rows ms (h ++ replicate done w)

module _ {X : Type 0} (meaning : X → Meaning) (rows : List Row) (h : List ℕ) (c : Car) (w all : ℕ) where
  pub noted_none : (ms : List X) (ns : List Note) (done : ℕ) → done ≡ 0 → Means meaning rows ms h → Noted meaning rows h c w all done ms ns 0
  noted_none ms ns done none means =
      subst (λ k. Noted meaning rows h c w all k ms ns 0) (sym none)
      (record { written = []; noted = refl; cut = refl; longest = tt; ends = λ _. tt; means = subst (Means meaning rows ms) (sym (append-nil h)) means })

  pub noted_more : (ms ms' : List X) (ns : List Note) (used done left z n : ℕ) → used < length ns → done + left ≡ all
      → Noted meaning rows h c w all done ms ns used → Whole meaning rows w left ms ms' z n
      → (done' : ℕ) → done' ≡ done + n
      → Noted meaning rows h c w all done' ms' (set ns used (record { car = c; word = z; ticks = n })) (used + 1)
  noted_more ms ms' ns used done left z n room sum a b done' is =
      let h' = h ++ replicate done w in
      let over = b.held.over h' a.means in
      let this : Run = record { word = z; count = n } in
      let y : Note = record { car = c; word = z; ticks = n } in
      let pos = b.some in
      let le = b.within in
      let off : EndsOff a.written z = subst (EndsOff a.written) (first_of rows h' w n z pos over.alike) (a.ends (omega arith)) in
      let next : h' ++ replicate n w ≡ h ++ replicate (done + n) w = longer rows h w done n in
      subst (λ k. Noted meaning rows h c w all k ms' (set ns used y) (used + 1)) (sym is)
      (record {
        written = a.written ++ (this ∷ []);
        noted = take_more_set ns used y room ∙ ap (λ xs. xs ++ (y ∷ [])) a.noted ∙ sym (map_push (note c) a.written this);
        cut = coming_more rows h w done n ∙ ap₂ ◌++◌ a.cut over.alike ∙ sym (expanded_push a.written z n);
        longest = longest_push a.written z n a.longest off pos;
        ends = λ lt. ends_push a.written z n _ (λ same. b.ends h' a.means (omega arith) (ap (λ x. coming_first rows x w) next ∙ sym same));
        means = subst (Means meaning rows ms') next over.means;
      })

module _ {X : Type 0} (meaning : X → Meaning) (rows : List Row) (c : Car) (w all : ℕ) (ms : List X) (ns : List Note) where
  -- the runs due are written: the ticks are at their end, or the places are
  pub judged_all : (ms' : List X) (ns' : List Note) (used left done : ℕ) → length ns' ≡ length ns → used ≤ length ns → drop used ns' ≡ drop used ns → done + left ≡ all
      → false ≡ (ltb 0 left && ltb used (length ns)) → (h : List ℕ) → Noted meaning rows h c w all done ms' ns' used
      → Judged meaning rows h c w all ms ns ms' ns' (record { notes = used; ticks = done })
  judged_all ms' ns' used left done long few rest sum stop h a = record {
    written = sym (take-append-drop used ns') ∙ ap₂ ◌++◌ (a.noted ∙ ap (map (note c)) (sym is)) (rest ∙ ap (λ k. drop k ns) (sym size ∙ ap length (sym is)));
    as_many = sym size ∙ ap length (sym is);
    covers = full;
    means = subst (λ k. Means meaning rows ms' (h ++ replicate k w)) full a.means;
  }
    where
      size : length a.written ≡ used
      size = sym (length-map a.written (note c)) ∙ ap length (sym a.noted) ∙ length-take-le used ns' (omega arith)

      -- with ticks left the places are full
      full_places : done < all → used ≡ length ns
      full_places lt =
          elim (cases_lt used (length ns)) [
            | inl room ↦ absurd (writes_off left used (length ns) stop (omega arith) room)
            | inr none ↦ omega arith
          ]

      is : due rows h all w (length ns) ≡ a.written
      is =
          elim (cases_lt done all) [
            | inl lt ↦
                (let k = left - 1 in
                let h' = h ++ replicate done w in
                let split : all ≡ done + suc k = omega arith in
                let whole : coming rows h all w ≡ expanded a.written ++ (coming_first rows h' w ∷ coming rows (h' ++ (w ∷ [])) k w) =
                ap (λ m. coming rows h m w) split ∙ coming_more rows h w done (suc k) ∙ ap₂ ◌++◌ a.cut (coming_at_once rows h' w k) in
                written_full (coming rows h all w) a.written (length ns) (coming_first rows h' w) (coming rows (h' ++ (w ∷ [])) k w) whole a.longest (size ∙ full_places lt) (a.ends lt))
            | inr end ↦
                (let e : all ≡ done = omega arith in
                written_all (coming rows h all w) a.written (length ns) (ap (λ m. coming rows h m w) e ∙ a.cut) a.longest (omega (arith, size)))
          ]

      full : done ≡ covered rows h all w (length ns)
      full = sym (coming_length rows h w done) ∙ ap length a.cut ∙ length_expanded a.written ∙ ap ticks (sym is)

-- not idle: there is a tick, a place, and a memory for each timed row
pub idle_not : {X : Type 0} (rows : List Row) (n : ℕ) (ms : List X) (ns : List Note) → idle rows n ms ns ≡ false → (0 < n) × (0 < length ns) × (timed_rows rows ≤ length ms)
idle_not rows n ms ns e =
    let first = or_parts (eqb n 0) (eqb (length ns) 0 || ltb (length ms) (timed_rows rows)) e in
    let second = or_parts (eqb (length ns) 0) (ltb (length ms) (timed_rows rows)) first.1 in
    let ticks = eqb-false n 0 first.0 in
    let places = eqb-false (length ns) 0 second.0 in
    (omega arith, omega arith, ltb-false (length ms) (timed_rows rows) second.1)

pub writes_on : (left used places : ℕ) → true ≡ (ltb 0 left && ltb used places) → (0 < left) × (used < places)
writes_on left used places e =
    let parts = and_parts (ltb 0 left) (ltb used places) (sym e) in
    (ltb-true 0 left parts.0, ltb-true used places parts.1)

pub rest_more : (ns ns' : List Note) (used : ℕ) (y : Note) → drop used ns' ≡ drop used ns → drop (used + 1) (set ns' used y) ≡ drop (used + 1) ns
rest_more ns ns' used y rest = drop-set-lt (used + 1) ns' used y (omega arith) ∙ sym (drop-drop 1 used ns') ∙ ap (drop 1) rest ∙ drop-drop 1 used ns
