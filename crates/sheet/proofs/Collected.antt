-- The pieces that an iterator gave, collected. Assumes nothing.
use Rattle.std.proofs.Common.{◌≡◌, ℕ, ◌+◌, ◌<◌, ◌≤◌, min, eqb, Bool, List, Some, None, Ok, Err, Option, Result, IfOk, Vec, Bor, MatchOption, vec_items, [], ◌∷◌, ◌++◌, length, get_or, take, drop, sym, ap, ◌∙◌, subst, inl, inr, ⊎_elim, arith, length-append}
use Rattle.std.specs.List.{IsFirstMatchOrLen}
use Rattle.std.specs.Iterator.{Yields}
use Rattle.std.specs.Iterator.Adapters.{map_source}
use Rattle.std.specs.Slice.Iter.{chunks_rest, chunks_size, chunks_steps, split_inclusive_rest, split_inclusive_callee}
use Rattle.std.specs.Fn.{Called, ComputesKey}
use denote.Param.Members.{Mut}
use Rattle.std.specs.declared.iter.Map.{Map}
use Rattle.std.specs.declared.slice.Chunks.{Chunks}
use Rattle.std.specs.declared.slice.SplitInclusive.{SplitInclusive}
use Rattle.std.proofs.lemmas.Fn.{answers_by}
use Rattle.std.proofs.lemmas.Result.{IfOk-weaker}
use Rattle.std.proofs.lemmas.Iterator.{IsCollectResult, maps}
use Rattle.std.proofs.lemmas.List.{append-nil, append_assoc, take_all, drop_all, take_at, drop_at, take_more, get_or_append_left, nil_from_length}
use Rattle.std.proofs.lemmas.Bool.{cases_lt, eqb-true, eqb-false}
use Rattle.sheet.specs.Pieces.{FirstLine, Found, Unended, RecordPiece, Records, LinePiece, Lines}

-- what an iterator gave to its end, where R holds of each state and what comes from there
module _ {S A : Type 0} (steps : S → Option A → S → Type 0) (R : S → List A → Type 0) (none : (s u : S) → steps s None u → R s []) (some : (s t : S) (x : A) (xs : List A) → steps s (Some x) t → R t xs → R s (x ∷ xs)) where
  drained : (s t u : S) (xs : List A) → Yields steps s xs t → steps t None u → R s xs
  drained s t u [] y e = subst (λ r. R r []) (sym y) (none t u e)
  drained s t u (x ∷ xs) (j, step, y) e = some s j x xs step (drained j t u xs y e)

  pub collected : {Z E : Type 0} (s : S) (r : Result (Vec A Z) E) → IsCollectResult steps s r → IfOk r (λ v. R s (vec_items v))
  collected s (Ok v) (xs, (t, y, e), read) = let end = e tt in subst (R s) (sym read.0) (drained s t end.0 xs y end.1)
  collected s (Err e) h = tt

-- a line with its end, cut off the front of a text
module _ (rest x after : List ℕ) (i : ℕ) (front : rest ≡ x ++ after) (long : length x ≡ min (i + 1) (length rest)) (found : IsFirstMatchOrLen (λ b. eqb b 10) rest i) where
  at : (k : ℕ) → k < length x → get_or rest k 0 ≡ get_or x k 0
  at k l = ap (λ s. get_or s k 0) front ∙ get_or_append_left x after 0 k l

  broken : (k : ℕ) → k < i → get_or rest k 0 ≡ 10 → ⊥
  broken k l e = eqb-false _ _ (found.0 k 0 (omega arith) l) e

  lengths : length rest ≡ length x + length after
  lengths = ap length front ∙ length-append x after

  pub first_cut : (text : List ℕ) → Unended x text → FirstLine rest text after
  first_cut text (inl e) = record {
    unbroken = λ k l b. broken k (omega (arith, ap length e ∙ length-append text (10 ∷ []))) (at k (omega (arith, ap length e ∙ length-append text (10 ∷ []))) ∙ ap (λ s. get_or s k 0) e ∙ get_or_append_left text (10 ∷ []) 0 k l ∙ b);
    cut = inl (front ∙ ap (λ s. s ++ after) e ∙ append_assoc text (10 ∷ []) after);
  }
  first_cut text (inr (e, none)) = ⊎_elim ended whole (cases_lt i (length rest))
    where
      ended : i < length rest → FirstLine rest text after
      ended l = absurd (none (take i x) (sym (take_all (i + 1) x (omega arith)) ∙ take_more x i 0 (omega arith) ∙ ap (λ b. take i x ++ (b ∷ [])) (sym (at i (omega arith)) ∙ eqb-true _ _ (found.1 l 0))))

      whole : length rest ≤ i → FirstLine rest text after
      whole le = let nil = nil_from_length after (omega (arith, lengths)) in
          record {
            unbroken = λ k l b. broken k (omega (arith, ap length e)) (at k (omega (arith, ap length e)) ∙ ap (λ s. get_or s k 0) e ∙ b);
            cut = inr (front ∙ ap (λ s. x ++ s) nil ∙ append-nil x ∙ e, nil);
          }

-- twelve bytes, or what is left, cut off the front of a list
module _ (rest x after : List ℕ) (front : rest ≡ x ++ after) (long : length x ≡ min 12 (length rest)) where
  pub first_twelve : (x ≡ take 12 rest) × (after ≡ drop 12 rest)
  first_twelve = ⊎_elim short full (cases_lt (length rest) 12)
    where
      lengths : length rest ≡ length x + length after
      lengths = ap length front ∙ length-append x after

      short : length rest < 12 → (x ≡ take 12 rest) × (after ≡ drop 12 rest)
      short l = let nil = nil_from_length after (omega (arith, lengths)) in
          (sym (take_all 12 rest (omega arith) ∙ front ∙ ap (λ s. x ++ s) nil ∙ append-nil x), nil ∙ sym (drop_all 12 rest (omega arith)))

      full : 12 ≤ length rest → (x ≡ take 12 rest) × (after ≡ drop 12 rest)
      full le = (sym (ap (take 12) front ∙ take_at x after 12 (omega arith)), sym (ap (drop 12) front ∙ drop_at x after 12 (omega arith)))

module _ {F : Type 0} (g : Mut F (Bor (List ℕ) × Unit {0}) Found) where
  module _ (tells : (f : F) (x : Bor (List ℕ)) (p : Found) (f' : F) → Called g f (x, tt) p f' → RecordPiece x.now p) where
    abbrev Recorded : Map (Chunks ℕ) F → List Found → Type 0
    Recorded s ps = chunks_size (map_source s) ≡ 12 → Records (chunks_rest (map_source s)) ps

    one_record : (s t : Map (Chunks ℕ) F) (p : Found) (ps : List Found) → maps chunks_steps g s (Some p) t → Recorded t ps → Recorded s (p ∷ ps)
    one_record s t p ps (x, step, call) more size =
        let twelve = first_twelve (chunks_rest (map_source s)) x.now (chunks_rest (map_source t)) step.1.0 (omega arith) in
        (step.1.2, subst (λ b. RecordPiece b p) twelve.0 (tells _ x p _ call), subst (λ b. Records b ps) twelve.1 (more (step.0 ∙ size)))

    pub records_collected : {Z E : Type 0} (s : Map (Chunks ℕ) F) (r : Result (Vec Found Z) E) → chunks_size (map_source s) ≡ 12 → IsCollectResult (maps chunks_steps g) s r → IfOk r (λ v. Records (chunks_rest (map_source s)) (vec_items v))
    records_collected s r size ran = IfOk-weaker r (λ v. Recorded s (vec_items v)) _ (λ v h. h size) (collected (maps chunks_steps g) Recorded (λ s u e size. nil_from_length _ e.0.1.0) one_record s r ran)

  module _ {P : Type 0} (h : Mut P (Bor ℕ × Unit {0}) Bool) (ends : (f : P) (a : Bor ℕ × Unit {0}) (b : Bool) (f' : P) → Called h f a b f' → b ≡ eqb a.0.now 10) (tells : (f : F) (x : Bor (List ℕ)) (p : Found) (f' : F) → Called g f (x, tt) p f' → (text : List ℕ) × Unended x.now text × LinePiece text p) where
    abbrev cuts : SplitInclusive ℕ P → Option (Bor (List ℕ)) → SplitInclusive ℕ P → Type 0
    cuts s r t =
        MatchOption r ((length (split_inclusive_rest s) ≡ 0) × (t ≡ s))
        (λ x. (split_inclusive_rest s ≡ x.now ++ split_inclusive_rest t) × ((i : ℕ) × (length x.now ≡ min (i + 1) (length (split_inclusive_rest s))) × ((p : ℕ → Bool) → ComputesKey h p (split_inclusive_callee s) → ComputesKey h p (split_inclusive_callee t) × IsFirstMatchOrLen p (split_inclusive_rest s) i)) × (0 < length (split_inclusive_rest s)))

    abbrev Lined : Map (SplitInclusive ℕ P) F → List Found → Type 0
    Lined s ps = Lines (split_inclusive_rest (map_source s)) ps

    one_line : (s t : Map (SplitInclusive ℕ P) F) (p : Found) (ps : List Found) → maps cuts g s (Some p) t → Lined t ps → Lined s (p ∷ ps)
    one_line s t p ps (x, step, call) more =
        let found = (step.1.2 (λ b. eqb b 10) (answers_by h (λ a b. b ≡ eqb a.0.now 10) (λ _. Unit {0}) (λ f a b f' k _. (ends f a b f' k, tt)) _ tt)).1 in
        let piece = tells _ x p _ call in
        let cut = first_cut (split_inclusive_rest (map_source s)) x.now (split_inclusive_rest (map_source t)) step.1.0 step.0 step.1.1 found piece.0 piece.1 in
        (step.2, (piece.0, split_inclusive_rest (map_source t), cut, piece.2, more))

    pub lines_collected : {Z E : Type 0} (s : Map (SplitInclusive ℕ P) F) (r : Result (Vec Found Z) E) → IsCollectResult (maps cuts g) s r → IfOk r (λ v. Lines (split_inclusive_rest (map_source s)) (vec_items v))
    lines_collected s r ran = collected (maps cuts g) Lined (λ s u e. nil_from_length _ e.0.0) one_line s r ran
