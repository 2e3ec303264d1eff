-- The notes that pieces tell of, one piece more. Assumes nothing.
use Rattle.std.proofs.Common.{◌≡◌, ℕ, ◌+◌, ◌<◌, List, [], ◌∷◌, ◌++◌, length, get_or, take, Option, sym, ap, ◌∙◌}
use Rattle.std.specs.List.{cons_option}
use Rattle.std.proofs.lemmas.List.{take_more}
use Rattle.std.proofs.lemmas.List.Elements.{filter_map-append}
use Rattle.record.specs.declared.Note.{Note}
use Rattle.sheet.specs.Pieces.{Found, piece_note, all_notes}

pub notes_more : (ps : List Found) (i : ℕ) (d : Found) → i < length ps → (xs ys : List Note) (r : Option Note) → xs ≡ all_notes (take i ps) → r ≡ piece_note (get_or ps i d) → ys ≡ xs ++ cons_option r [] → ys ≡ all_notes (take (i + 1) ps)
notes_more ps i d l xs ys r e told f =
    f ∙ ap (λ zs. zs ++ cons_option r []) e ∙ ap (λ q. all_notes (take i ps) ++ cons_option q []) told ∙ sym (ap all_notes (take_more ps i d l) ∙ filter_map-append piece_note (take i ps) (get_or ps i d ∷ []))
