-- What is true after any list of calls, from the contract of each. Assumes nothing.
use Rattle.std.proofs.Common.{◌≡◌, ℕ, ◌/◌, ◌<◌, ◌≤◌, Bool, true, false, cond, ◌↔◌, List, [], ◌∷◌, ◌++◌, length, get_or, replicate, is_some, Some, None, Option, sym, refl, ap, ◌∙◌, subst, ap₂, mul_comm, div-lt_iff_lt-mul, arith}
use Rattle.std.proofs.lemmas.List.{append-nil}
use Rattle.std.proofs.lemmas.Bool.{false≢true, not_from_true, cond-false, cond_both}
use Rattle.std.proofs.lemmas.List.FromFn.{length-map-range_with_len, get_or-map-range_with_len}
use Rattle.mitl.specs.declared.Row.{Row}
use Rattle.mitl.specs.Blocks.{row_looked}
use Rattle.mitl.specs.Memory.{stretches, most_stretches_lem}
use Rattle.mitl.specs.Outlook.{outlook, to}
use Rattle.mitl.specs.Rows.{row_at, is_timed, Chained, formula_at, formulas, verdict}
use Rattle.mitl.proofs.Marks.{row_window}
use Rattle.mitl.proofs.Stretches.{bounded}
use Rattle.mitl.specs.Runs.{expanded, ticks}
use Rattle.mitl.proofs.Rows.{verdict_parts}
use Rattle.refusal.specs.declared.Refusal.{Refusal}
use Rattle.refusal.specs.Faults.{refusal, fault, first_fault, SomeHeld}
use Rattle.refusal.proofs.Held.{one_held}
use Rattle.record.specs.declared.Car.{Car}
use Rattle.record.specs.declared.Note.{Note}
use Rattle.record.specs.declared.Record.{Record}
use Rattle.record.specs.Layout.{is_R, is_I, is_E, fields_at}
use Rattle.record.specs.Cars.{same_car}
use Rattle.cars.specs.Cars.{listed}
use Rattle.table.specs.Chain.{rows_in, numbers_in, on_chain, row_in, chain_length}
use Rattle.plan.specs.Places.{place_among_lem}
use Rattle.plan.proofs.Found.{found_place}
use Rattle.engine.specs.Due.{due}
use Rattle.book.specs.Book.{Book, empty, rows_of_book, noted, due_runs, due_notes, restarted, finished, judged, entered}
use Rattle.book.specs.Calls.{Call, set, feed, query, Answer, refused, Event, shows, shown_at, if_timed, timed_in, timed_place, no_place, faults_of_call, call_refusal, accepted_answer, accepted_notes, Answered, Right, after_call, after_unless, next}
use Rattle.book.specs.Runs.{after, Told, IsRefused, RefusedWhen, Trace}
use Rattle.book.specs.Promise.{VerdictsRight, asked, ShowsOutlooks, FewStretches, AfterAnyList, KindsAgree}
use Rattle.book.proofs.Spoken.{spoken, spoken_more, noted_is, cond_map}

-- every written verdict is past MITL's
abbrev pub Sound : Book → Type 0
Sound k = (c : Car) → k.written c ≡ spoken (rows_of_book k) (k.history c)

pub sound_empty : Sound empty
sound_empty c = refl

-- what the runs that are due add
spoken_due : (rows : List Row) (h : List ℕ) (b : Bool) (n w places : ℕ)
    → spoken rows h ++ expanded (cond b (due rows h n w places) []) ≡ spoken rows (h ++ replicate (ticks (cond b (due rows h n w places) [])) w)
spoken_due rows h true n w places = spoken_more rows h n w places
spoken_due rows h false n w places = append-nil (spoken rows h) ∙ ap (spoken rows) (sym (append-nil h))

module _ (k : Book) (sound : Sound k) (r : Record) (places : ℕ) (notes : List Note) (is : notes ≡ due_notes k r places) where
  sound_judged : Sound (judged k r places notes)
  sound_judged d =
      ap (λ ns. noted k.written ns d) is
      ∙ noted_is r.car (due_runs k r places) k.written d
      ∙ cond_map (spoken (rows_of_book k)) (same_car d r.car)
      (ap (λ x. x ++ expanded (due_runs k r places)) (sound r.car) ∙ spoken_due (rows_of_book k) (k.history r.car) (is_I r.letter) r.ticks r.word places)
      (sound d)

  sound_restarted : Sound (restarted k r.car)
  sound_restarted d = cond_map (spoken (rows_of_book k)) (same_car d r.car) refl (sound d)

  sound_entered : Sound (entered k r places notes)
  sound_entered = pick (is_R r.letter) (is_E r.letter)
    where
      pick : (a b : Bool) → Sound (cond a (restarted k r.car) (cond b (finished k r.car) (judged k r places notes)))
      pick true b = sound_restarted
      pick false true = sound
      pick false false = sound_judged

module _ (admitted : ℕ → ℕ → Bool) (room : ℕ) where
  sound_call : (k : Book) (x : Call) (notes : List Note) → notes ≡ accepted_notes admitted room k x → Sound k → Sound (after_call admitted room k x notes)
  sound_call k (set t cs) notes is sound = λ c. refl
  sound_call k (feed bytes places) notes is sound = sound_entered k sound (fields_at bytes) places notes is
  sound_call k (query c row d) notes is sound = sound

  sound_unless : (k : Book) (x : Call) (notes : List Note) (answer : Answer) (o : Option Refusal) → Answered admitted room k x notes answer o → Sound k → Sound (after_unless admitted room k x notes o)
  sound_unless k x notes answer None right sound = sound_call k x notes right.0 sound
  sound_unless k x notes answer (Some r) right sound = sound

  pub sound_next : (k : Book) (e : Event) → Right admitted room k e → Sound k → Sound (next admitted room k e)
  sound_next k e right sound = sound_unless k e.call e.notes e.answer (call_refusal admitted room k e.call) right sound

  -- a refusal and no other answer is one
  accepted_no : (k : Book) (x : Call) (r : Refusal) → accepted_answer admitted room k x ≡ refused r → ⊥
  accepted_no k (set t cs) r e = cc
  accepted_no k (feed bytes places) r e = cc
  accepted_no k (query c row d) r e = shown_no k c d (timed_place k row) r e
    where
      shown_no : (k : Book) (c : Car) (d : ℕ) (p : Option ℕ) (r : Refusal) → shown_at k c d p ≡ refused r → ⊥
      shown_no k c d None r e = cc
      shown_no k c d (Some p) r e = cc

  refused_some : (k : Book) (x : Call) (notes : List Note) (answer : Answer) (o : Option Refusal) → Answered admitted room k x notes answer o
      → ((r : Refusal) × (answer ≡ refused r)) ↔ (is_some o ≡ true)
  refused_some k x notes answer None right = (λ f. absurd (accepted_no k x f.0 (sym right.1 ∙ f.1)), λ e. absurd (false≢true e))
  refused_some k x notes answer (Some r) right = (λ _. refl, λ _. (r, right.1))

  refused_held : (k : Book) (e : Event) → Right admitted room k e → IsRefused admitted room e ↔ SomeHeld (faults_of_call admitted room k e.call)
  unfolding call_refusal
  refused_held k e right =
      let a = refused_some k e.call e.notes e.answer (call_refusal admitted room k e.call) right in
      let b = one_held (faults_of_call admitted room k e.call) in
      (λ x. b.0 (a.0 x), λ y. a.1 (b.1 y))

  pub refused_when : (k : Book) (es : List Event) → Told admitted room k es → RefusedWhen admitted room k es
  refused_when k [] told = tt
  refused_when k (e ∷ es) told = (refused_held k e told.0, refused_when (next admitted room k e) es told.1)

  pub sound_after : (k : Book) (es : List Event) → Told admitted room k es → Sound k → Sound (after admitted room k es)
  sound_after k [] told sound = sound
  sound_after k (e ∷ es) told sound = sound_after (next admitted room k e) es told.1 (sound_next k e told.0 sound)

  module _ {W : Type 0} (Keeps : W → Book → Type 0) where
    -- along a run the watch keeps the book, and every call was answered by it
    pub kept : (es : List Event) (w w' : W) (k : Book) → Keeps w k → Trace admitted room Keeps w es w' → Keeps w' (after admitted room k es) × Told admitted room k es
    kept [] w w' k keeps t = (subst (λ v. Keeps v k) t keeps, tt)
    kept (e ∷ es) w w'' k keeps t =
        let done = t.1 k keeps in
        let rest = kept es t.0 w'' (next admitted room k e) done.1 t.2 in
        (rest.0, (done.0, rest.1))

pub verdicts_right : (k : Book) (c : Car) → Sound k → VerdictsRight k c
verdicts_right k c sound = record {
  one_each = ap length (sound c) ∙ length-map-range_with_len (verdict (rows_of_book k) (k.history c)) 0 (length (k.history c));
  every_part = λ q p pos lt.
      let within : p / q < length (k.history c) = (div-lt_iff_lt-mul pos).1 (rw (mul_comm (length (k.history c)) q) lt) in
      verdict_parts q pos (rows_of_book k) (k.history c) p
      ∙ sym (get_or-map-range_with_len (verdict (rows_of_book k) (k.history c)) 0 (length (k.history c)) (p / q) (p / q) 0 within (omega arith))
      ∙ ap (λ x. get_or x (p / q) 0) (sym (sound c));
}

-- the answer to a Query for a listed car, by the table and the history alone
abbrev reply : List ℕ → List ℕ → ℕ → ℕ → Option ℕ → Answer
reply t h row d None = refused (refusal 20 row)
reply t h row d (Some p) = shows (row_looked (rows_in t) p h) d

module _ (admitted : ℕ → ℕ → Bool) (room : ℕ) (k : Book) (c : Car) (row d : ℕ) (x : Answer) where
  by_place : (o : Option ℕ) → Answered admitted room k (query c row d) [] x (first_fault (fault (no_place o) 20 row ∷ [])) → timed_place k row ≡ o → x ≡ reply k.table (k.history c) row d o
  by_place None right is = right.1
  by_place (Some p) right is = right.1 ∙ ap (shown_at k c d) is

  pub asked_reply : listed k.cars c ≡ true → Right admitted room k (asked c row d x) → x ≡ reply k.table (k.history c) row d (timed_place k row)
  unfolding call_refusal
  asked_reply in_List right =
      let first : call_refusal admitted room k (query c row d) ≡ first_fault (fault (no_place (timed_place k row)) 20 row ∷ []) =
      cond-false _ _ _ (not_from_true (listed k.cars c) in_List) in
      by_place (timed_place k row) (subst (Answered admitted room k (query c row d) [] x) first right) refl

-- a timed row stands on the chain
pub timed_on : (t : List ℕ) (row p : ℕ) → timed_in t row ≡ Some p → (p < length (rows_in t)) × (is_timed (row_at (rows_in t) p) ≡ true)
timed_on t row p e = found (place_among_lem (numbers_in t) row) refl e
  where
    long : length (numbers_in t) ≡ length (rows_in t)
    long = length-map-range_with_len (on_chain t) 0 (chain_length t) ∙ sym (length-map-range_with_len (row_in t) 0 (chain_length t))

    found : (o : Option ℕ) → place_among_lem (numbers_in t) row ≡ o → if_timed t o ≡ Some p → (p < length (rows_in t)) × (is_timed (row_at (rows_in t) p) ≡ true)
    found None at is = cc
    found (Some q) at is =
        cond_both (is_timed (row_at (rows_in t) q)) _ _ (λ o. o ≡ Some p → (p < length (rows_in t)) × (is_timed (row_at (rows_in t) p) ≡ true))
        (λ on e.
        let same : q ≡ p = cc in
        (omega (arith, (found_place (numbers_in t) row q at).0, long), subst (λ i. is_timed (row_at (rows_in t) i) ≡ true) same on))
        (λ _ e. cc) is

module _ {W : Type 0} (admitted : ℕ → ℕ → Bool) (room : ℕ) (Keeps : W → Book → Type 0)
    (chained : (w : W) (k : Book) → Keeps w k → (c : Car) → listed k.cars c ≡ true → Chained (rows_of_book k)) where
  shows_outlooks : (w : W) (k : Book) → Keeps w k → ShowsOutlooks admitted room Keeps w k
  shows_outlooks w k keeps c in_List row p d place x w' step =
      asked_reply admitted room k c row d x in_List (step k keeps).0 ∙ ap (reply k.table (k.history c) row d) place

  few_stretches : (w : W) (k : Book) → Keeps w k → FewStretches admitted room Keeps k
  few_stretches w k keeps c in_List row p place =
      let on = timed_on k.table row p place in
      let window = row_window (rows_of_book k) (chained w k keeps c in_List) p on.0 on.1 in
      let f = formula_at (formulas (rows_of_book k)) p in
      subst (λ n. stretches (outlook f (k.history c)) (to f) ≤ n) (ap₂ most_stretches_lem window.0 window.1) (bounded f (k.history c))

  pub after_any_list : AfterAnyList admitted room Keeps
  after_any_list w₀ w es fresh t =
      let k = after admitted room empty es in
      let done = kept admitted room Keeps es w₀ w empty fresh t in
      let sound = sound_after admitted room empty es done.1 sound_empty in
      record {
        verdicts_right = λ c _. verdicts_right k c sound;
        answered_by_the_book = done.1;
        refused_exactly_when = refused_when admitted room empty es done.1;
        query_shows_the_outlook = shows_outlooks w k done.0;
        few_stretches = few_stretches w k done.0;
      }

module _ {W V : Type 0} (admitted : ℕ → ℕ → Bool) (room : ℕ) (KeepsW : W → Book → Type 0) (admitted' : ℕ → ℕ → Bool) (room' : ℕ) (KeepsV : V → Book → Type 0) where
  pub kinds_agree : KindsAgree admitted room KeepsW admitted' room' KeepsV
  kinds_agree w₀ w es fresh t v₀ v fs fresh' t' c d in-k in-l tables histories =
      let k = after admitted room empty es in
      let l = after admitted' room' empty fs in
      let done = kept admitted room KeepsW es w₀ w empty fresh t in
      let done' = kept admitted' room' KeepsV fs v₀ v empty fresh' t' in
      let sound = sound_after admitted room empty es done.1 sound_empty in
      let sound' = sound_after admitted' room' empty fs done'.1 sound_empty in
      record {
        verdicts = sound c ∙ ap₂ (λ t h. spoken (rows_in t) h) tables histories ∙ sym (sound' d);
        queries = λ row at x y w' v' first second.
            asked_reply admitted room k c row at x in-k (first k done.0).0
            ∙ ap₂ (λ t h. reply t h row at (timed_in t row)) tables histories
            ∙ sym (asked_reply admitted' room' l d row at y in-l (second l done'.0).0);
      }
