-- The verdict lasts until it first is another, and for ever where that is not up to tick b. Assumes nothing.
use Rattle.std.proofs.Common.{◌≡◌, ℕ, zero, suc, ◌+◌, ◌≤◌, ◌<◌, Bool, not, Option, Some, None, MatchOption, sym, subst, ◌∙◌, ⊎_elim, arith, rules, tests}
use Rattle.std.proofs.lemmas.Bool.{cases_lt}
use Rattle.std.proofs.lemmas.Iterator.{first_from_Range}
use Rattle.mitl.specs.Memory.{Meaning, Lasts, ahead}
use Rattle.bit_marks.specs.Marks.{meaning_of}
use Rattle.bit_marks.specs.Means.{past_ahead, when_sound, parts}
use Rattle.bit_marks.proofs.content.Settled.forecast.Goals as goal

before : {f : ℕ → Bool} {next : Bool} {n : ℕ} → f 0 ≡ next → ((d : ℕ) → 1 ≤ d → d < n → f d ≡ next) → (d : ℕ) → d < n → f d ≡ next
before first more zero l = first
before first more (suc d) l = more (suc d) (omega arith) l

-- what stays as it is from b on either changes first at a number up to b or never
lasts : (f : ℕ → Bool) (next v : Bool) (b : ℕ) → 0 < b → f 0 ≡ next → ((d : ℕ) → b ≤ d → f d ≡ v) → (r : Option ℕ)
    → MatchOption r ((d : ℕ) → 1 ≤ d → d < b + 1 → f d ≡ next) (λ n. (1 ≤ n) × (n < b + 1) × (f n ≡ not next) × ((d : ℕ) → 1 ≤ d → d < n → f d ≡ next)) → Lasts f next r
lasts f next v b some first past None same = λ d.
    ⊎_elim (before first same d) (λ (l : b + 1 ≤ d). past d (omega arith) ∙ sym (past b (omega arith)) ∙ same b (omega arith) (omega arith)) (cases_lt d (b + 1))
lasts f next v b some first past (Some n) found = (found.0, before first found.3, found.2)

pub returns-clause-lasts : goal.returns-clause-lasts
returns-clause-lasts c =
    let m = c.args.self.now.content in
    let made = c.args.self.now.made in
    let v = c.args.operand in
    let next = c.verdict-next.result in
    let f : ℕ → Bool = λ d. ahead (meaning_of m).a v (meaning_of m).mark d in
    let found = first_from_Range (record { start = 1; end = m.b + 1 }) _ _ c.find-change.result (λ d. f d ≡ not next) (λ d. f d ≡ next) c.find-change.ensures.ran
    (λ x q k. search (rules, tests)) (λ x q k. search (rules, tests)) in
    let past : (d : ℕ) → m.b ≤ d → f d ≡ v = λ d h. subst (λ (t : Meaning). ahead t.a v t.mark d ≡ v) (sym (when_sound m made)) (past_ahead m made v d h) in
    lasts f next v m.b (omega (arith, (parts m made).order)) (sym c.verdict-next.ensures) past c.find-change.result found
