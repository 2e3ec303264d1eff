-- The search for an episode that reaches a tick. Assumes nothing.
use Rattle.std.proofs.Common.{◌||◌, refl, ◌∙◌, rules, tests}
use Rattle.std.specs.List.{list_any}
use Rattle.std.proofs.lemmas.Iterator.{YieldsList-from_slice}
use Rattle.std.proofs.lemmas.Iterator.Search.{any_from_yields_List}
use Rattle.std.proofs.lemmas.List.Recursion.{same_from_clauses}
use Rattle.clock_pairs.specs.Episodes.{covers, reached}
use Rattle.clock_pairs.proofs.Settled.marks.Goals as goal

pub returns : goal.returns
returns c =
    let m = c.args.self.now in
    let w = m.window in
    any_from_yields_List (λ e. covers w.a w.b e c.args.d) _ _ _ c.any.ensures.ran (YieldsList-from_slice m.episodes.now cc) (λ x b q k. search (rules, tests))
    ∙ same_from_clauses (list_any (λ e. covers w.a w.b e c.args.d)) (λ es. reached w.a w.b es c.args.d) (λ e t. covers w.a w.b e c.args.d || t) refl (λ _ _. refl) (λ _ _. refl) m.episodes.now
