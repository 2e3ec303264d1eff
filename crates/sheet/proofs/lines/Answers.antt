use Rattle.std.proofs.Common.{◌∙◌, ap, vec_items, subst, IfOk, rules, of_calls}
use borrow.Author.Tests.{tests}
use Rattle.std.specs.Slice.Iter.{split_inclusive_rest}
use Rattle.sheet.specs.Pieces.{Lines}
use Rattle.sheet.proofs.Collected.{lines_collected}
use Rattle.sheet.proofs.lines.Goals as goal

pub returns : goal.returns
returns c =
    let bytes = ap split_inclusive_rest c.map.ensures.source ∙ c.split_inclusive.ensures.rest in
    let h = lines_collected _ _ (λ f a b f' k. search (rules, tests)) (λ f x p f' k. search (rules, of_calls)) c.map.result c.collect.result c.collect.ensures.ran in
    subst (λ b. IfOk c.collect.result (λ v. Lines b (vec_items v))) bytes h
