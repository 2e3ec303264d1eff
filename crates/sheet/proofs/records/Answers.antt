use Rattle.std.proofs.Common.{◌∙◌, ap, vec_items, subst, IfOk}
use Rattle.std.specs.Slice.Iter.{chunks_rest, chunks_size}
use Rattle.sheet.specs.Pieces.{Records}
use Rattle.sheet.proofs.Collected.{records_collected}
use Rattle.sheet.proofs.records.Goals as goal

pub returns : goal.returns
returns c =
    let bytes = ap chunks_rest c.map.ensures.source ∙ c.chunks.ensures.rest in
    let size = ap chunks_size c.map.ensures.source ∙ c.chunks.ensures.size in
    subst (λ b. IfOk c.collect.result (λ v. Records b (vec_items v))) bytes (records_collected _ (λ f x p f' k. k.met) c.map.result c.collect.result size c.collect.ensures.ran)
