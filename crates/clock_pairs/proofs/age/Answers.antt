-- Each episode ages in its place, unless it is dropped. Assumes nothing.
use Rattle.std.proofs.Common.{◌≡◌, ◌+◌, set, sym, ap, ◌∙◌, subst, arith}
use Rattle.clock_pairs.specs.Episodes.{episode, older}
use Rattle.clock_pairs.proofs.Ageing.{Aged, aged_start, same_here, aged_goes, aged_stays, aged_many, aged_stand}
use Rattle.clock_pairs.proofs.age.Goals as goal
use Rattle.clock_pairs.proofs.age.Goals.{then-e-b, else-e-b}

pub loop-i-init : goal.loop-i-init
loop-i-init c = aged_start c.args.b c.args.n c.args.from c.args.len c.args.places.now c.requires.0 c.requires.1

pub loop-i-preserved : goal.loop-i-preserved
loop-i-preserved c =
    let b = c.args.b in
    let n = c.args.n in
    let i = c.loop-i.i in
    let old = c.args.places.now in
    let g = c.loop-i.invariant in
    let e = c.grow-e.result in
    let is : e ≡ older b n _ = c.grow-e.ensures ∙ ap (older b n) (same_here b n c.args.from c.args.len c.loop-i.used i old c.loop-i.places g c.loop-i-test.true c.requires.1) in
    elim c.if-e-b.branch [
      | then-e-b w ↦
          subst (λ xs. Aged b n c.args.from c.args.len c.if-e-b.used (i + 1) old xs) (sym w.places-is)
          (subst (λ k. Aged b n c.args.from c.args.len k (i + 1) old (set (set c.loop-i.places i (episode 0 0)) c.loop-i.used e)) (sym w.used-is)
          (aged_stays b n c.args.from c.args.len c.loop-i.used i old c.loop-i.places g c.loop-i-test.true c.requires.1 e is w.if-e-b.true))
      | else-e-b w ↦
          subst (λ xs. Aged b n c.args.from c.args.len c.if-e-b.used (i + 1) old xs) (sym w.places-is)
          (subst (λ k. Aged b n c.args.from c.args.len k (i + 1) old (set c.loop-i.places i (episode 0 0))) (sym w.used-is)
          (aged_goes b n c.args.from c.args.len c.loop-i.used i old c.loop-i.places g c.loop-i-test.true c.requires.1 e is w.if-e-b.false))
    ]

pub returns : goal.returns
returns c =
    let end : c.loop-i.i ≡ c.args.len = omega arith in
    record {
      many = aged_many c.args.b c.args.n c.args.from c.args.len c.loop-i.used c.loop-i.i c.args.places.now c.loop-i.places c.loop-i.invariant end;
      stand = aged_stand c.args.b c.args.n c.args.from c.args.len c.loop-i.used c.loop-i.i c.args.places.now c.loop-i.places c.loop-i.invariant end;
    }
