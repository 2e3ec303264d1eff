-- The test of the vacant places. Assumes nothing.
use Rattle.std.proofs.Common.{◌≡◌, ℕ, ◌&&◌, eqb, List, [], ◌∷◌, fold, sym, ap, ◌∙◌, arith, rules, bit_or}
use Rattle.std.proofs.Math.Bool.{and-true, and_assoc}
use lib.Bits.{or_add_and, and_le_l, and_le_r}
use Rattle.std.proofs.lemmas.Bool.Decides.{nat_tests}
use Rattle.clock_pairs.specs.declared.Episode.{Episode}
use Rattle.clock_pairs.specs.Episodes.{vacant}
use Rattle.clock_pairs.proofs.all_vacant.Goals as goal

abbrev joined : ℕ → Episode → ℕ
joined any e = bit_or (bit_or any e.rise) e.fall

-- numbers joined bit by bit are zero where each is
join_zero : (x y : ℕ) → eqb (bit_or x y) 0 ≡ (eqb x 0 && eqb y 0)
join_zero x y =
    let sum = or_add_and x y in
    let left = and_le_l x y in
    let right = and_le_r x y in
    grind (arith, nat_tests, sum, left, right)

folded : (any : ℕ) (es : List Episode) → eqb (fold joined any es) 0 ≡ (eqb any 0 && vacant es)
folded any [] = sym (and-true (eqb any 0))
folded any (e ∷ es) =
    folded (joined any e) es
    ∙ ap (λ t. t && vacant es) (join_zero (bit_or any e.rise) e.fall ∙ ap (λ t. t && eqb e.fall 0) (join_zero any e.rise))
    ∙ ap (λ t. t && vacant es) (and_assoc (eqb any 0) (eqb e.rise 0) (eqb e.fall 0)) ∙ and_assoc (eqb any 0) (eqb e.rise 0 && eqb e.fall 0) (vacant es)

pub returns : goal.returns
returns c =
    let all : c.fold.result ≡ fold joined 0 c.args.places.now = search rules in
    ap (λ n. eqb n 0) all ∙ folded 0 c.args.places.now
