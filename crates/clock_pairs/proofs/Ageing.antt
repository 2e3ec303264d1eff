-- Episodes that age where they stand. Assumes nothing.
use Rattle.std.proofs.Common.{◌≡◌, ℕ, zero, suc, ◌+◌, ◌-◌, ◌<◌, ◌≤◌, min, cond, ltb, List, [], ◌∷◌, ◌++◌, length, get_or, take, drop, set, replicate, sym, refl, ap, ◌∙◌, arith}
use Rattle.std.proofs.lemmas.List.{append_assoc, append-nil, drop_more, get_or_at, length-append, length_push, length-replicate, length-take-le, set_at, take-append-drop, take-take}
use Rattle.std.proofs.Math.Nat.{sub_self}
use Rattle.std.proofs.lemmas.Bool.{cond-true, cond-false, lt-ltb, le-ltb}
use Rattle.clock_pairs.specs.declared.Episode.{Episode}
use Rattle.clock_pairs.specs.Episodes.{aged, episode, lasting, older}
use Rattle.clock_pairs.proofs.Hold.{from_place, none_left}

abbrev zeros : ℕ → List Episode
zeros k = replicate k (episode 0 0)

-- The places once those before i are done: first the `used` episodes in front, then empty places, then what was there.
pub record Aged (b n from len used i : ℕ) (old places : List Episode) : Type 0 where
  pub front : List Episode
  pub size : length front ≡ used
  pub low : used ≤ i
  pub stand : places ≡ front ++ (zeros (i - used) ++ drop i old)
  pub list : front ++ lasting b n (drop i (take len old)) ≡ aged b n from (take len old)

slide : (k : ℕ) (rest : List Episode) → zeros k ++ episode 0 0 ∷ rest ≡ episode 0 0 ∷ (zeros k ++ rest)
slide zero rest = refl
slide (suc k) rest = ap (λ es. episode 0 0 ∷ es) (slide k rest)

-- before the first place is done
pub aged_start : (b n from len : ℕ) (old : List Episode) → from ≤ len → len ≤ length old → Aged b n from len from from old old
aged_start b n from len old le room =
    record {
      front = take from old;
      size = length-take-le from old (omega arith);
      low = omega arith;
      stand = sym (ap (λ k. take from old ++ (zeros k ++ drop from old)) (sub_self from) ∙ take-append-drop from old);
      list = ap (λ es. es ++ lasting b n (drop from (take len old))) (sym (take-take from len old le));
    }

module _ (b n from len used i : ℕ) (old places : List Episode) (g : Aged b n from len used i old places) (lt : i < len) (room : len ≤ length old) where
  abbrev here : Episode
  here = get_or old i (episode 0 0)

  shape : places ≡ (g.front ++ zeros (i - used)) ++ here ∷ drop (i + 1) old
  shape =
      g.stand ∙ ap (λ es. g.front ++ (zeros (i - used) ++ es)) (drop_more old i (episode 0 0) (omega arith))
      ∙ sym (append_assoc g.front (zeros (i - used)) (here ∷ drop (i + 1) old))

  place : length (g.front ++ zeros (i - used)) ≡ i
  place = omega (arith, length-append g.front (zeros (i - used)), length-replicate (i - used) (episode 0 0), g.size, g.low)

  -- the episode here is the one that was here
  pub same_here : get_or places i (episode 0 0) ≡ here
  same_here = ap (λ es. get_or es i (episode 0 0)) shape ∙ get_or_at (g.front ++ zeros (i - used)) here (drop (i + 1) old) (episode 0 0) i place

  emptied_here : set places i (episode 0 0) ≡ g.front ++ episode 0 0 ∷ (zeros (i - used) ++ drop (i + 1) old)
  emptied_here =
      ap (λ es. set es i (episode 0 0)) shape ∙ set_at (g.front ++ zeros (i - used)) here (drop (i + 1) old) (episode 0 0) i place
      ∙ append_assoc g.front (zeros (i - used)) (episode 0 0 ∷ drop (i + 1) old)
      ∙ ap (λ es. g.front ++ es) (slide (i - used) (drop (i + 1) old))

  rest_here : lasting b n (drop i (take len old)) ≡ cond (ltb (here.fall + n) b) (older b n here ∷ lasting b n (drop (i + 1) (take len old))) (lasting b n (drop (i + 1) (take len old)))
  rest_here = ap (lasting b n) (from_place len old i lt room)

  module _ (e : Episode) (is : e ≡ older b n here) where
    fell : e.fall ≡ min b (here.fall + n)
    fell = ap (λ x. x.fall) is

    pub aged_goes : b ≤ e.fall → Aged b n from len used (i + 1) old (set places i (episode 0 0))
    aged_goes gone =
        let out = fell in
        let more : suc (i - used) ≡ i + 1 - used = omega (arith, g.low) in
        record {
          front = g.front;
          size = g.size;
          low = omega (arith, g.low);
          stand = emptied_here ∙ ap (λ k. g.front ++ (zeros k ++ drop (i + 1) old)) more;
          list = ap (λ es. g.front ++ es) (sym (rest_here ∙ cond-false (ltb (here.fall + n) b) (older b n here ∷ lasting b n (drop (i + 1) (take len old))) (lasting b n (drop (i + 1) (take len old))) (le-ltb _ _ (omega arith)))) ∙ g.list;
        }

    pub aged_stays : e.fall < b → Aged b n from len (used + 1) (i + 1) old (set (set places i (episode 0 0)) used e)
    aged_stays young =
        let out = fell in
        let more : i - used ≡ i + 1 - (used + 1) = omega arith in
        let after = lasting b n (drop (i + 1) (take len old)) in
        record {
          front = g.front ++ e ∷ [];
          size = omega (arith, length_push g.front e, g.size);
          low = omega (arith, g.low);
          stand = ap (λ es. set es used e) emptied_here ∙ set_at g.front (episode 0 0) (zeros (i - used) ++ drop (i + 1) old) e used g.size
              ∙ sym (append_assoc g.front (e ∷ []) (zeros (i - used) ++ drop (i + 1) old)) ∙ ap (λ k. (g.front ++ e ∷ []) ++ (zeros k ++ drop (i + 1) old)) more;
          list = append_assoc g.front (e ∷ []) after
              ∙ ap (λ es. g.front ++ es) (ap (λ x. x ∷ after) is ∙ sym (rest_here ∙ cond-true (ltb (here.fall + n) b) (older b n here ∷ after) after (lt-ltb _ _ (omega arith)))) ∙ g.list;
        }

-- once all places are done
module _ (b n from len used i : ℕ) (old places : List Episode) (g : Aged b n from len used i old places) (end : i ≡ len) where
  front_is : g.front ≡ aged b n from (take len old)
  front_is = sym (append-nil g.front) ∙ ap (λ es. g.front ++ es) (sym (ap (lasting b n) (none_left len old i (omega arith)))) ∙ g.list

  pub aged_many : used ≡ length (aged b n from (take len old))
  aged_many = sym g.size ∙ ap length front_is

  pub aged_stand : places ≡ aged b n from (take len old) ++ (zeros (len - used) ++ drop len old)
  aged_stand = g.stand ∙ ap (λ k. g.front ++ (zeros (k - used) ++ drop k old)) end ∙ ap (λ es. es ++ (zeros (len - used) ++ drop len old)) front_is
