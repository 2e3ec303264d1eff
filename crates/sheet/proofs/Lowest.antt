-- The lowest car above a number. Assumes nothing.
use Rattle.std.proofs.Common.{◌≡◌, ℕ, ◌<◌, ◌≤◌, min, Bool, true, false, cond, ltb, ◌⊎◌, List, [], ◌∷◌, map, filter, fold, Some, None, Option, MatchOption, ap, sym, refl, subst, inl, inr, ⊎_elim, arith, ltb-true, ltb-false}
use Rattle.std.specs.Fn.{Called}
use Rattle.std.specs.Iterator.{Drains, ReducesItems}
use Rattle.std.specs.List.{All, Contains, FoldsTo, reduce}
use denote.Param.Members.{Mut}
use Rattle.std.proofs.lemmas.Bool.{cases_lt}
use Rattle.std.proofs.lemmas.Iterator.{YieldsList}
use Rattle.std.proofs.lemmas.Iterator.Consumers.{reduce_from_yields_List}
use Rattle.std.proofs.lemmas.List.Elements.{All-nil, All-cons, Contains-get_or, Contains-append_right}
use Rattle.record.specs.declared.Car.{Car}
use Rattle.record.specs.declared.Note.{Note}
use Rattle.sheet.specs.Rows.{Next}

-- one of two cars, which is not above the other
abbrev Picks : Car → Car → Car → Type 0
Picks p z c = ((c ≡ p) × (p.number ≤ z.number)) ⊎ ((c ≡ z) × (z.number ≤ p.number))

abbrev car_of : ℕ → Car
car_of k = record { number = k }

-- of two cars the lower
abbrev pub lower_of : Car → Car → Car
lower_of p z = car_of (min p.number z.number)

pub picked : (p z : Car) → Picks p z (lower_of p z)
picked p z =
    ⊎_elim (λ (l : p.number < z.number). let e : min p.number z.number ≡ p.number = omega arith in inl (ap car_of e, omega arith))
    (λ (l : z.number ≤ p.number). let e : min p.number z.number ≡ z.number = omega arith in inr (ap car_of e, omega arith))
    (cases_lt p.number z.number)

-- what a call that gives the lower of two cars makes of a list
module _ {F : Type 0} (g : Mut F (Car × (Car × Unit {0})) Car) (lowers : (f : F) (p z c : Car) (f' : F) → Called g f (p, (z, tt)) c f' → c.number ≡ min p.number z.number) where
  folded : (f f' : F) (x y : Car) (xs : List Car) → FoldsTo {P = F × Car} (λ p z q. Called g p.0 (p.1, (z, tt)) q.1 q.0) (f, x) xs (f', y) → FoldsTo (λ p z c. c ≡ lower_of p z) x xs y
  folded f f' x y [] e = ap (λ p. p.1) e
  folded f f' x y (z ∷ xs) (j, turn, more) = (j.1, ap car_of (lowers f x z j.1 j.0 turn), folded j.0 f' j.1 y xs more)

  module _ {S : Type 0} (steps : S → Option Car → S → Type 0) (s : S) (f : F) where
    turns : (r : Option Car) → ReducesItems steps g s f r → MatchOption r (Drains steps s []) (λ y. (x : Car) × (xs : List Car) × Drains steps s (x ∷ xs) × FoldsTo (λ p z c. c ≡ lower_of p z) x xs y)
    turns None none = none
    turns (Some y) (x, xs, f', drained, ran) = (x, xs, drained, folded f f' x y xs ran)

    pub lower_reduced : {all : List Car} (r : Option Car) → ReducesItems steps g s f r → YieldsList steps (λ x. x) s all → r ≡ reduce lower_of all
    lower_reduced r ran given = reduce_from_yields_List lower_of s r (turns r ran) given

abbrev cars : List Note → List Car
cars ns = map (λ m. m.car) ns

here : (c d : Car) (cs : List Car) → c ≡ d → Contains (d ∷ cs) c
here c d cs e = subst (Contains (d ∷ cs)) (sym e) (Contains-get_or (d ∷ cs) 0 d (omega arith))

there : (c d : Car) (cs : List Car) → Contains cs c → Contains (d ∷ cs) c
there c d cs h = Contains-append_right (d ∷ []) cs c h

module _ (n : ℕ) where
  -- a note's car above n is not lower
  abbrev Over : Car → Note → Type 0
  Over c m = n < m.car.number → c.number ≤ m.car.number

  -- of a car and the cars of notes above n the lowest
  record Lowest (x : Car) (ns : List Note) (c : Car) : Type 0 where
    above : n < c.number
    among : (c ≡ x) ⊎ Contains (cars ns) c
    least : c.number ≤ x.number
    all : All (Over c) ns

  skips : (x : Car) (k : Note) (ns : List Note) (c : Car) → k.car.number ≤ n → Lowest x ns c → Lowest x (k ∷ ns) c
  skips x k ns c le h = record {
    above = h.above;
    among = ⊎_elim inl (λ w. inr (there c k.car (cars ns) w)) h.among;
    least = h.least;
    all = All-cons (Over c) k ns (λ lt. absurd (omega arith)) h.all;
  }

  keeps : (x : Car) (k : Note) (ns : List Note) (c : Car) → x.number ≤ k.car.number → Lowest x ns c → Lowest x (k ∷ ns) c
  keeps x k ns c le h = record {
    above = h.above;
    among = ⊎_elim inl (λ w. inr (there c k.car (cars ns) w)) h.among;
    least = h.least;
    all = All-cons (Over c) k ns (λ lt. omega arith) h.all;
  }

  takes : (x : Car) (k : Note) (ns : List Note) (c : Car) → k.car.number ≤ x.number → Lowest k.car ns c → Lowest x (k ∷ ns) c
  takes x k ns c le h = record {
    above = h.above;
    among = inr (⊎_elim (here c k.car (cars ns)) (there c k.car (cars ns)) h.among);
    least = omega arith;
    all = All-cons (Over c) k ns (λ lt. h.least) h.all;
  }

  skips_next : (k : Note) (ns : List Note) (r : Option Car) → k.car.number ≤ n → Next ns n r → Next (k ∷ ns) n r
  skips_next k ns None le h = All-cons (λ m. m.car.number ≤ n) k ns le h
  skips_next k ns (Some c) le h = (h.0, there c k.car (cars ns) h.1, All-cons (Over c) k ns (λ lt. absurd (omega arith)) h.2)

  module _ (f : Car → Car → Car) (picks : (p z : Car) → Picks p z (f p z)) where
    abbrev above_n : List Note → List Car
    above_n ns = filter (λ d. ltb n d.number) (cars ns)

    one_more : (x : Car) (k : Note) (ns : List Note) → Lowest x ns (fold f x (above_n ns)) → (n < k.car.number → Lowest k.car ns (fold f k.car (above_n ns))) → Lowest x (k ∷ ns) (fold f x (above_n (k ∷ ns)))
    one_more x k ns old new = go (ltb n k.car.number) refl
      where
        go : (b : Bool) → ltb n k.car.number ≡ b → Lowest x (k ∷ ns) (fold f x (cond b (k.car ∷ above_n ns) (above_n ns)))
        go true e =
            ⊎_elim (λ p. subst (λ y. Lowest x (k ∷ ns) (fold f y (above_n ns))) (sym p.0) (keeps x k ns (fold f x (above_n ns)) p.1 old))
            (λ p. subst (λ y. Lowest x (k ∷ ns) (fold f y (above_n ns))) (sym p.0) (takes x k ns (fold f k.car (above_n ns)) p.1 (new (ltb-true _ _ e))))
            (picks x k.car)
        go false e = skips x k ns (fold f x (above_n ns)) (ltb-false _ _ e) old

    lowest : (x : Car) → n < x.number → (ns : List Note) → Lowest x ns (fold f x (above_n ns))
    lowest x lt [] = record { above = lt; among = inl refl; least = omega arith; all = All-nil (Over x) }
    lowest x lt (k ∷ ns) = one_more x k ns (lowest x lt ns) (λ l. lowest k.car l ns)

    next_more : (k : Note) (ns : List Note) → Next ns n (reduce f (above_n ns)) → Next (k ∷ ns) n (reduce f (above_n (k ∷ ns)))
    next_more k ns old = go (ltb n k.car.number) refl
      where
        go : (b : Bool) → ltb n k.car.number ≡ b → Next (k ∷ ns) n (reduce f (cond b (k.car ∷ above_n ns) (above_n ns)))
        go true e =
            let c = fold f k.car (above_n ns) in
            let h = lowest k.car (ltb-true _ _ e) ns in
            (h.above, ⊎_elim (here c k.car (cars ns)) (there c k.car (cars ns)) h.among, All-cons (Over c) k ns (λ lt. h.least) h.all)
        go false e = skips_next k ns (reduce f (above_n ns)) (ltb-false _ _ e) old

    pub next_is : (ns : List Note) → Next ns n (reduce f (above_n ns))
    next_is [] = All-nil (λ m. m.car.number ≤ n)
    next_is (k ∷ ns) = next_more k ns (next_is ns)
