-- Lemmas on the arcs of one node, as they are made one after another.
use Rattle.std.proofs.Common.{◌≡◌, ◌∙◌, sym, ap, refl, subst, arith, ℕ, ◌+◌, ◌<◌, ◌≤◌, zero, suc, max, Bool, true, false, cond, List, [], ◌∷◌, ◌++◌, take, length, append_assoc, get_or, eq-eqb}
use Rattle.std.specs.Prelude.{slice_get, not, eqb, ◌||◌}
use Rattle.std.specs.List.{AllZip, Contains, IsDistinct, list_any, position_or_len}
use Rattle.std.proofs.lemmas.List.Elements.{All-append, All-weaker, Contains-append_left, Contains-append_right}
use Rattle.std.proofs.lemmas.List.{take_more}
use Rattle.control_actions.specs.declared.triple.Triple.{Triple}
use Rattle.java_cfg.specs.declared.arc.Arc.{Arc}
use Rattle.java_cfg.specs.Graphs.{numbers_in}
use Rattle.java_cfg.specs.Order.{InOrder, counted}
use Rattle.java_cfg.specs.Reach.{AreOnce}
use Rattle.java_cfg.specs.Tables.{Grows, IsLinked, ends_of}
use Rattle.java_cfg.proofs.ListLemmas.{contains, contains_map, get_append, map_append, map_get, stands, zip_weaker}
use Rattle.java_cfg.proofs.NumberLemmas.{once_distinct}
use Rattle.java_cfg.proofs.OrderLemmas.{counted_append, in_order_append}

-- the arcs of the first steps are made, and the numbers went from `old` to `new`
pub record AreLinked (old new : List ℕ) (row : List Arc) (triples : List Triple) : Type 0 where
  pub grows : Grows old new (ends_of triples)
  pub once : AreOnce new
  pub arcs : AllZip (IsLinked new) row triples
  pub order : InOrder (length old) (numbers_in row)
  pub count : length new ≡ counted (length old) (numbers_in row)

append_none : {X : Type 0} (xs : List X) → xs ≡ xs ++ []
append_none [] = refl
append_none (x ∷ xs) = ap (λ ys. x ∷ ys) (append_none xs)

pub grows_none : {X : Type 0} (xs ys : List X) → Grows xs xs ys
grows_none xs ys = record { new = []; is = append_none xs; only = λ k d within. absurd (omega arith) }

pub linked_none : (numbers : List ℕ) → AreOnce numbers → AreLinked numbers numbers [] []
linked_none numbers once = record { grows = grows_none numbers []; once = once; arcs = tt; order = tt; count = refl }

grows_more : {X : Type 0} (old mid new xs ys : List X) → Grows old mid xs → Grows mid new ys → Grows old new (xs ++ ys)
grows_more old mid new xs ys first second = record {
  new = first.new ++ second.new;
  is = second.is ∙ ap (λ zs. zs ++ second.new) first.is ∙ append_assoc old first.new second.new;
  only = All-append (Contains (xs ++ ys)) first.new second.new
      (All-weaker (Contains xs) (Contains (xs ++ ys)) (Contains-append_left xs ys) first.new first.only)
      (All-weaker (Contains ys) (Contains (xs ++ ys)) (Contains-append_right xs ys) second.new second.only);
}

linked_kept : (mid new more : List ℕ) → new ≡ mid ++ more → (a : Arc) (t : Triple) → IsLinked mid a t → IsLinked new a t
linked_kept mid new more is a t h = record {
  action = h.action;
  edge = h.edge;
  target = ap (λ xs. slice_get xs a.to) is ∙ get_append mid more a.to t.to h.target;
  pos = h.pos;
}

zip_push : {X Y : Type 0} (R : X → Y → Type 0) (xs : List X) (ys : List Y) (x : X) (y : Y) → AllZip R xs ys → R x y → AllZip R (xs ++ x ∷ []) (ys ++ y ∷ [])
zip_push R [] [] x y h one = (one, tt)
zip_push R [] (z ∷ ys) x y h one = absurd h
zip_push R (z ∷ xs) [] x y h one = absurd h
zip_push R (w ∷ xs) (z ∷ ys) x y h one = (h.0, zip_push R xs ys x y h.1 one)

-- one arc more
pub linked_more : (old mid new : List ℕ) (row : List Arc) (triples : List Triple) (a : Arc) (t : Triple) → AreLinked old mid row triples → Grows mid new (t.to ∷ []) → AreOnce new → IsLinked new a t → a.to ≤ length mid → length new ≡ max (length mid) (a.to + 1) → AreLinked old new (row ++ a ∷ []) (triples ++ t ∷ [])
linked_more old mid new row triples a t h grows once one next count =
    let ends = map_append (λ (x : Triple). x.to) triples (t ∷ []) in
    let numbers = map_append (λ (x : Arc). x.to) row (a ∷ []) in
    record {
      grows = subst (Grows old new) (sym ends) (grows_more old mid new (ends_of triples) (t.to ∷ []) h.grows grows);
      once = once;
      arcs = zip_push (IsLinked new) row triples a t (zip_weaker (IsLinked mid) (IsLinked new) (linked_kept mid new grows.new grows.is) row triples h.arcs) one;
      order = subst (InOrder (length old)) (sym numbers) (in_order_append (length old) (numbers_in row) (a.to ∷ []) h.order (subst (λ (n : ℕ). InOrder n (a.to ∷ [])) h.count (next, tt)));
      count = count ∙ ap (λ n. max n (a.to + 1)) h.count ∙ sym (counted_append (length old) (numbers_in row) (a.to ∷ [])) ∙ sym (ap (counted (length old)) numbers);
    }

contains_take : {X : Type 0} (xs : List X) (n : ℕ) (x : X) → Contains (take n xs) x → Contains xs x
contains_take xs zero x h = absurd (let within = h.1 in omega (arith, within))
contains_take [] (suc n) x h = h
contains_take (y ∷ xs) (suc n) x (zero, within, is) = (0, omega arith, is)
contains_take (y ∷ xs) (suc n) x (suc k, within, is) =
    let rest = contains_take xs n x (k, omega (arith, within), is) in
    let later = rest.1 in
    (suc rest.0, omega (arith, later), rest.2)

contains_ends : (triples : List Triple) (n x : ℕ) → Contains (ends_of (take n triples)) x → Contains (ends_of triples) x
contains_ends triples n x h =
    let at = stands (ends_of (take n triples)) x h in
    let one = map_get (λ (t : Triple). t.to) (take n triples) at.0 x at.1 in
    let first = contains_take triples n one.0 (contains (take n triples) at.0 one.0 one.1.0) in
    subst (Contains (ends_of triples)) one.1.1 (contains_map (λ (t : Triple). t.to) triples one.0 first)

-- what grew by the first steps, and by one more, grew by the steps
pub grown : (old mid new : List ℕ) (triples : List Triple) (i : ℕ) (d : Triple) → i < length triples → Grows old mid (ends_of (take i triples)) → Grows mid new ((get_or triples i d).to ∷ []) → Grows old new (ends_of triples)
grown old mid new triples i d within first one =
    let t = get_or triples i d in
    let next = take_more triples i d within in
    let both = grows_more old mid new (ends_of (take i triples)) (t.to ∷ []) first one in
    let ends = ap ends_of next ∙ map_append (λ (x : Triple). x.to) (take i triples) (t ∷ []) in
    let all = subst (Grows old new) (sym ends) both in
    record {
      new = all.new;
      is = all.is;
      only = All-weaker (Contains (ends_of (take (i + 1) triples))) (Contains (ends_of triples)) (contains_ends triples (i + 1)) all.new all.only;
    }

-- the arc of the next step
pub linked_next : (old mid new : List ℕ) (row more : List Arc) (triples : List Triple) (i : ℕ) (d : Triple) (a : Arc) → i < length triples → more ≡ row ++ a ∷ [] → AreLinked old mid row (take i triples) → Grows mid new ((get_or triples i d).to ∷ []) → AreOnce new → IsLinked new a (get_or triples i d) → a.to ≤ length mid → length new ≡ max (length mid) (a.to + 1) → AreLinked old new more (take (i + 1) triples)
linked_next old mid new row more triples i d a within pushed h grows once one next count =
    let steps = take_more triples i d within in
    let all = linked_more old mid new row (take i triples) a (get_or triples i d) h grows once one next count in
    subst (λ (xs : List Arc). AreLinked old new xs (take (i + 1) triples)) (sym pushed) (subst (AreLinked old new (row ++ a ∷ [])) (sym steps) all)

placed_by : {X : Type 0} (b any : Bool) (x y : X) (xs : List X) (p : ℕ) → length (cond any xs (xs ++ y ∷ [])) ≡ max (length xs) (p + 1) → length (cond (b || any) (x ∷ xs) (x ∷ xs ++ y ∷ [])) ≡ max (suc (length xs)) (cond (not b) (1 + p) 0 + 1)
placed_by true any x y xs p h = omega arith
placed_by false true x y xs p h = omega (arith, h)
placed_by false false x y xs p h = let long : length (xs ++ y ∷ []) ≡ max (length xs) (p + 1) = h in omega (arith, long)

-- how many numbers there are after one was put in, unless it is there
pub placed : {X : Type 0} (test : X → Bool) (xs : List X) (y : X) → length (cond (list_any test xs) xs (xs ++ y ∷ [])) ≡ max (length xs) (position_or_len test xs + 1)
placed test [] y = omega arith
placed test (x ∷ xs) y = placed_by (test x) (list_any test xs) x y xs (position_or_len test xs) (placed test xs y)

-- numbers that are apart by `==` differ
pub numbers_once : (xs : List ℕ) → IsDistinct eqb xs → AreOnce xs
numbers_once xs distinct = once_distinct eqb xs (λ n. eq-eqb n n refl) distinct
