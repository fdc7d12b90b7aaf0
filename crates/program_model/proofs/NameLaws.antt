-- Unions of sets of names, over the elements of a list in turn.
use Rattle.std.proofs.Common.{◌≡◌, ℕ, zero, suc, ◌+◌, ◌<◌, Bool, true, false, ◌||◌, List, [], ◌∷◌, length, take, get_or, refl, sym, ap, ◌∙◌, arith}
use Rattle.std.specs.Ordering.{nat_cmp}
use Rattle.std.specs.Cmp.{nat_cmp_total}
use Rattle.std.specs.FinSet as set
use Rattle.rlc_base.specs.NameSet.{same_members}
use Rattle.program_model.specs.NameSets.{Names, no_names, names_of_all}

or_joined : (a b c : Bool) → ((a || b) || c) ≡ (a || (b || c))
or_joined true b c = refl
or_joined false b c = refl

or_none : (a : Bool) → (a || false) ≡ a
or_none true = refl
or_none false = refl

member : (s t : Names) (k : ℕ) → set.contains (set.union s t) k ≡ (set.contains s k || set.contains t k)
member s t k = set.contains-union nat_cmp_total s t k

pub union_joined : (a b c : Names) → set.union (set.union a b) c ≡ set.union a (set.union b c)
union_joined a b c = same_members _ _ (λ k.
    member (set.union a b) c k ∙ ap (λ x. x || set.contains c k) (member a b k) ∙ or_joined (set.contains a k) (set.contains b k) (set.contains c k)
    ∙ ap (λ x. set.contains a k || x) (sym (member b c k)) ∙ sym (member a (set.union b c) k))

pub union_none : (s : Names) → set.union s no_names ≡ s
union_none s = same_members _ _ (λ k. member s no_names k ∙ ap (λ x. set.contains s k || x) (set.contains-empty nat_cmp k) ∙ or_none _)

pub none_union : (s : Names) → set.union no_names s ≡ s
none_union s = same_members _ _ (λ k. member no_names s k ∙ ap (λ x. x || set.contains s k) (set.contains-empty nat_cmp k))

one_more : {X : Type 0} (f : X → Names) (xs : List X) (i : ℕ) (x : X) → i < length xs → x ≡ get_or xs i x → names_of_all f (take (suc i) xs) ≡ set.union (names_of_all f (take i xs)) (f x)
one_more f [] i x below same = absurd (omega arith)
one_more f (y ∷ ys) zero x below same = union_none (f y) ∙ ap f (sym same) ∙ sym (none_union (f x))
one_more f (y ∷ ys) (suc i) x below same =
    let shorter : i < length ys = omega arith in
    ap (set.union (f y)) (one_more f ys i x shorter same) ∙ sym (union_joined (f y) (names_of_all f (take i ys)) (f x))

-- the names of the first elements, with those of one element more
pub names_more : {X : Type 0} (f : X → Names) (xs : List X) (i : ℕ) (x : X) → i < length xs → x ≡ get_or xs i x → set.union (names_of_all f (take i xs)) (f x) ≡ names_of_all f (take (i + 1) xs)
names_more f xs i x below same = let next : i + 1 ≡ suc i = omega arith in sym (ap (λ n. names_of_all f (take n xs)) next ∙ one_more f xs i x below same)
