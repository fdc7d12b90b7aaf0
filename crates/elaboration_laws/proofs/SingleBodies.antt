-- The bodies of an elaborated program: each is that of its method, and a tree.
use Rattle.std.proofs.Common.{◌≡◌, ◌∙◌, sym, ap, ap₂, subst, refl, arith, ℕ, zero, suc, ◌<◌, ◌≤◌, Bool, true, false, cond, Option, Some, None, List, [], ◌∷◌, All, get_or, length, map}
use Rattle.std.specs.Prelude.{nat_eq, nat_lt, option_map, slice_get, slice_index_or}
use Rattle.std.specs.List.{AllZip, Contains, position_or_len}
use Rattle.std.specs.Option.{IsSomeAnd}
use Rattle.std.proofs.lemmas.Bool.{eq-eqb, eqb-true}
use Rattle.std.proofs.lemmas.Bool.Decides.{nat_tests}
use Rattle.std.proofs.lemmas.List.{length-map}
use Rattle.std.proofs.lemmas.List.Elements.{All-head, All-tail}
use Rattle.std.proofs.lemmas.List.Sums.{fails_before_first, position_or_len_is}
use Rattle.program_model.specs.declared.kinds.BodyId.{BodyId}
use Rattle.program_model.specs.declared.kinds.MethodId.{MethodId}
use Rattle.program_model.specs.declared.tree.Body.{Body}
use Rattle.java_elaboration.specs.ProgramBodies.{body_id, body_number}
use Rattle.java_elaboration.specs.SourceClassesMembers.{Environment}
use Rattle.java_elaboration.specs.Bodies.{SourceBody}
use Rattle.java_elaboration.specs.TypedBodies.{typed_body}
use Rattle.java_elaboration.specs.Elaborations.{IsBodyOf}
use Rattle.elaboration_laws.specs.MethodNumbers.{AreDistinct, method_numbers}

-- ---- the methods of bodies

abbrev pub body_methods : List Body → List ℕ
body_methods xs = map (λ (x : Body). x.method.0) xs

-- the bodies that are laid are of the methods of the source bodies
pub methods_are : (e : Environment) (bs : List SourceBody) (xs : List Body) → AllZip IsBodyOf (map (typed_body e) bs) xs → body_methods xs ≡ method_numbers bs
methods_are e [] [] laid = refl
methods_are e [] (x ∷ xs) laid = absurd laid
methods_are e (b ∷ bs) [] laid = absurd laid
methods_are e (b ∷ bs) (x ∷ xs) laid = ap₂ (λ (n : ℕ) (ns : List ℕ). n ∷ ns) (ap (λ (m : MethodId). m.0) laid.0.method) (methods_are e bs xs laid.1)

-- ---- where a body stands

none_is_some : {X : Type 0} (x : X) → ◌≡◌ {A = Option X} None (Some x) → ⊥
none_is_some x h = cc

same_some : {X : Type 0} (x y : X) → ◌≡◌ {A = Option X} (Some x) (Some y) → x ≡ y
same_some x y h = cc

in_range : {X : Type 0} (xs : List X) (n : ℕ) (x : X) → slice_get xs n ≡ Some x → n < length xs
in_range [] n x at = absurd (none_is_some x at)
in_range (y ∷ ys) zero x at = omega arith
in_range (y ∷ ys) (suc n) x at = let h = in_range ys n x at in omega (arith, h)

stands_at : {X : Type 0} (xs : List X) (n : ℕ) (x d : X) → slice_get xs n ≡ Some x → get_or xs n d ≡ x
stands_at [] n x d at = absurd (none_is_some x at)
stands_at (y ∷ ys) zero x d at = same_some y x at
stands_at (y ∷ ys) (suc n) x d at = stands_at ys n x d at

all_at : (P : ℕ → Type 0) (xs : List Body) (n : ℕ) (x : Body) → All P (body_methods xs) → slice_get xs n ≡ Some x → P x.method.0
all_at P [] n x all at = absurd (none_is_some x at)
all_at P (y ∷ ys) zero x all at = subst (λ (z : Body). P z.method.0) (same_some y x at) (All-head P y.method.0 (body_methods ys) all)
all_at P (y ∷ ys) (suc n) x all at = all_at P ys n x (All-tail P y.method.0 (body_methods ys) all) at

differ : (n m : ℕ) → (n ≡ m → ⊥) → nat_eq n m ≡ false
differ n m other = by (nat_eq n m) refl
  where
    by : (b : Bool) → nat_eq n m ≡ b → b ≡ false
    by true is = absurd (other (eqb-true n m is))
    by false is = refl

-- no body before it is of its method
others_before : (xs : List Body) (n : ℕ) (x : Body) → AreDistinct (body_methods xs) → slice_get xs n ≡ Some x → (k : ℕ) → k < n → nat_eq (get_or xs k x).method.0 x.method.0 ≡ false
others_before [] n x distinct at k below = absurd (none_is_some x at)
others_before (y ∷ ys) zero x distinct at k below = absurd (omega (arith, below))
others_before (y ∷ ys) (suc n) x distinct at zero below = differ y.method.0 x.method.0 (all_at (λ m. y.method.0 ≡ m → ⊥) ys n x distinct.0 at)
others_before (y ∷ ys) (suc n) x distinct at (suc k) below = others_before ys n x distinct.1 at k (omega (arith, below))

is_below : (n m : ℕ) → n < m → nat_lt n m ≡ true
is_below n m h = grind (arith, nat_tests)

abbrev is_of : ℕ → Body → Bool
is_of m x = nat_eq x.method.0 m

-- its number is that of its method's body
pub single_body : (xs : List Body) (n : BodyId) (x : Body) → AreDistinct (body_methods xs) → slice_get xs n.0 ≡ Some x → body_number xs x.method.0 ≡ Some n
single_body xs n x distinct at =
    let below : n.0 < length xs = in_range xs n.0 x at in
    let here : nat_eq (get_or xs n.0 x).method.0 x.method.0 ≡ true = ap (λ (y : Body). nat_eq y.method.0 x.method.0) (stands_at xs n.0 x x at) ∙ eq-eqb x.method.0 x.method.0 refl in
    let first : position_or_len (is_of x.method.0) xs ≡ n.0 = position_or_len_is (is_of x.method.0) xs n.0 x (omega (arith, below)) (others_before xs n.0 x distinct at) (λ h. here) in
    ap (λ (i : ℕ). option_map body_id (cond (nat_lt i (length xs)) (Some i) None)) first
    ∙ ap (λ (b : Bool). option_map body_id (cond b (Some n.0) None)) (is_below n.0 (length xs) below)

-- ---- a method of which there is a body

record HasElement {X : Type 0} (xs : List X) (n : ℕ) : Type 0 where
  element : X
  at : slice_get xs n ≡ Some element

element_at : {X : Type 0} (xs : List X) (n : ℕ) → n < length xs → HasElement xs n
element_at [] n below = absurd (omega (arith, below))
element_at (x ∷ xs) zero below = record { element = x; at = refl }
element_at (x ∷ xs) (suc n) below = let h = element_at xs n (omega (arith, below)) in record { element = h.element; at = h.at }

number_at : (xs : List Body) (n m : ℕ) (x : Body) → slice_get xs n ≡ Some x → slice_index_or (body_methods xs) n m ≡ m → x.method.0 ≡ m
number_at [] n m x at is = absurd (none_is_some x at)
number_at (y ∷ ys) zero m x at is = ap (λ (z : Body). z.method.0) (sym (same_some y x at)) ∙ is
number_at (y ∷ ys) (suc n) m x at is = number_at ys n m x at is

not_below : (n m : ℕ) → nat_lt n m ≡ false → m ≤ n
not_below n m h = grind (arith, nat_tests)

pub has_number : (xs : List Body) (m : ℕ) → Contains (body_methods xs) m → IsSomeAnd (body_number xs m) (λ b. Unit {0})
has_number xs m has = by (nat_lt (position_or_len (is_of m) xs) (length xs)) refl
  where
    by : (b : Bool) → nat_lt (position_or_len (is_of m) xs) (length xs) ≡ b → IsSomeAnd (option_map body_id (cond b (Some (position_or_len (is_of m) xs)) None)) (λ b. Unit {0})
    by true is = tt
    by false is =
        let k : ℕ = has.0 in
        let counted : k < length (body_methods xs) = has.1 in
        let long = length-map xs (λ (x : Body). x.method.0) in
        let below : k < length xs = omega (arith, counted, long) in
        let behind : length xs ≤ position_or_len (is_of m) xs = not_below (position_or_len (is_of m) xs) (length xs) is in
        let found = element_at xs k below in
        let x : Body = found.element in
        let fails : is_of m (get_or xs k x) ≡ false = fails_before_first (is_of m) xs k x (omega (arith, below, behind)) in
        let passes : is_of m (get_or xs k x) ≡ true = ap (is_of m) (stands_at xs k x x found.at) ∙ eq-eqb x.method.0 m (number_at xs k m x found.at has.2) in
        absurd (let wrong : ◌≡◌ {A = Bool} true false = sym passes ∙ fails in cc)
