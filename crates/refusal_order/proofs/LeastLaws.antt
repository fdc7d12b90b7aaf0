-- The order of refusals is strict and weak, so that the least of a list may be found part by part, from either end.
use Rattle.std.proofs.Common.{◌≡◌, ℕ, zero, suc, ◌+◌, ◌-◌, ◌<◌, ◌≤◌, Bool, true, false, Option, Some, None, List, [], ◌∷◌, ◌++◌, map, length, take, get_or, refl, sym, ap, ap₂, ◌∙◌, arith, true≢false}
use Rattle.std.specs.Prelude.{nat_lt, if◌then◌else◌}
use Rattle.std.specs.List.{flat_map, filter, range_with_len}
use Rattle.std.proofs.lemmas.Bool.Decides.{nat_tests}
use Rattle.rlc_base.specs.declared.faults.Refusal.{Refusal}
use Rattle.rlc_base.specs.declared.place.Pos.{Pos}
use Rattle.rlc_base.specs.Codes.{number_of}
use Rattle.refusal_order.specs.Refusals.{is_less_or, is_place_before_or, is_before, lesser, lesser_of, least, least_of_all}

less_or_transitive : (a b c : ℕ) (p q r : Bool) → (p ≡ true → q ≡ true → r ≡ true) → is_less_or a b p ≡ true → is_less_or b c q ≡ true → is_less_or a c r ≡ true
less_or_transitive a b c true true r behind h k = let e = behind refl refl in grind (arith, nat_tests)
less_or_transitive a b c true false r behind h k = grind (arith, nat_tests)
less_or_transitive a b c false q r behind h k = grind (arith, nat_tests)

less_or_weak : (a b c : ℕ) (p q r : Bool) → (p ≡ false → q ≡ false → r ≡ false) → is_less_or a b p ≡ false → is_less_or b c q ≡ false → is_less_or a c r ≡ false
less_or_weak a b c false false r behind h k = let e = behind refl refl in grind (arith, nat_tests)
less_or_weak a b c false true r behind h k = grind (arith, nat_tests)
less_or_weak a b c true q r behind h k = grind (arith, nat_tests)

lt_transitive : (a b c : ℕ) → nat_lt a b ≡ true → nat_lt b c ≡ true → nat_lt a c ≡ true
lt_transitive a b c h k = grind (arith, nat_tests)

lt_weak : (a b c : ℕ) → nat_lt a b ≡ false → nat_lt b c ≡ false → nat_lt a c ≡ false
lt_weak a b c h k = grind (arith, nat_tests)

place_transitive : (x y z : Pos) (p q r : Bool) → (p ≡ true → q ≡ true → r ≡ true) → is_place_before_or x y p ≡ true → is_place_before_or y z q ≡ true → is_place_before_or x z r ≡ true
place_transitive x y z p q r behind =
    less_or_transitive x.file y.file z.file _ _ _
    (less_or_transitive x.line y.line z.line _ _ _ (less_or_transitive x.col y.col z.col p q r behind))

place_weak : (x y z : Pos) (p q r : Bool) → (p ≡ false → q ≡ false → r ≡ false) → is_place_before_or x y p ≡ false → is_place_before_or y z q ≡ false → is_place_before_or x z r ≡ false
place_weak x y z p q r behind =
    less_or_weak x.file y.file z.file _ _ _
    (less_or_weak x.line y.line z.line _ _ _ (less_or_weak x.col y.col z.col p q r behind))

pub is_before-transitive : (x y z : Refusal) → is_before x y ≡ true → is_before y z ≡ true → is_before x z ≡ true
is_before-transitive x y z = place_transitive x.pos y.pos z.pos _ _ _ (lt_transitive (number_of x.code) (number_of y.code) (number_of z.code))

pub is_before-weak : (x y z : Refusal) → is_before x y ≡ false → is_before y z ≡ false → is_before x z ≡ false
is_before-weak x y z = place_weak x.pos y.pos z.pos _ _ _ (lt_weak (number_of x.code) (number_of y.code) (number_of z.code))

-- by the answers to the three questions: x before y, y before z, x before z
lesser_joined : (a b c : Bool) (x y z : Refusal) → is_before y x ≡ a → is_before z y ≡ b → is_before z x ≡ c → lesser (lesser x (Some y)) (Some z) ≡ lesser x (Some (lesser y (Some z)))
lesser_joined true true true x y z h k l = simp (h, k, l)
lesser_joined true false c x y z h k l = simp (h, k, l)
lesser_joined false true false x y z h k l = simp (h, k, l)
lesser_joined false false false x y z h k l = simp (h, k, l)
lesser_joined false true true x y z h k l = simp (h, k, l)
lesser_joined false false true x y z h k l = let e = is_before-weak z y x k h in absurd (true≢false (sym l ∙ e))
lesser_joined true true false x y z h k l = let e = is_before-transitive z y x k h in absurd (true≢false (sym e ∙ l))

pub lesser_of-joined : (x y z : Option Refusal) → lesser_of (lesser_of x y) z ≡ lesser_of x (lesser_of y z)
lesser_of-joined None y z = refl
lesser_of-joined (Some x) None z = refl
lesser_of-joined (Some x) (Some y) None = refl
lesser_of-joined (Some x) (Some y) (Some z) = ap Some (lesser_joined _ _ _ x y z refl refl refl)

pub lesser_of-none : (x : Option Refusal) → lesser_of x None ≡ x
lesser_of-none None = refl
lesser_of-none (Some x) = refl

-- the least of a joined list, from that of its parts
pub least-append : (xs ys : List Refusal) → least (xs ++ ys) ≡ lesser_of (least xs) (least ys)
least-append [] ys = refl
least-append (x ∷ xs) ys = ap (lesser_of (Some x)) (least-append xs ys) ∙ sym (lesser_of-joined (Some x) (least xs) (least ys))

-- ---- the least of what each element gives

pub least_of_all-append : {X : Type 0} (f : X → Option Refusal) (xs ys : List X) → least_of_all f (xs ++ ys) ≡ lesser_of (least_of_all f xs) (least_of_all f ys)
least_of_all-append f [] ys = refl
least_of_all-append f (x ∷ xs) ys = ap (lesser_of (f x)) (least_of_all-append f xs ys) ∙ sym (lesser_of-joined (f x) (least_of_all f xs) (least_of_all f ys))

pub least_of_all-flat_map : {X Y : Type 0} (f : Y → Option Refusal) (g : X → List Y) (xs : List X) → least_of_all f (flat_map g xs) ≡ least_of_all (λ x. least_of_all f (g x)) xs
least_of_all-flat_map f g [] = refl
least_of_all-flat_map f g (x ∷ xs) = least_of_all-append f (g x) (flat_map g xs) ∙ ap (lesser_of (least_of_all f (g x))) (least_of_all-flat_map f g xs)

-- what is given where a test holds
abbrev pub given : Bool → Option Refusal → Option Refusal
given b x = if b then x else None

one_kept : {X : Type 0} (f : X → Option Refusal) (b : Bool) (x : X) (xs : List X) → least_of_all f (if b then x ∷ xs else xs) ≡ lesser_of (given b (f x)) (least_of_all f xs)
one_kept f true x xs = refl
one_kept f false x xs = refl

pub least_of_all-filter : {X : Type 0} (f : X → Option Refusal) (t : X → Bool) (xs : List X) → least_of_all f (filter t xs) ≡ least_of_all (λ x. if t x then f x else None) xs
least_of_all-filter f t [] = refl
least_of_all-filter f t (x ∷ xs) = one_kept f (t x) x (filter t xs) ∙ ap (lesser_of (given (t x) (f x))) (least_of_all-filter f t xs)

pub least_of_all-map : {X Y : Type 0} (f : Y → Option Refusal) (g : X → Y) (xs : List X) → least_of_all f (map g xs) ≡ least_of_all (λ x. f (g x)) xs
least_of_all-map f g [] = refl
least_of_all-map f g (x ∷ xs) = ap (lesser_of (f (g x))) (least_of_all-map f g xs)

pub least_of_all-same : {X : Type 0} (f g : X → Option Refusal) (xs : List X) → ((x : X) → f x ≡ g x) → least_of_all f xs ≡ least_of_all g xs
least_of_all-same f g [] same = refl
least_of_all-same f g (x ∷ xs) same = ap₂ lesser_of (same x) (least_of_all-same f g xs same)

pub least-flat_map : {X : Type 0} (g : X → List Refusal) (xs : List X) → least (flat_map g xs) ≡ least_of_all (λ x. least (g x)) xs
least-flat_map g [] = refl
least-flat_map g (x ∷ xs) = least-append (g x) (flat_map g xs) ∙ ap (lesser_of (least (g x))) (least-flat_map g xs)

one_more : {X : Type 0} (f : X → Option Refusal) (xs : List X) (i : ℕ) (x : X) → i < length xs → x ≡ get_or xs i x → least_of_all f (take (suc i) xs) ≡ lesser_of (least_of_all f (take i xs)) (f x)
one_more f [] i x below same = absurd (omega arith)
one_more f (y ∷ ys) zero x below same = lesser_of-none (f y) ∙ ap f (sym same)
one_more f (y ∷ ys) (suc i) x below same =
    let shorter : i < length ys = omega arith in
    ap (lesser_of (f y)) (one_more f ys i x shorter same) ∙ sym (lesser_of-joined (f y) (least_of_all f (take i ys)) (f x))

-- the least of what the first elements give, with that of one element more: the step of a loop
pub least_more : {X : Type 0} (f : X → Option Refusal) (xs : List X) (i : ℕ) (x : X) → i < length xs → x ≡ get_or xs i x → lesser_of (least_of_all f (take i xs)) (f x) ≡ least_of_all f (take (i + 1) xs)
least_more f xs i x below same = let next : i + 1 ≡ suc i = omega arith in sym (ap (λ n. least_of_all f (take n xs)) next ∙ one_more f xs i x below same)

-- the same over numbers: what those from i on give is what i gives, and those behind it
pub least_from : (f : ℕ → Option Refusal) (least : Option Refusal) (i e : ℕ) → i < e
    → lesser_of (lesser_of least (f i)) (least_of_all f (range_with_len (i + 1) (e - (i + 1)))) ≡ lesser_of least (least_of_all f (range_with_len i (e - i)))
least_from f least i e below =
    let one : e - i ≡ suc (e - (i + 1)) = omega arith in
    lesser_of-joined least (f i) (least_of_all f (range_with_len (i + 1) (e - (i + 1))))
    ∙ sym (ap (λ n. lesser_of least (least_of_all f (range_with_len i n))) one)

pub least_from_none : (f : ℕ → Option Refusal) (least : Option Refusal) (i e : ℕ) → e ≤ i → lesser_of least (least_of_all f (range_with_len i (e - i))) ≡ least
least_from_none f least i e past = let none : e - i ≡ 0 = omega arith in ap (λ n. lesser_of least (least_of_all f (range_with_len i n))) none ∙ lesser_of-none least

any_default : {X : Type 0} (xs : List X) (i : ℕ) (d e : X) → i < length xs → get_or xs i d ≡ get_or xs i e
any_default [] i d e below = absurd (omega arith)
any_default (x ∷ xs) zero d e below = refl
any_default (x ∷ xs) (suc i) d e below = let shorter : i < length xs = omega arith in any_default xs i d e shorter

-- the step of a loop over small values
pub least_next : {X : Type 0} (f : X → Option Refusal) (xs : List X) (i : ℕ) (d : X) → i < length xs → lesser_of (least_of_all f (take i xs)) (f (get_or xs i d)) ≡ least_of_all f (take (i + 1) xs)
least_next f xs i d below = least_more f xs i (get_or xs i d) below (any_default xs i d (get_or xs i d) below)
