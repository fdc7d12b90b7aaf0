-- Lemmas on the least of refusals that a relation gives.
use Rattle.std.proofs.Common.{◌≡◌, ◌∙◌, sym, ap, refl, subst, arith, inl, inr, ⊎_elim, ℕ, zero, suc, Bool, true, false, true≢false, IsTrue, ◌↔◌, not, ◌<◌, ◌+◌, cond, Option, Some, None, List, [], ◌∷◌, ◌++◌, length, get_or, take, map}
use Rattle.std.specs.Prelude.{◌⊎◌, nat_lt}
use Rattle.std.specs.List.{Contains}
use Rattle.std.proofs.lemmas.Bool.Decides.{nat_tests}
use Rattle.std.proofs.lemmas.List.{map_push, take_more}
use Rattle.std.proofs.lemmas.List.Elements.{Contains-append_left, Contains-push, Contains-push_cases}
use Rattle.rlc_base.specs.Codes.{number_of}
use Rattle.rlc_base.specs.declared.code.Code.{Code}
use Rattle.rlc_base.specs.declared.faults.Refusal.{Refusal}
use Rattle.rlc_base.specs.declared.place.Pos.{Pos}
use Rattle.refusal_order.specs.Refusals.{is_before, is_less_or, least, lesser_of, refused_at, where_true}
use Rattle.refusal_order.proofs.LeastLaws.{is_before-transitive, is_before-weak, least-append}
use Rattle.class_order.specs.Cases.{IsAmong, IsLeast}

pub least_joined : (P Q R : Refusal → Type 0) (x y : Option Refusal) → ((r : Refusal) → R r → P r ⊎ Q r) → ((r : Refusal) → P r → R r) → ((r : Refusal) → Q r → R r) → IsLeast P x → IsLeast Q y → IsLeast R (lesser_of x y)
least_joined P Q R None None split left right h g = λ r due. ⊎_elim (λ p. h r p) (λ q. g r q) (split r due)
least_joined P Q R None (Some y) split left right h g = (right y g.0, λ s due. ⊎_elim (λ p. absurd (h s p)) (λ q. g.1 s q) (split s due))
least_joined P Q R (Some x) None split left right h g = (left x h.0, λ s due. ⊎_elim (λ p. h.1 s p) (λ q. absurd (g s q)) (split s due))
least_joined P Q R (Some x) (Some y) split left right h g = choose (is_before y x) refl
  where
    not_before : (s : Refusal) (b : Bool) → is_before s y ≡ b → is_before y x ≡ true → is_before s x ≡ false → b ≡ false
    not_before s false is first other = refl
    not_before s true is first other = absurd (true≢false (sym (is_before-transitive s y x is first) ∙ other))

    choose : (b : Bool) → is_before y x ≡ b → IsLeast R (Some (cond b y x))
    choose true first = (right y g.0, λ s due. ⊎_elim (λ p. not_before s (is_before s y) refl first (h.1 s p)) (λ q. g.1 s q) (split s due))
    choose false first = (left x h.0, λ s due. ⊎_elim (λ p. h.1 s p) (λ q. is_before-weak s y x (g.1 s q) first) (split s due))

pub least_same : (P Q : Refusal → Type 0) (x : Option Refusal) → ((r : Refusal) → P r → Q r) → ((r : Refusal) → Q r → P r) → IsLeast P x → IsLeast Q x
least_same P Q None there back h = λ r due. h r (back r due)
least_same P Q (Some x) there back h = (there x h.0, λ s due. h.1 s (back s due))

less_or_same : (n : ℕ) (b : Bool) → is_less_or n n b ≡ b
less_or_same n true = grind (arith, nat_tests)
less_or_same n false = grind (arith, nat_tests)

not_less : (n : ℕ) → nat_lt n n ≡ false
not_less n = grind (arith, nat_tests)

pub not_before_itself : (x : Refusal) → is_before x x ≡ false
not_before_itself x =
    less_or_same x.pos.file _ ∙ less_or_same x.pos.line _ ∙ less_or_same x.pos.col _ ∙ not_less (number_of x.code)

-- ---- the least of lists

-- the least of two lists, joined
pub least_parts : {r a b : Option Refusal} (xs ys : List Refusal) → r ≡ lesser_of a b → a ≡ least xs → b ≡ least ys → r ≡ least (xs ++ ys)
least_parts xs ys joined first second = joined ∙ (λ j. lesser_of (first j) (second j)) ∙ sym (least-append xs ys)

-- what a list joins has the one or the other
contains_rest : (x y : Refusal) (xs : List Refusal) → Contains (x ∷ xs) y → (x ≡ y) ⊎ Contains xs y
contains_rest x y xs (zero, within, at) = inl at
contains_rest x y xs (suc k, within, at) = inr (k, (omega arith), at)

contains_first : (x : Refusal) (xs : List Refusal) → Contains (x ∷ xs) x
contains_first x xs = (0, (omega arith), refl)

contains_behind : (x y : Refusal) (xs : List Refusal) → Contains xs y → Contains (x ∷ xs) y
contains_behind x y xs has = (suc has.0, (let within = has.1 in omega arith), has.2)

-- the least of a list is the least of its elements
pub least_contained : (xs : List Refusal) → IsLeast (Contains xs) (least xs)
least_contained [] = λ r has. absurd (let within = has.1 in omega arith)
least_contained (x ∷ xs) =
    least_joined (λ r. x ≡ r) (Contains xs) (Contains (x ∷ xs)) (Some x) (least xs)
    (λ r has. contains_rest x r xs has)
    (λ r same. subst (λ y. Contains (x ∷ xs) y) same (contains_first x xs))
    (λ r has. contains_behind x r xs has)
    (refl, λ s same. ap (λ y. is_before y x) (sym same) ∙ not_before_itself x)
    (least_contained xs)

pub least_of_list : {r : Option Refusal} (xs : List Refusal) → r ≡ least xs → IsLeast (Contains xs) r
least_of_list xs is = let P : Option Refusal → Type 0 = IsLeast (Contains xs) in subst P (sym is) (least_contained xs)

-- one of two relations
pub least_either : (P Q : Refusal → Type 0) (x y : Option Refusal) → IsLeast P x → IsLeast Q y → IsLeast (λ r. P r ⊎ Q r) (lesser_of x y)
least_either P Q x y first second = least_joined P Q (λ r. P r ⊎ Q r) x y (λ r due. due) (λ r due. inl due) (λ r due. inr due) first second

-- ---- one of the elements of a list

pub among_none : {X : Type 0} (P : X → Refusal → Type 0) → IsLeast (IsAmong P []) None
among_none P = λ r due. (let within = due.1.1 in absurd (omega arith))

pub among_push : {X : Type 0} (P : X → Refusal → Type 0) (xs : List X) (x : X) (a b : Option Refusal) → IsLeast (IsAmong P xs) a → IsLeast (P x) b → IsLeast (IsAmong P (xs ++ x ∷ [])) (lesser_of a b)
among_push {X} P xs x a b first second =
    least_joined (IsAmong P xs) (P x) (IsAmong P (xs ++ x ∷ [])) a b
    (λ r due. ⊎_elim (λ old. inl (due.0, old, due.2)) (λ same. inr (subst (λ (y : X). P y r) (sym same) due.2)) (Contains-push_cases xs x due.0 due.1))
    (λ r due. (due.0, Contains-append_left xs (x ∷ []) due.0 due.1, due.2))
    (λ r due. (x, Contains-push xs x, due))
    first second

-- one element more
pub among_more : {X : Type 0} (P : X → Refusal → Type 0) (xs : List X) (i : ℕ) (x : X) (a b : Option Refusal) → i < length xs → x ≡ get_or xs i x → IsLeast (IsAmong P (take i xs)) a → IsLeast (P x) b → IsLeast (IsAmong P (take (i + 1) xs)) (lesser_of a b)
among_more {X} P xs i x a b within at first second =
    let L : List X → Type 0 = λ ys. IsLeast (IsAmong P ys) (lesser_of a b) in
    subst L (sym (take_more xs i x within ∙ ap (λ y. take i xs ++ y ∷ []) (sym at))) (among_push P (take i xs) x a b first second)

pub among_more_of : {X Y : Type 0} (g : X → Y) (P : Y → Refusal → Type 0) (xs : List X) (i : ℕ) (x : X) (a b : Option Refusal) → i < length xs → x ≡ get_or xs i x → IsLeast (IsAmong P (map g (take i xs))) a → IsLeast (P (g x)) b → IsLeast (IsAmong P (map g (take (i + 1) xs))) (lesser_of a b)
among_more_of {X} {Y} g P xs i x a b within at first second =
    let L : List Y → Type 0 = λ ys. IsLeast (IsAmong P ys) (lesser_of a b) in
    subst L (sym (ap (map g) (take_more xs i x within ∙ ap (λ y. take i xs ++ y ∷ []) (sym at)) ∙ map_push g (take i xs) x)) (among_push P (map g (take i xs)) (g x) a b first second)

-- ---- one refusal, by a test

-- the refusal of what holds
pub least_where : (H : Type 0) (b : Bool) (code : Code) (pos : Pos) → IsTrue b ↔ H → IsLeast (λ r. H × (r ≡ refused_at code pos)) (least (where_true b code pos))
least_where H true code pos test = ((test.0 refl, refl), λ s due. ap (λ x. is_before x (refused_at code pos)) due.1 ∙ not_before_itself (refused_at code pos))
least_where H false code pos test = λ r due. absurd (true≢false (sym (test.1 due.0)))

-- the refusal of what does not hold
pub least_unless : (H : Type 0) (b : Bool) (code : Code) (pos : Pos) → IsTrue b ↔ H → IsLeast (λ r. (H → ⊥) × (r ≡ refused_at code pos)) (least (where_true (not b) code pos))
least_unless H true code pos test = λ r due. absurd (due.0 (test.0 refl))
least_unless H false code pos test = ((λ h. absurd (true≢false (sym (test.1 h))), refl), λ s due. ap (λ x. is_before x (refused_at code pos)) due.1 ∙ not_before_itself (refused_at code pos))
