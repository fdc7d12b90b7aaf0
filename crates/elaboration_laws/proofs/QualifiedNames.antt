-- The package of a qualified name and its simple name make the name again (JLS 6.2).
use Rattle.std.proofs.Common.{◌≡◌, ◌∙◌, ◌⊎◌, ap, inl, inr, refl, sym, arith, ℕ, ◌+◌, ◌-◌, Bool, true, false, cond, List, [], ◌∷◌, ◌++◌, length, length-append, take}
use Rattle.std.specs.Prelude.{nat_eq}
use Rattle.std.proofs.Math.Seq.{take-append_seam}
use Rattle.std.proofs.lemmas.Bool.{eqb-true}
use Rattle.class_names.specs.ClassNames.{qualified_name}
use Rattle.java_elaboration.specs.SourceClasses.{behind_last_dot, package_name, simple_in, simple_name}

-- the text ends with a dot, whose code is 46, and this behind it
record EndsBehindDot (name behind : List ℕ) : Type 0 where
  pub front : List ℕ
  pub is : name ≡ front ++ 46 ∷ behind

one_more : (b : ℕ) (bs behind : List ℕ) → EndsBehindDot bs behind → EndsBehindDot (b ∷ bs) behind
one_more b bs behind ends = record { front = b ∷ ends.front; is = ap (λ rest. b ∷ rest) ends.is }

-- what was found before, where there is no dot, and else what stands behind a dot
abbrev IsFound : List ℕ → List ℕ → List ℕ → Type 0
IsFound before name behind = (behind ≡ before) ⊎ EndsBehindDot name behind

at_dot : (b : ℕ) (bs behind : List ℕ) → b ≡ 46 → IsFound bs bs behind → EndsBehindDot (b ∷ bs) behind
at_dot b bs behind is (inl whole) = record { front = []; is = ap (λ c. c ∷ bs) is ∙ ap (λ rest. 46 ∷ rest) (sym whole) }
at_dot b bs behind is (inr ends) = one_more b bs behind ends

at_other : (b : ℕ) (before bs behind : List ℕ) → IsFound before bs behind → IsFound before (b ∷ bs) behind
at_other b before bs behind (inl none) = inl none
at_other b before bs behind (inr ends) = inr (one_more b bs behind ends)

at_either : (b : ℕ) (before bs : List ℕ) (dot : Bool) → nat_eq b 46 ≡ dot → IsFound bs bs (behind_last_dot bs bs) → IsFound before bs (behind_last_dot before bs) → IsFound before (b ∷ bs) (behind_last_dot (cond dot bs before) bs)
at_either b before bs true is behind none = inr (at_dot b bs (behind_last_dot bs bs) (eqb-true b 46 is) behind)
at_either b before bs false is behind none = at_other b before bs (behind_last_dot before bs) none

last_is_found : (before name : List ℕ) → IsFound before name (behind_last_dot before name)
last_is_found before [] = inl refl
last_is_found before (b ∷ bs) = at_either b before bs (nat_eq b 46) refl (last_is_found bs bs) (last_is_found before bs)

-- the name that is read off a qualified name
abbrev pub read_name : List ℕ → List ℕ
read_name name = qualified_name (package_name name) (simple_name name)

abbrev read_in : List ℕ → List ℕ → List ℕ
read_in front name = qualified_name front (simple_in front name)

-- the package is what stands in front of the last dot
front_is : (name front behind : List ℕ) → name ≡ front ++ 46 ∷ behind → take (length name - (length behind + 1)) name ≡ front
front_is name front behind is =
    let long = ap length is ∙ length-append front (46 ∷ behind) in
    let cut : length name - (length behind + 1) ≡ length front = omega (arith, long) in
    ap (λ n. take n name) cut ∙ ap (take (length front)) is ∙ take-append_seam front (46 ∷ behind)

whole_read : (name front : List ℕ) → name ≡ front ++ 46 ∷ behind_last_dot name name → read_in front name ≡ name
whole_read name [] is = refl
whole_read name (b ∷ bs) is = sym is

by_found : (name : List ℕ) → IsFound name name (behind_last_dot name name) → read_name name ≡ name
by_found name (inl whole) =
    let long = ap length whole in
    let nothing : length name - (length (behind_last_dot name name) + 1) ≡ 0 = omega (arith, long) in
    ap (λ n. read_in (take n name) name) nothing
by_found name (inr ends) = ap (λ front. read_in front name) (front_is name ends.front (behind_last_dot name name) ends.is) ∙ whole_read name ends.front ends.is

pub name_read : (name : List ℕ) → read_name name ≡ name
name_read name = by_found name (last_is_found name name)
