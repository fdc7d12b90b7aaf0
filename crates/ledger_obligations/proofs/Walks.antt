-- The nearest method that passes a test, found by a walk up the super classes.
use Rattle.std.proofs.Common.{◌≡◌, ◌∙◌, ap, subst, sym, refl, ℕ, suc, ◌+◌, ◌-◌, ◌<◌, ◌≤◌, Bool, Option, Some, None, List, arith}
use Rattle.std.specs.List.{find, flat_map}
use Rattle.std.specs.Option.{option_or}
use Rattle.std.proofs.lemmas.List.Folds.{find-append}
use Rattle.program_model.specs.declared.kinds.ClassId.{ClassId}
use Rattle.program_model.specs.declared.kinds.MethodId.{MethodId}
use Rattle.program_model.specs.declared.program.Program.{Program}
use Rattle.program_model.specs.Lookups.{class_at}
use Rattle.program_model.specs.Overrides.{chain_behind, chain_of, super_in}

-- what a walk that has come to `x`, by so many steps at most, finds
abbrev pub found_from : Program → (MethodId → Bool) → (ClassId → List MethodId) → ℕ → Option ClassId → Option MethodId
found_from p f g n x = find f (flat_map g (chain_behind x (chain_of p n)))

pub found_further : (p : Program) (f : MethodId → Bool) (g : ClassId → List MethodId) (n i : ℕ) (c : ClassId) → i < n → found_from p f g (n - i) (Some c) ≡ option_or (find f (g c)) (found_from p f g (n - (i + 1)) (super_in (class_at p c)))
found_further p f g n i c h =
    let e : n - i ≡ suc (n - (i + 1)) = omega arith in
    rw e (find-append f (g c) (flat_map g (chain_behind (super_in (class_at p c)) (chain_of p (n - (i + 1))))))

pub found_at_end : (p : Program) (f : MethodId → Bool) (g : ClassId → List MethodId) (n i : ℕ) (x : Option ClassId) → n ≤ i → found_from p f g (n - i) x ≡ None
found_at_end p f g n i None h = refl
found_at_end p f g n i (Some c) h = let e : n - i ≡ 0 = omega arith in rw e refl

-- the walk ends at a class that has one
pub walk_ends : (p : Program) (f : MethodId → Bool) (g : ClassId → List MethodId) (n i : ℕ) (x : Option ClassId) (c : ClassId) (o : Option MethodId) (m : MethodId) (whole : Option MethodId) → i < n → x ≡ Some c → o ≡ find f (g c) → o ≡ Some m → found_from p f g (n - i) x ≡ whole → Some m ≡ whole
walk_ends p f g n i x c o m whole within is_class found is_found before =
    let here : found_from p f g (n - i) (Some c) ≡ whole = subst (λ (z : Option ClassId). found_from p f g (n - i) z ≡ whole) is_class before in
    let first : find f (g c) ≡ Some m = sym found ∙ is_found in
    ap (λ z. option_or z (found_from p f g (n - (i + 1)) (super_in (class_at p c)))) (sym first) ∙ sym (found_further p f g n i c within) ∙ here

-- the walk goes on behind a class that has none
pub walk_goes_on : (p : Program) (f : MethodId → Bool) (g : ClassId → List MethodId) (n i : ℕ) (x : Option ClassId) (c : ClassId) (o : Option MethodId) (y : Option ClassId) (whole : Option MethodId) → i < n → x ≡ Some c → o ≡ find f (g c) → o ≡ None → y ≡ super_in (class_at p c) → found_from p f g (n - i) x ≡ whole → found_from p f g (n - (i + 1)) y ≡ whole
walk_goes_on p f g n i x c o y whole within is_class found is_none next before =
    let here : found_from p f g (n - i) (Some c) ≡ whole = subst (λ (z : Option ClassId). found_from p f g (n - i) z ≡ whole) is_class before in
    let first : find f (g c) ≡ None = sym found ∙ is_none in
    ap (found_from p f g (n - (i + 1))) next ∙ ap (λ z. option_or z (found_from p f g (n - (i + 1)) (super_in (class_at p c)))) (sym first) ∙ sym (found_further p f g n i c within) ∙ here
