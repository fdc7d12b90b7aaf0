-- No class of the program of files stands under another one that declares owning fields.
use Rattle.std.proofs.Common.{◌≡◌, ◌∙◌, inl, inr, ap, sym, subst, arith, ℕ, zero, suc, ◌+◌, Some, None, List, [], ◌∷◌, Contains, length, map, slice_get}
use Rattle.std.specs.List.{range_with_len}
use Rattle.rlc_base.specs.declared.code.Code.TheVariants as refused
use Rattle.program_model.specs.declared.kinds.ClassId.{ClassId}
use Rattle.program_model.specs.declared.program.Class.{Class}
use Rattle.program_model.specs.declared.program.Program.{Program}
use Rattle.program_model.specs.Lookups.{class_at}
use Rattle.must_call_sets.specs.Overridings.{class_ids}
use Rattle.class_members.proofs.Elements.{contains-cases, contains-first, contains-later, contains-none}
use Rattle.agreement.specs.Conditions.{OwnersStandAlone, stands_under_owner}
use Rattle.acceptance_laws.specs.Programs.{Input, IsProgram}
use Rattle.acceptance_laws.specs.OwnerCases.{owner_cases_in}
use Rattle.file_condition_laws.proofs.Read.{not_refused}
use Rattle.file_condition_laws.proofs.Results.{gathered_none}

mapped : {X Y : Type 0} (f : X → Y) (xs : List X) (x : X) → Contains xs x → Contains (map f xs) (f x)
mapped f [] x c = absurd (contains-none x c)
mapped f (y ∷ ys) x c =
    elim (contains-cases y ys x c) [
      | inl same ↦ subst (λ (z : _). Contains (f y ∷ map f ys) (f z)) same (contains-first (f y) (map f ys))
      | inr more ↦ contains-later (f y) (map f ys) (f x) (mapped f ys x more)
    ]

-- the number of an element is in the range of the list's numbers
numbered : {X : Type 0} (first i : ℕ) (xs : List X) (x : X) → slice_get xs i ≡ Some x → Contains (range_with_len first (length xs)) (first + i)
numbered first zero [] x at = absurd (let never : None ≡ Some x = at in cc)
numbered first (suc i) [] x at = absurd (let never : None ≡ Some x = at in cc)
numbered first zero (y ∷ ys) x at =
    let start : first ≡ first + 0 = omega arith in
    subst (Contains (first ∷ range_with_len (first + 1) (length ys))) start (contains-first first (range_with_len (first + 1) (length ys)))
numbered first (suc i) (y ∷ ys) x at =
    let next : first + 1 + i ≡ first + suc i = omega arith in
    contains-later first (range_with_len (first + 1) (length ys)) (first + suc i) (subst (Contains (range_with_len (first + 1) (length ys))) next (numbered (first + 1) i ys x at))

listed : (p : Program) (c : ClassId) (k : Class) → class_at p c ≡ Some k → Contains (class_ids p) c
listed p c k at =
    let to_class : ℕ → ClassId = λ n. record { 0 = n } in
    let number : 0 + c.0 ≡ c.0 = omega arith in
    let there : Contains (range_with_len 0 (length p.classes.items)) c.0 = subst (Contains (range_with_len 0 (length p.classes.items))) number (numbered 0 c.0 p.classes.items k at) in
    mapped to_class (range_with_len 0 (length p.classes.items)) c.0 there

pub read_owners : (input : Input) (p : Program) → IsProgram input p → OwnersStandAlone p
read_owners input p is c k at =
    not_refused (stands_under_owner p c k) refused.OwningFieldShape k.pos
    (ap (owner_cases_in p c) (sym at) ∙ gathered_none (λ d. owner_cases_in p d (class_at p d)) (class_ids p) is.right.owners c (listed p c k at))
