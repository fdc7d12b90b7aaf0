-- A field or method that a class has by name is declared in it or above it.
use Rattle.std.proofs.Common.{◌≡◌, ◌∙◌, inl, inr, ℕ, zero, suc, Bool, true, false, cond, Option, Some, None, List, [], ◌++◌, All, Contains, refl, sym, subst, find, length}
use Rattle.std.specs.Option.{IsSomeAnd}
use Rattle.std.proofs.lemmas.Bool.{and_parts}
use Rattle.std.proofs.lemmas.List.Elements.{Contains-append_left}
use Rattle.program_model.specs.declared.kinds.ClassId.{ClassId}
use Rattle.program_model.specs.declared.kinds.FieldId.{FieldId}
use Rattle.program_model.specs.declared.kinds.MethodId.{MethodId}
use Rattle.program_model.specs.declared.kinds.MethodKind.{MethodKind}
use Rattle.program_model.specs.declared.kinds.MethodKind.TheVariants as methods
use Rattle.program_model.specs.declared.program.Program.{Program}
use Rattle.program_model.specs.declared.program.Class.{Class}
use Rattle.program_model.specs.declared.program.Method.{Method}
use Rattle.program_model.specs.Hierarchy.{IsDirectSuper, IsUnder, above, implied_super, itself}
use Rattle.program_model.specs.Lookups.{class_at, field_at, method_at, optional}
use Rattle.program_model.specs.Overrides.{chain_behind, chain_of, super_classes, super_in}
use Rattle.program_model.specs.Validity.{IsFieldOf}
use Rattle.class_members.specs.declared.fields.FieldMember.{FieldMember}
use Rattle.class_members.specs.declared.fields.FieldMember.TheVariants as found
use Rattle.class_members.specs.Members.{constant_from, declared_constant, declared_field, declared_member, declares_field, field_named, fields_in, is_accessible, is_constant_by, is_constant_kind, is_field_by, is_private_field, is_private_method, member_of_nearest}
use Rattle.class_members.proofs.Elements.{contains-cases, contains-first, contains-none, find-among}
use Rattle.program_model.specs.Overrides.{methods_of}
use Rattle.java_typing_laws.specs.TypingContexts.{HasTypedMembers}
use Rattle.java_typing_laws.proofs.Conversions.{no_test, none_is_some}

pub all_has : {X : Type 0} (P : X → Type 0) (xs : List X) (x : X) → All P xs → Contains xs x → P x
all_has P xs x h (k, below, at) = subst P at (h k x below)

pub each_some : {X : Type 0} (o : Option X) (P Q : X → Type 0) → ((x : X) → P x → Q x) → IsSomeAnd o P → IsSomeAnd o Q
each_some None P Q f h = h
each_some (Some x) P Q f h = f x h

-- what holds of the one that is there
pub of_known : {X : Type 0} (o : Option X) (x : X) (P : X → Type 0) → o ≡ Some x → IsSomeAnd o P → P x
of_known o x P e h = let Q : Option _ → Type 0 = λ y. IsSomeAnd y P in subst Q e h

-- ---- super classes

sup_is_direct : (p : Program) (c e : ClassId) (k : Class) → class_at p c ≡ Some k → (s : Option ClassId) → k.sup ≡ s → s ≡ Some e → IsDirectSuper p c e
sup_is_direct p c e k at s is some =
    let first : Contains (optional k.sup) e = subst (λ (o : Option ClassId). Contains (optional o) e) (sym (is ∙ some)) (contains-first e []) in
    (k, at, Contains-append_left (optional k.sup ++ k.faces.items) (implied_super p k.interface) e (Contains-append_left (optional k.sup) k.faces.items e first))

pub super_is_direct : (p : Program) (c e : ClassId) (o : Option Class) → class_at p c ≡ o → super_in o ≡ Some e → IsDirectSuper p c e
super_is_direct p c e None at h = absurd (none_is_some e h)
super_is_direct p c e (Some k) at h = sup_is_direct p c e k at k.sup refl h

behind_under : (p : Program) (c d : ClassId) (n : ℕ) (o : Option ClassId) → super_in (class_at p c) ≡ o → ((e : ClassId) → Contains (chain_of p n e) d → IsUnder p e d) → Contains (chain_behind o (chain_of p n)) d → IsUnder p c d
behind_under p c d n None is more h = absurd (contains-none d h)
behind_under p c d n (Some e) is more h = above c e d (super_is_direct p c e (class_at p c) refl is) (more e h)

pub chain_under : (p : Program) (n : ℕ) (c d : ClassId) → Contains (chain_of p n c) d → IsUnder p c d
chain_under p zero c d h = absurd (contains-none d h)
chain_under p (suc n) c d h =
    elim (contains-cases c (chain_behind (super_in (class_at p c)) (chain_of p n)) d h) [
      | inl same ↦ subst (IsUnder p c) same (itself c)
      | inr more ↦ behind_under p c d n (super_in (class_at p c)) refl (λ e g. chain_under p n e d g) more
    ]

-- ---- fields

listed_field : (p : Program) → HasTypedMembers p → (d : ClassId) (o : Option Class) (f : FieldId) → class_at p d ≡ o → Contains (fields_in o) f → IsFieldOf p d f
listed_field p members d None f at h = absurd (contains-none f h)
listed_field p members d (Some k) f at h = all_has (IsFieldOf p d) k.fields.items f (members.fields d k at) h

-- the field is declared in `c` or above it
abbrev pub IsFieldAbove : Program → ClassId → FieldId → Type 0
IsFieldAbove p c f = IsSomeAnd (field_at p f) (λ x. IsUnder p c x.class)

abbrev pub IsLibraryConstant : Program → MethodId → Type 0
IsLibraryConstant p m = IsSomeAnd (method_at p m) (λ x. x.kind ≡ methods.Constant)

constant_kind_law : (k : MethodKind) → is_constant_kind k ≡ true → k ≡ methods.Constant
constant_kind_law methods.Instance h = no_test h
constant_kind_law methods.Static h = no_test h
constant_kind_law methods.Ctor h = no_test h
constant_kind_law methods.Constant h = refl

constant_by_law : (name : List ℕ) (o : Option Method) → is_constant_by name o ≡ true → IsSomeAnd o (λ x. x.kind ≡ methods.Constant)
constant_by_law name None h = no_test h
constant_by_law name (Some m) h = constant_kind_law m.kind (and_parts (is_constant_kind m.kind) _ h).0

-- what the class has under the name
abbrev pub IsMemberOf : Program → ClassId → Option FieldMember → Type 0
IsMemberOf p c None = Unit {0}
IsMemberOf p c (Some (found.Field f)) = IsFieldAbove p c f
IsMemberOf p c (Some (found.Constant m)) = IsLibraryConstant p m

either_member : (p : Program) (c : ClassId) (b : Bool) (o : Option FieldMember) → IsMemberOf p c o → IsMemberOf p c (cond b o None)
either_member p c true o h = h
either_member p c false o h = tt

from_constant : (p : Program) (from c d : ClassId) (name : List ℕ) (m : Option MethodId) → declared_constant p name d ≡ m → IsMemberOf p c (constant_from p from c d m)
from_constant p from c d name None e = tt
from_constant p from c d name (Some m) e = either_member p c (is_accessible from c d (is_private_method (method_at p m))) (Some (found.Constant m)) (constant_by_law name (method_at p m) (find-among (λ n. is_constant_by name (method_at p n)) (methods_of p d) m e).1)

from_declared : (p : Program) → HasTypedMembers p → (from c d : ClassId) (name : List ℕ) → IsUnder p c d → (f : Option FieldId) → declared_field p name d ≡ f → IsMemberOf p c (declared_member p from c d f (declared_constant p name d))
from_declared p members from c d name under None e = from_constant p from c d name (declared_constant p name d) refl
from_declared p members from c d name under (Some f) e =
    let listed = listed_field p members d (class_at p d) f refl (find-among (λ g. is_field_by name (field_at p g)) (fields_in (class_at p d)) f e).0 in
    either_member p c (is_accessible from c d (is_private_field (field_at p f))) (Some (found.Field f)) (each_some (field_at p f) (λ x. x.class ≡ d) (λ x. IsUnder p c x.class) (λ x same. subst (IsUnder p c) (sym same) under) listed)

from_nearest : (p : Program) → HasTypedMembers p → (from c : ClassId) (name : List ℕ) (o : Option ClassId) → find (declares_field p name) (super_classes p c) ≡ o → IsMemberOf p c (member_of_nearest p from c name o)
from_nearest p members from c name None e = tt
from_nearest p members from c name (Some d) e =
    let under = chain_under p (length p.classes.items) c d (find-among (declares_field p name) (super_classes p c) d e).0 in
    from_declared p members from c d name under (declared_field p name d) refl

pub field_named_law : (p : Program) → HasTypedMembers p → (from c : ClassId) (name : List ℕ) → IsMemberOf p c (field_named p from c name)
field_named_law p members from c name = from_nearest p members from c name (find (declares_field p name) (super_classes p c)) refl
