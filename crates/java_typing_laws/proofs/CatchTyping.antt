-- The alternatives of a catch clause in which nothing is refused are classes of exceptions, and its parameter has a type that
-- values of all of them may be stored in.
use Rattle.std.proofs.Common.{◌≡◌, ◌∙◌, ◌&&◌, ◌<◌, inr, Bool, true, false, cond, not, Option, Some, None, List, [], ◌∷◌, ◌++◌, All, length, find, option_map, refl, sym, subst, ap, arith, eq-eqb, true≢false}
use Rattle.std.specs.Option.{is_some}
use Rattle.std.proofs.lemmas.Bool.{and_parts}
use Rattle.std.proofs.lemmas.List.Elements.{All-cons, All-head, All-nil, All-tail}
use Rattle.rlc_base.specs.declared.place.Pos.{Pos}
use Rattle.program_model.specs.declared.kinds.ClassId.{ClassId}
use Rattle.program_model.specs.declared.kinds.VType.{VType}
use Rattle.program_model.specs.declared.kinds.VType.TheVariants as types
use Rattle.program_model.specs.declared.program.Program.{Program}
use Rattle.program_model.specs.Hierarchy.{HasClass, IsHierarchy, IsUnder, above, itself}
use Rattle.program_model.specs.Lookups.{class_at, optional}
use Rattle.program_model.specs.SuperTests.{classes_above, is_class, is_under}
use Rattle.program_model.specs.Typing.{IsAssignable, IsDeclarable}
use Rattle.program_model.proofs.HierarchyLaws.{is_under_law}
use Rattle.java_syntax.specs.declared.names.Name.{Name}
use Rattle.class_members.proofs.Elements.{find-among}
use Rattle.java_conversions.specs.Casts.{is_interface}
use Rattle.java_conversions.specs.Conditionals.{is_minimal, is_minimal_class, is_shared, least_among, least_of_classes, least_upper_bound, or_else}
use Rattle.java_conversions.specs.Types.{type_of_class}
use Rattle.java_call_rules.specs.WrittenTypes.{class_of_name, unknown_name_cases}
use Rattle.java_call_rules.specs.Surroundings.{Surroundings}
use Rattle.java_statement_parts.proofs.Goodness.{cons_is_nil, nil_left, nil_right}
use Rattle.java_statement_rules.specs.CatchClauses.{alternative_cases, alternatives_cases, are_apart, caught_class, caught_classes, classes_named, each_alternative_cases, exception_cases, has_alternative, if_exception, is_exception_class, joined_class, joined_classes, parameter_type}
use Rattle.java_statement_rules.specs.StatementCases.{unless}
use Rattle.java_typing_laws.proofs.Parts.{holds}
use Rattle.java_typing_laws.specs.TypingContexts.{HasTypedMembers}
use Rattle.java_typing_laws.proofs.Conversions.{is_class_law}
use Rattle.java_typing_laws.specs.Scopes.{HasDeclarableTypes}

-- ---- super types

pub under_trans : (p : Program) (a b c : ClassId) → IsUnder p a b → IsUnder p b c → IsUnder p a c
under_trans p a b c (itself same) g = g
under_trans p a b c (above d e f direct rest) g = above d e c direct (under_trans p e f c rest g)

pub under_has_class : (p : Program) → IsHierarchy p → (a b : ClassId) → HasClass p a → IsUnder p a b → HasClass p b
under_has_class p hierarchy a b has (itself same) = has
under_has_class p hierarchy a b has (above d e f direct rest) = under_has_class p hierarchy e f ((hierarchy.supers d direct.0 direct.1).known e direct) rest

-- the least class of two is above both
either_found : (p : Program) (a b : ClassId) (x y : Option ClassId) (c : ClassId) → (x ≡ Some c → is_shared p a b c ≡ true) → (y ≡ Some c → is_shared p a b c ≡ true) → or_else x y ≡ Some c → is_shared p a b c ≡ true
either_found p a b None y c h g e = g e
either_found p a b (Some d) y c h g e = h e

minimal_is_shared : (p : Program) (a b : ClassId) (all : List ClassId) (c : ClassId) → is_minimal p a b all c ≡ true → is_shared p a b c ≡ true
minimal_is_shared p a b all c h = (and_parts (is_shared p a b c) _ h).0

least_is_shared : (p : Program) (a b : ClassId) (all : List ClassId) (c : ClassId) → least_among p a b all ≡ Some c → is_shared p a b c ≡ true
least_is_shared p a b all c h =
    either_found p a b (find (λ d. is_minimal_class p a b all d) all) (find (λ d. is_minimal p a b all d) all) c
    (λ e. minimal_is_shared p a b all c (and_parts (not (is_interface p c)) (is_minimal p a b all c) (find-among (λ d. is_minimal_class p a b all d) all c e).1).1)
    (λ e. minimal_is_shared p a b all c (find-among (λ d. is_minimal p a b all d) all c e).1)
    h

-- ---- the type of a class

pub declarable_class : (p : Program) (c : ClassId) → HasClass p c → (b : Bool) → is_class c p.core.string ≡ b → IsDeclarable p (cond b types.Str (types.Obj c))
declarable_class p c has true e = tt
declarable_class p c has false e = (has, λ same. true≢false (sym (eq-eqb c.0 p.core.string.0 (ap (λ (x : ClassId). x.0) same)) ∙ e))

-- exceptions of each class under `c` may be stored in a variable of the type
abbrev TakesUnder : Program → ClassId → VType → Type 0
TakesUnder p c t = (d : ClassId) → IsUnder p d c → IsUnder p d p.core.throwable → IsAssignable p (types.Obj d) t

takes_class : (p : Program) → HasTypedMembers p → (IsUnder p p.core.string p.core.throwable → ⊥) → (c : ClassId) (b : Bool) → is_class c p.core.string ≡ b → TakesUnder p c (cond b types.Str (types.Obj c))
takes_class p members string c true e d under exception =
    let last : d ≡ p.core.string = members.final_string d (subst (IsUnder p d) (is_class_law c p.core.string e) under) in
    let P : ClassId → Type 0 = λ x. IsUnder p x p.core.throwable in
    absurd (string (subst P last exception))
takes_class p members string c false e d under exception = inr under

joins_as : (p : Program) (c d : ClassId) (b : Bool) → (b ≡ true → c ≡ p.core.string) → least_upper_bound p (cond b types.Str (types.Obj c)) (types.Obj d) ≡ least_of_classes p (Some c) (Some d)
joins_as p c d true same = ap (λ (x : ClassId). least_of_classes p (Some x) (Some d)) (sym (same refl))
joins_as p c d false same = refl

type_joins : (p : Program) (c d : ClassId) → least_upper_bound p (type_of_class p c) (types.Obj d) ≡ least_of_classes p (Some c) (Some d)
type_joins p c d = joins_as p c d (is_class c p.core.string) (λ yes. is_class_law c p.core.string yes)

-- ---- one alternative

-- the name means a class of exceptions
record IsException (p : Program) (c : Option ClassId) : Type 0 where
  class' : ClassId
  named : c ≡ Some class'
  is : if_exception p c ≡ Some class'
  test : is_exception_class p class' ≡ true

exception_of : (p : Program) (c : Option ClassId) (place at : Pos) → unknown_name_cases (is_some c) at ++ exception_cases p place c ≡ [] → IsException p c
exception_of p None place at none = absurd (cons_is_nil _ _ none)
exception_of p (Some c) place at none =
    let test = holds (is_exception_class p c) place (nil_right (unknown_name_cases true at) (exception_cases p place (Some c)) none) in
    record { class' = c; named = refl; is = ap (λ b. cond b (Some c) None) test; test = test }

abbrev HasTypes : Surroundings → Type 0
HasTypes s = HasDeclarableTypes s.context.program s.classes s.unit

caught : (s : Surroundings) (place : Pos) (n : Name) (ns : List Name) → each_alternative_cases s place (n ∷ ns) ≡ [] → IsException s.context.program (class_of_name s n.text)
caught s place n ns none = exception_of s.context.program (class_of_name s n.text) place n.pos (nil_left (alternative_cases s place n) (each_alternative_cases s place ns) none)

-- ---- all alternatives

abbrev IsBelow : Program → ClassId → ClassId → Type 0
IsBelow p c d = HasClass p d × IsUnder p d p.core.throwable × IsUnder p d c

-- beginning with the type `t` of the class `c`, the alternatives have a class above all of them
record AreJoined (s : Surroundings) (c : ClassId) (t : VType) (names : List Name) : Type 0 where
  class' : ClassId
  vtype : VType
  is : joined_classes s.context.program (Some t) (caught_classes s names) ≡ Some vtype
  takes : TakesUnder s.context.program class' vtype
  declarable : IsDeclarable s.context.program vtype
  below : IsUnder s.context.program c class'
  each : All (IsBelow s.context.program class') (classes_named s names)

joined : (s : Surroundings) → HasTypes s → (place : Pos) (c : ClassId) (t : VType) → HasClass s.context.program c → TakesUnder s.context.program c t → IsDeclarable s.context.program t → ((d : ClassId) → least_upper_bound s.context.program t (types.Obj d) ≡ least_of_classes s.context.program (Some c) (Some d)) → is_under s.context.program c s.context.program.core.object ≡ true → (names : List Name) → each_alternative_cases s place names ≡ [] → AreJoined s c t names
joined s h place c t has takes declarable joins object [] none = record { class' = c; vtype = t; is = refl; takes = takes; declarable = declarable; below = itself c; each = All-nil (IsBelow s.context.program c) }
joined s h place c t has takes declarable joins object (n ∷ ns) none =
    let p : Program = s.context.program in
    let k = caught s place n ns none in
    let d : ClassId = k.class' in
    let least = h.exceptions.least c d object (h.exceptions.exceptions d k.test) in
    let l : ClassId = least.0 in
    let shared = and_parts (is_under p c l) (is_under p d l) (least_is_shared p c d (classes_above c (class_at p c)) l least.1) in
    let above_first : IsUnder p c l = (is_under_law p h.members.hierarchy c l).0 shared.0 in
    let above_second : IsUnder p d l = (is_under_law p h.members.hierarchy d l).0 shared.1 in
    let is : joined_class p (Some t) (caught_class s n) ≡ Some (type_of_class p l) = ap (λ (x : Option ClassId). joined_class p (Some t) x) k.is ∙ joins d ∙ ap (λ (x : Option ClassId). option_map (type_of_class p) x) least.1 in
    let has_l : HasClass p l = under_has_class p h.members.hierarchy c l has above_first in
    let rest = joined s h place l (type_of_class p l) has_l (takes_class p h.members h.string l (is_class l p.core.string) refl) (declarable_class p l has_l (is_class l p.core.string) refl) (λ e. type_joins p l e) least.2 ns (nil_right (alternative_cases s place n) (each_alternative_cases s place ns) none) in
    let here : IsBelow p rest.class' d = (h.named n.text d k.named, (is_under_law p h.members.hierarchy d p.core.throwable).0 k.test, under_trans p d l rest.class' above_second rest.below) in
    record {
      class' = rest.class';
      vtype = rest.vtype;
      is = ap (λ (x : Option VType). joined_classes p x (caught_classes s ns)) is ∙ rest.is;
      takes = rest.takes;
      declarable = rest.declarable;
      below = under_trans p c l rest.class' above_first rest.below;
      each = subst (λ (x : Option ClassId). All (IsBelow p rest.class') (optional x ++ classes_named s ns)) (sym k.is) (All-cons (IsBelow p rest.class') d (classes_named s ns) here rest.each);
    }

-- ---- the parameter

abbrev pub IsCaughtIn : Program → VType → ClassId → Type 0
IsCaughtIn p t d = HasClass p d × IsUnder p d p.core.throwable × IsAssignable p (types.Obj d) t

pub record IsParameter (s : Surroundings) (names : List Name) : Type 0 where
  pub vtype : VType
  pub is : parameter_type s names ≡ Some vtype
  pub declarable : IsDeclarable s.context.program vtype
  pub some : 0 < length (classes_named s names)
  pub each : All (IsCaughtIn s.context.program vtype) (classes_named s names)

all_stored : (p : Program) (c : ClassId) (t : VType) → TakesUnder p c t → (ds : List ClassId) → All (IsBelow p c) ds → All (IsCaughtIn p t) ds
all_stored p c t takes [] h = All-nil (IsCaughtIn p t)
all_stored p c t takes (d ∷ ds) h =
    let first = All-head (IsBelow p c) d ds h in
    All-cons (IsCaughtIn p t) d ds (first.0, first.1, takes d first.2 first.1) (all_stored p c t takes ds (All-tail (IsBelow p c) d ds h))

more_than_none : (d : ClassId) (ds : List ClassId) → 0 < length (d ∷ ds)
more_than_none d ds = omega arith

pub parameter_typed : (s : Surroundings) → HasDeclarableTypes s.context.program s.classes s.unit → (place : Pos) (names : List Name) → alternatives_cases s place names ≡ [] → IsParameter s names
parameter_typed s h place [] none = absurd (cons_is_nil _ _ none)
parameter_typed s h place (n ∷ ns) none =
    let p : Program = s.context.program in
    let each_none = nil_right (unless (has_alternative (n ∷ ns) && are_apart s (n ∷ ns)) place) (each_alternative_cases s place (n ∷ ns)) none in
    let k = caught s place n ns each_none in
    let d : ClassId = k.class' in
    let has : HasClass p d = h.named n.text d k.named in
    let under : IsUnder p d p.core.throwable = (is_under_law p h.members.hierarchy d p.core.throwable).0 k.test in
    let P : ClassId → Type 0 = λ x. IsUnder p x p.core.throwable in
    let r = joined s h place d (types.Obj d) has (λ e under_e exception. inr under_e) (has, λ same. h.string (subst P same under)) (λ e. refl) (h.exceptions.exceptions d k.test) ns (nil_right (alternative_cases s place n) (each_alternative_cases s place ns) each_none) in
    let first : IsBelow p r.class' d = (has, under, r.below) in
    let all = all_stored p r.class' r.vtype r.takes (d ∷ classes_named s ns) (All-cons (IsBelow p r.class') d (classes_named s ns) first r.each) in
    record {
      vtype = r.vtype;
      is = ap (λ (x : Option ClassId). joined_classes p (option_map types.Obj x) (caught_classes s ns)) k.is ∙ r.is;
      declarable = r.declarable;
      some = subst (λ (x : Option ClassId). 0 < length (optional x ++ classes_named s ns)) (sym k.is) (more_than_none d (classes_named s ns));
      each = subst (λ (x : Option ClassId). All (IsCaughtIn p r.vtype) (optional x ++ classes_named s ns)) (sym k.is) all;
    }
