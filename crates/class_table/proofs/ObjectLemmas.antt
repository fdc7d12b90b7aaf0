-- `Object` extends nothing, since all classes stand under it (JLS 8.1.4), and what else a header shows of a class.
use Rattle.std.proofs.Common.{◌≡◌, ◌∙◌, sym, ap, refl, subst, arith, ℕ, zero, suc, ◌≤◌, ◌&&◌, ◌||◌, Bool, true, false, cond, not, Option, Some, None, List, [], ◌∷◌, ◌++◌, length}
use Rattle.std.specs.Prelude.{slice_get, Contains, IsSome, is_some}
use Rattle.std.proofs.lemmas.Bool.{eqb-true}
use Rattle.std.proofs.lemmas.List.Elements.{Contains-append_left, Contains-append_right, All-head}
use Rattle.rlc_base.specs.declared.code.Code.TheVariants as refused
use Rattle.java_syntax.specs.declared.names.Name.{Name}
use Rattle.java_syntax.specs.declared.settings.Settings.{Settings}
use Rattle.program_model.specs.declared.kinds.ClassId.{ClassId}
use Rattle.program_model.specs.declared.program.Class.{Class}
use Rattle.program_model.specs.declared.program.Program.{Program}
use Rattle.program_model.specs.Hierarchy.{IsHierarchy, IsDirectSuper, IsUnder, above, implied_super, itself}
use Rattle.program_model.specs.Lookups.{class_at, optional}
use Rattle.program_model.specs.SuperTests.{is_class}
use Rattle.program_model.specs.Validity.{IsValidClass}
use Rattle.class_order.specs.Cases.{IsLeast}
use Rattle.class_order.specs.Declarations.{Declaration, class_names, place_of}
use Rattle.class_order.specs.UnknownNames.{unknown_names, unknown_supers}
use Rattle.class_headers.specs.SuperTypes.{class_named, implied_class, super_class}
use Rattle.class_checks.specs.TypeCases.{IsTypeCase, unknown_in_members}
use Rattle.super_obligations.specs.SuperPass.{IsSuperCase}
use Rattle.class_table.specs.Table.{IsTable}
use Rattle.class_table.proofs.KnownLemmas.{known_names, none_left, where_none}
use Rattle.class_table.proofs.NoCases.{no_class_above, no_type_case}
use Rattle.class_table.proofs.Rising.{fewer_above}
use Rattle.class_table.proofs.TableFacts.{IsDeclared, declared_class, some_at}

pub some_of : {A : Type 0} (o : Option A) → IsSome o → (x : A) × (o ≡ Some x)
some_of (Some x) is = (x, refl)
some_of None is = let never : false ≡ true = is in cc

-- the name of a super class means a class
super_named : (order : List Declaration) (n : ℕ) (d : Declaration) (x : Name) → IsLeast (IsTypeCase order) None → slice_get order n ≡ Some d → d.class_tree.superclass ≡ Some x → (e : ClassId) × (class_named (class_names order) d.unit x ≡ Some e)
super_named order n d x none at is =
    let classes = class_names order in
    let supers = none_left (unknown_supers classes d) (unknown_in_members classes d.unit d.class_tree.members.items) (no_type_case order n d none at) in
    let N : Option Name → Type 0 = λ o. unknown_names classes d.unit (optional o ++ d.class_tree.interfaces.items) ≡ [] in
    let all = known_names classes d.unit (x ∷ d.class_tree.interfaces.items) (subst N is supers) in
    some_of (class_named classes d.unit x) (All-head (λ (y : Name). IsSome (class_named classes d.unit y)) x d.class_tree.interfaces.items all)

-- ---- all classes stand under `Object`

direct_super : (p : Program) (c e : ClassId) (k : Class) → class_at p c ≡ Some k → k.sup ≡ Some e → IsDirectSuper p c e
direct_super p c e k at is =
    let C : Option ClassId → Type 0 = λ o. Contains (optional o) e in
    (k, at, Contains-append_left (optional k.sup ++ k.faces.items) (implied_super p k.interface) e (Contains-append_left (optional k.sup) k.faces.items e (subst C (sym is) (0, (omega arith), refl))))

implied_direct : (p : Program) (c : ClassId) (k : Class) → class_at p c ≡ Some k → k.interface ≡ true → IsDirectSuper p c p.core.object
implied_direct p c k at is =
    let C : Bool → Type 0 = λ b. Contains (implied_super p b) p.core.object in
    (k, at, Contains-append_right (optional k.sup ++ k.faces.items) (implied_super p k.interface) p.core.object (subst C (sym is) (0, (omega arith), refl)))

implied_under : (p : Program) (c : ClassId) (k : Class) (interface same : Bool) → class_at p c ≡ Some k → k.interface ≡ interface → is_class c p.core.object ≡ same → k.sup ≡ implied_class p.core.object c interface → IsUnder p c p.core.object
implied_under p c k true same at is equal sup = above c p.core.object p.core.object (implied_direct p c k at is) (itself p.core.object)
implied_under p c k false true at is equal sup =
    let number = eqb-true c.0 p.core.object.0 equal in
    let whole : p.core.object ≡ c = λ i. record { 0 = sym number i } in
    let U : ClassId → Type 0 = λ d. IsUnder p d p.core.object in
    subst U whole (itself p.core.object)
implied_under p c k false false at is equal sup =
    let S : Bool → Type 0 = λ b. k.sup ≡ cond b None (Some p.core.object) in
    let extends : k.sup ≡ Some p.core.object = subst S equal sup in
    above c p.core.object p.core.object (direct_super p c p.core.object k at extends) (itself p.core.object)

-- the classes with so few above them stand under `Object`
abbrev AreUnder : Program → ℕ → Type 0
AreUnder p m = (c : ClassId) (k : Class) → class_at p c ≡ Some k → length k.above.items ≤ m → IsUnder p c p.core.object

class_of_super : (p : Program) → IsHierarchy p → (c e : ClassId) (k : Class) → class_at p c ≡ Some k → IsDirectSuper p c e → (x : Class) × (class_at p e ≡ Some x)
class_of_super p hierarchy c e k at direct = some_at p.classes.items e.0 ((hierarchy.supers c k at).known e direct)

under_step : (order : List Declaration) (p : Program) (m : ℕ) → IsHierarchy p → IsLeast (IsTypeCase order) None → (c : ClassId) (k : Class) → class_at p c ≡ Some k → (d : IsDeclared order p c k) (o : Option Name) → d.declaration.class_tree.superclass ≡ o
    → AreUnder p m → length k.above.items ≤ suc m → IsUnder p c p.core.object
under_step order p m hierarchy types c k at d None is rest few =
    let S : Option Name → Type 0 = λ o. k.sup ≡ super_class (class_names order) p.core.object c d.declaration o in
    implied_under p c k d.declaration.class_tree.is_interface (is_class c p.core.object) at (ap (λ h. h.is_interface) d.header) refl (subst S is (ap (λ h. h.super_class) d.header))
under_step order p m hierarchy types c k at d (Some x) is rest few =
    let S : Option Name → Type 0 = λ o. k.sup ≡ super_class (class_names order) p.core.object c d.declaration o in
    let e = super_named order c.0 d.declaration x types d.at is in
    let direct = direct_super p c e.0 k at (subst S is (ap (λ h. h.super_class) d.header) ∙ e.1) in
    let j = class_of_super p hierarchy c e.0 k at direct in
    let less = fewer_above p c e.0 k j.0 hierarchy at j.1 direct in
    above c e.0 p.core.object direct (rest e.0 j.0 j.1 (omega arith))

all_under : (order : List Declaration) (settings : Settings) (p : Program) → IsTable order settings p → IsHierarchy p → IsLeast (IsTypeCase order) None → (m : ℕ) → AreUnder p m
all_under order settings p t hierarchy types zero c k at few =
    let own = ((hierarchy.supers c k at).above.exact c).1 (itself c) in
    absurd (let some = own.1 in omega arith)
all_under order settings p t hierarchy types (suc m) c k at few =
    let d = declared_class order settings p t c k at in
    under_step order p m hierarchy types c k at d d.declaration.class_tree.superclass refl (all_under order settings p t hierarchy types m) few

object_extends : (order : List Declaration) (settings : Settings) (p : Program) → IsTable order settings p → IsHierarchy p → IsLeast (IsTypeCase order) None → (c e : ClassId) (k : Class) → class_at p c ≡ Some k → k.sup ≡ Some e → is_class c p.core.object ≡ true → ⊥
object_extends order settings p t hierarchy types c e k at sup same =
    let direct = direct_super p c e k at sup in
    let j = class_of_super p hierarchy c e k at direct in
    let number = eqb-true c.0 p.core.object.0 same in
    let whole : p.core.object ≡ c = λ i. record { 0 = sym number i } in
    let U : ClassId → Type 0 = IsUnder p e in
    (hierarchy.supers c k at).acyclic e direct (subst U whole (all_under order settings p t hierarchy types (length j.0.above.items) e j.0 j.1 (omega arith)))

-- ---- what a header shows

implied_is : (object c : ClassId) (interface : Bool) → is_some (implied_class object c interface) ≡ not (interface || is_class c object)
implied_is object c true = refl
implied_is object c false = by (is_class c object)
  where
    by : (b : Bool) → is_some (cond b None (Some object)) ≡ not (false || b)
    by true = refl
    by false = refl

and_some : (a : Bool) → (a && true) ≡ false → a ≡ false
and_some true is = is
and_some false is = refl

not_true : (b : Bool) → (b ≡ true → ⊥) → b ≡ false
not_true true h = absurd (h refl)
not_true false h = refl

no_interface : (d : Declaration) (x : Name) → d.class_tree.superclass ≡ Some x → (d.class_tree.is_interface && is_some d.class_tree.superclass) ≡ false → d.class_tree.is_interface ≡ false
no_interface d x is none = and_some d.class_tree.is_interface (ap (λ o. d.class_tree.is_interface && is_some o) (sym is) ∙ none)

super_by : (order : List Declaration) (settings : Settings) (p : Program) → IsTable order settings p → IsHierarchy p → IsLeast (IsTypeCase order) None → IsLeast (IsSuperCase order p.core) None → (c : ClassId) (k : Class) → class_at p c ≡ Some k
    → (d : IsDeclared order p c k) (o : Option Name) → d.declaration.class_tree.superclass ≡ o → is_some k.sup ≡ not (d.declaration.class_tree.is_interface || is_class c p.core.object)
super_by order settings p t hierarchy types supers c k at d None is =
    let S : Option Name → Type 0 = λ o. k.sup ≡ super_class (class_names order) p.core.object c d.declaration o in
    ap is_some (subst S is (ap (λ h. h.super_class) d.header)) ∙ implied_is p.core.object c d.declaration.class_tree.is_interface
super_by order settings p t hierarchy types supers c k at d (Some x) is =
    let S : Option Name → Type 0 = λ o. k.sup ≡ super_class (class_names order) p.core.object c d.declaration o in
    let e = super_named order c.0 d.declaration x types d.at is in
    let extends = subst S is (ap (λ h. h.super_class) d.header) ∙ e.1 in
    let extended = where_none (d.declaration.class_tree.is_interface && is_some d.declaration.class_tree.superclass) refused.BadSuper (place_of d.declaration) (no_class_above order p.core c.0 d.declaration supers d.at) in
    let class' = no_interface d.declaration x is extended in
    let other = not_true (is_class c p.core.object) (object_extends order settings p t hierarchy types c e.0 k at extends) in
    ap is_some extends ∙ (λ j. not (sym class' j || sym other j))

interface_abstract : (interface abstract' : Bool) → interface ≡ true → (interface || abstract') ≡ true
interface_abstract true abstract' is = refl
interface_abstract false abstract' is = cc

pub valid_class : (order : List Declaration) (settings : Settings) (p : Program) → IsTable order settings p → IsHierarchy p → IsLeast (IsTypeCase order) None → IsLeast (IsSuperCase order p.core) None → (c : ClassId) (k : Class) → class_at p c ≡ Some k → IsValidClass p c k
valid_class order settings p t hierarchy types supers c k at =
    let d = declared_class order settings p t c k at in
    let interface = ap (λ h. h.is_interface) d.header in
    record {
      super_class = super_by order settings p t hierarchy types supers c k at d d.declaration.class_tree.superclass refl ∙ (λ j. not (sym interface j || is_class c p.core.object));
      abstract = λ is. ap (λ h. h.is_abstract) d.header ∙ interface_abstract d.declaration.class_tree.is_interface _ (sym interface ∙ is);
    }
