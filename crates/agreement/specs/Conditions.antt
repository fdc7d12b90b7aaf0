-- What every program of files has, and the laws on safety ask of a program in hand.
use Rattle.std.specs.Prelude.{◌≡◌, ◌⊎◌, Bool, true, false, not, ◌&&◌, Option, Some}
use Rattle.std.specs.List.{list_any}
use Rattle.program_model.specs.declared.kinds.ClassId.{ClassId}
use Rattle.program_model.specs.declared.kinds.FieldId.{FieldId}
use Rattle.program_model.specs.declared.kinds.MethodId.{MethodId}
use Rattle.program_model.specs.declared.kinds.MethodKind.TheVariants as methods
use Rattle.program_model.specs.declared.kinds.VType.{VType}
use Rattle.program_model.specs.declared.kinds.VType.TheVariants as types
use Rattle.program_model.specs.declared.program.Class.{Class}
use Rattle.program_model.specs.declared.program.Field.{Field}
use Rattle.program_model.specs.declared.program.Method.{Method}
use Rattle.program_model.specs.declared.program.Program.{Program}
use Rattle.program_model.specs.Lookups.{class_at, field_at, method_at}
use Rattle.program_model.specs.Overrides.{are_alike}
use Rattle.program_model.specs.SuperTests.{has_class, is_class, is_under}
use Rattle.must_call_sets.specs.AliasCases.{is_owning_in}
use Rattle.must_call_sets.specs.Bodies.{fields_in}
use Rattle.must_call_sets.specs.OwningCases.{type_at_some}
use Rattle.ownership_rules.specs.MustCallSets.{is_empty, must_of_optional}
use Rattle.place_laws.specs.AcceptedProgramsConditions.{HasWholeLibrary}
use Rattle.agreement.specs.LibraryClasses.{GivesLibraryClasses, HasLightTexts, ThrowsMadeClasses}
use Rattle.agreement.specs.PlainForms.{all_owe_nothing}
use Rattle.place_laws.specs.SuperArguments.{SuperCallsPassNoThis}

-- Where a class has two methods of one name and one parameter list, by itself or from above, and callers of the one, an instance method, own what something
-- must be called on, then something must be called on what the other gives, or on no object that it may give.
abbrev pub KeepsObligations : Program → Type 0
KeepsObligations p = (c : ClassId) (k : Class) (m r : MethodId) (n x : Method) → class_at p c ≡ Some k → has_class k.above.items n.class ≡ true → has_class k.above.items x.class ≡ true
    → method_at p m ≡ Some n → method_at p r ≡ Some x → are_alike x n ≡ true → n.kind ≡ methods.Instance → n.sig.owning_result ≡ true → is_empty (must_of_optional p x.sig.result) ≡ true
    → (is_empty (must_of_optional p n.sig.result) ≡ true) ⊎ (all_owe_nothing p x.sig.result ≡ true)

-- the class declares an owning field
abbrev pub declares_owning : Program → ClassId → Bool
declares_owning p d = list_any (λ f. is_owning_in (field_at p f)) (fields_in (class_at p d))

-- another class that is above it declares an owning field
abbrev pub stands_under_owner : Program → ClassId → Class → Bool
stands_under_owner p c k = list_any (λ d. not (is_class d c) && declares_owning p d) k.above.items

-- no class stands under another one that declares owning fields
abbrev pub OwnersStandAlone : Program → Type 0
OwnersStandAlone p = (c : ClassId) (k : Class) → class_at p c ≡ Some k → stands_under_owner p c k ≡ false

-- a text may stand where this is the type: it is `String`, or a class or interface above it
abbrev pub may_be_text : Program → Option VType → Bool
may_be_text p (Some types.Str) = true
may_be_text p (Some (types.Obj c)) = is_under p p.core.string c
may_be_text p t = false

-- the method creates anew the obligation of what may be a text
abbrev pub may_renew_text : Program → Method → Bool
may_renew_text p m = may_be_text p (type_at_some m.sig m.sig.reset)

-- the field may own a text, and some method may create its obligation anew
abbrev pub may_own_renewed_text : Program → Field → Bool
may_own_renewed_text p x = x.owning && (may_be_text p (Some x.vtype) && list_any (may_renew_text p) p.methods.items)

-- no owning field may hold a text, or no method creates the obligation of a text anew
abbrev pub OwnsNoRenewedText : Program → Type 0
OwnsNoRenewedText p = (f : FieldId) (x : Field) → field_at p f ≡ Some x → may_own_renewed_text p x ≡ false

-- The program has what the files of a program give it.
pub record MeetsFileConditions (p : Program) : Type 0 where
  -- all classes above one of the library are the library's
  pub library : HasWholeLibrary p
  -- what the library gives and throws is of its own classes
  pub given : GivesLibraryClasses p
  -- the exceptions that the language itself throws are of classes of which there may be objects
  pub exceptions : ThrowsMadeClasses p
  -- `String` is no class of exceptions (JLS 4.3.3, 11.1.1)
  pub texts : is_under p p.core.string p.core.throwable ≡ false
  -- objects of class `String` owe no calls, and are no aliases
  pub light_texts : HasLightTexts p
  -- what callers of an overridden method own asks for calls as its type says, or owes nothing
  pub results : KeepsObligations p
  -- a class with owning fields has no class under it but itself
  pub owners : OwnersStandAlone p
  -- no owning field may hold a text, or no method creates the obligation of a text anew
  pub text_fields : OwnsNoRenewedText p
  -- no argument of a super call refers to `this` (JLS 8.8.7.1)
  pub passes : SuperCallsPassNoThis p
