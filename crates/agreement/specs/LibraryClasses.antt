-- Of which classes the objects are that no `new` of the program makes.
use Rattle.std.specs.Prelude.{◌≡◌, ℕ, zero, Bool, true, false, not, ◌&&◌, ◌||◌, Option, Some, List, [], ◌∷◌}
use Rattle.std.specs.List.{All, list_any}
use Rattle.program_model.specs.declared.kinds.ClassId.{ClassId}
use Rattle.program_model.specs.declared.kinds.MethodId.{MethodId}
use Rattle.program_model.specs.declared.kinds.MethodKind.TheVariants as methods
use Rattle.program_model.specs.declared.kinds.VType.TheVariants as types
use Rattle.program_model.specs.declared.program.CoreClasses.{CoreClasses}
use Rattle.program_model.specs.declared.program.Method.{Method}
use Rattle.program_model.specs.declared.program.Program.{Program}
use Rattle.program_model.specs.Lookups.{class_at, method_at}
use Rattle.program_model.specs.Overrides.{is_library}
use Rattle.program_model.specs.SuperTests.{classes_above, is_class}
use Rattle.ownership_rules.specs.Bodies.{is_constructor_kind}
use Rattle.ownership_rules.specs.MustCallSets.{is_heavy_class}
use Rattle.ownership_rules.specs.Signatures.{is_present}
use Rattle.agreement.specs.PlainForms.{may_be_made}

-- What the library knows is its own: a result of one of its methods that is of a class, what their throws clauses list, and the classes of
-- objects as such and of texts (JLS 4.3.2, 4.3.3) are of the library's classes. Constants are declared by classes of the library alone: a static
-- field of the program is none.
pub record GivesLibraryClasses (p : Program) : Type 0 where
  pub results : (m : MethodId) (x : Method) (c : ClassId) → method_at p m ≡ Some x → is_library p x.class ≡ true → x.sig.result ≡ Some (types.Obj c) → is_library p c ≡ true
  pub throws : (m : MethodId) (x : Method) → method_at p m ≡ Some x → is_library p x.class ≡ true → All (λ c. is_library p c ≡ true) x.sig.throws.items
  pub constants : (m : MethodId) (x : Method) → method_at p m ≡ Some x → x.kind ≡ methods.Constant → is_library p x.class ≡ true
  pub object : is_library p p.core.object ≡ true
  pub string : is_library p p.core.string ≡ true

-- the roots of the exceptions that any call may throw (JLS 11.1.1), and the exceptions that operators throw (JLS 15.6)
abbrev pub language_exceptions : CoreClasses → List ClassId
language_exceptions k =
    k.error ∷ k.runtime_exception ∷ k.arithmetic_exception ∷ k.array_index_exception ∷ k.class_cast_exception ∷ k.negative_array_size_exception
    ∷ k.null_pointer_exception ∷ []

-- the exceptions that the language itself throws are of classes of which there may be objects
abbrev pub ThrowsMadeClasses : Program → Type 0
ThrowsMadeClasses p = All (λ c. may_be_made p c ≡ true) (language_exceptions p.core)

-- a constructor of `String` that makes an alias of an argument
abbrev pub makes_alias_text : Program → Method → Bool
makes_alias_text p m = is_constructor_kind m.kind && is_class m.class p.core.string && is_present m.sig.alias

-- the position is the receiver
abbrev pub is_receiver : Option ℕ → Bool
is_receiver (Some zero) = true
is_receiver k = false

-- a method of `String` that creates the obligation of its text anew
abbrev pub renews_own_text : Program → Method → Bool
renews_own_text p m = is_class m.class p.core.string && is_receiver m.sig.reset

-- a class or interface that is neither `String` nor `Object`
abbrev pub is_no_text_class : Program → ClassId → Bool
is_no_text_class p c = not (is_class c p.core.string || is_class c p.core.object)

-- Objects of class `String` owe no calls: neither `String` nor a class or interface above it has an obligation, of which there is none but `Object`,
-- no constructor of it makes an alias of an argument, and no method of it creates its obligation anew. (What says otherwise is a stub of the library.)
pub record HasLightTexts (p : Program) : Type 0 where
  pub classes : list_any (is_heavy_class p) (classes_above p.core.string (class_at p p.core.string)) ≡ false
  pub above : list_any (is_no_text_class p) (classes_above p.core.string (class_at p p.core.string)) ≡ false
  pub constructors : list_any (makes_alias_text p) p.methods.items ≡ false
  pub resets : list_any (renews_own_text p) p.methods.items ≡ false
