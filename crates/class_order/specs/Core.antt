-- The classes of `java.lang` that the language itself names (JLS 4.3.2, 11.1.1, 15.6).
use Rattle.std.specs.Prelude.{◌≡◌, Some, List, codes}
use Rattle.rlc_base.specs.declared.code.Code.TheVariants as refused
use Rattle.rlc_base.specs.declared.faults.Refusal.{Refusal}
use Rattle.program_model.specs.declared.program.CoreClasses.{CoreClasses}
use Rattle.refusal_order.specs.Refusals.{refused_at}
use Rattle.class_names.specs.declared.class_name.ClassName.{ClassName}
use Rattle.class_names.specs.ClassNames.{class_of_name}
use Rattle.class_order.specs.declared.core_library.Roots.{Roots}
use Rattle.class_order.specs.declared.core_library.OperatorExceptions.{OperatorExceptions}

-- the root of all classes, the type of string literals, and the roots of the exceptions, by their names
pub record AreRoots (classes : List ClassName) (k : Roots) : Type 0 where
  pub object : class_of_name classes (codes "java.lang.Object") ≡ Some k.object
  pub string : class_of_name classes (codes "java.lang.String") ≡ Some k.string
  pub throwable : class_of_name classes (codes "java.lang.Throwable") ≡ Some k.throwable
  pub error : class_of_name classes (codes "java.lang.Error") ≡ Some k.error
  pub runtime : class_of_name classes (codes "java.lang.RuntimeException") ≡ Some k.runtime

-- the exceptions that operators throw, by their names
pub record AreThrown (classes : List ClassName) (k : OperatorExceptions) : Type 0 where
  pub arithmetic : class_of_name classes (codes "java.lang.ArithmeticException") ≡ Some k.arithmetic
  pub array_index : class_of_name classes (codes "java.lang.ArrayIndexOutOfBoundsException") ≡ Some k.array_index
  pub class_cast : class_of_name classes (codes "java.lang.ClassCastException") ≡ Some k.class_cast
  pub negative_array_size : class_of_name classes (codes "java.lang.NegativeArraySizeException") ≡ Some k.negative_array_size
  pub null_pointer : class_of_name classes (codes "java.lang.NullPointerException") ≡ Some k.null_pointer

abbrev pub roots_of : CoreClasses → Roots
roots_of k = record { object = k.object; string = k.string; throwable = k.throwable; error = k.error; runtime = k.runtime_exception }

abbrev pub thrown_of : CoreClasses → OperatorExceptions
thrown_of k = record { arithmetic = k.arithmetic_exception; array_index = k.array_index_exception; class_cast = k.class_cast_exception; negative_array_size = k.negative_array_size_exception; null_pointer = k.null_pointer_exception }

-- all of them
pub record AreCore (classes : List ClassName) (k : CoreClasses) : Type 0 where
  pub roots : AreRoots classes (roots_of k)
  pub thrown : AreThrown classes (thrown_of k)

-- the refusal of a core library that lacks one of them: it has no place in its file
abbrev pub core_missing : Refusal
core_missing = refused_at refused.UnknownType (record { file = 0; line = 0; col = 0 })
