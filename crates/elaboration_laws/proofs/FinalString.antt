-- The class of strings as the typing of bodies asks for it, and whose bodies the source files have.
use Rattle.std.proofs.Common.{◌≡◌, List, [], ◌∷◌, Option, Some, None}
use Rattle.std.specs.List.{All}
use Rattle.std.proofs.lemmas.List.Elements.{All-append, All-cons, All-head, All-nil, All-tail}
use Rattle.java_syntax.specs.declared.declaration_trees.Unit as tree
use Rattle.java_syntax.specs.declared.settings.Settings.{Settings}
use Rattle.program_model.specs.declared.kinds.MethodId.{MethodId}
use Rattle.program_model.specs.declared.program.Method.{Method}
use Rattle.program_model.specs.declared.program.Program.{Program}
use Rattle.program_model.specs.Lookups.{method_at}
use Rattle.class_table.specs.ClassDeclarationsMembers.{Written}
use Rattle.class_table.specs.Passes.{IsBuilt, classes_of}
use Rattle.java_elaboration.specs.SourceClassesMembers.{Environment, numbered_methods}
use Rattle.java_elaboration.specs.SourceClasses.{SourceClass, source_classes}
use Rattle.java_elaboration.specs.Bodies.{SourceBody, WrittenBody, all_bodies, bodies_among, bodies_in, body_of, source_body}
use Rattle.java_typing_laws.specs.Tables.{HasFinalString}
use Rattle.elaboration_laws.proofs.LibraryString.{sources_are_not_string}
use Rattle.elaboration_laws.proofs.StringClass.{only_string, string_is_no_exception}

pub final_string : (units stubs : List tree.Unit) (settings : Settings) (p : Program) → IsBuilt (classes_of units stubs settings) settings p → HasFinalString p
final_string units stubs settings p built = record {
  final = only_string (classes_of units stubs settings) settings p built;
  no_exception = string_is_no_exception (classes_of units stubs settings) settings p built;
}

-- ---- bodies

-- what holds of a class holds of the class of each of its bodies
module _ (C : SourceClass → Type 0) where
  abbrev IsBodyOf : SourceBody → Type 0
  IsBodyOf b = C b.class'

  of_method : (c : SourceClass) → C c → (m : MethodId) (x : Option Method) (b : Option WrittenBody) → All IsBodyOf (source_body c m x b)
  of_method c h m None b = All-nil IsBodyOf
  of_method c h m (Some x) None = All-nil IsBodyOf
  of_method c h m (Some x) (Some b) = All-cons IsBodyOf (record { class' = c; method = m; signature = x; body = b }) [] h (All-nil IsBodyOf)

  of_methods : (e : Environment) (c : SourceClass) → C c → (ws : List (MethodId × Written)) → All IsBodyOf (bodies_among e c ws)
  of_methods e c h [] = All-nil IsBodyOf
  of_methods e c h (w ∷ ws) = All-append IsBodyOf (source_body c w.0 (method_at e.program w.0) (body_of w.1)) (bodies_among e c ws) (of_method c h w.0 (method_at e.program w.0) (body_of w.1)) (of_methods e c h ws)

  of_classes : (e : Environment) (cs : List SourceClass) → All C cs → All IsBodyOf (all_bodies e cs)
  of_classes e [] all = All-nil IsBodyOf
  of_classes e (c ∷ cs) all = All-append IsBodyOf (bodies_in e c) (all_bodies e cs) (of_methods e c (All-head C c cs all) (numbered_methods e c)) (of_classes e cs (All-tail C c cs all))

pub bodies_are_not_string : (units stubs : List tree.Unit) (settings : Settings) (e : Environment) → IsBuilt (classes_of units stubs settings) settings e.program → All (λ (b : SourceBody). b.class'.class' ≡ e.program.core.string → ⊥) (all_bodies e (source_classes e.program units))
bodies_are_not_string units stubs settings e built =
    of_classes (λ (c : SourceClass). c.class' ≡ e.program.core.string → ⊥) e (source_classes e.program units) (sources_are_not_string units stubs settings e.program built)
