-- The class of strings is one of the library, which come first, and so none of the source files.
use Rattle.std.proofs.Common.{◌≡◌, ◌∙◌, sym, ap, arith, ℕ, zero, suc, ◌+◌, ◌<◌, ◌≤◌, true, false, true≢false, Some, None, List, [], ◌∷◌, ◌++◌, length}
use Rattle.std.specs.Prelude.{slice_get}
use Rattle.std.specs.List.{All}
use Rattle.std.proofs.lemmas.List.{length-map}
use Rattle.std.proofs.lemmas.List.Elements.{All-cons, All-nil, All-weaker}
use Rattle.std.proofs.lemmas.Option.{same_Some}
use Rattle.java_syntax.specs.declared.declaration_trees.Unit as tree
use Rattle.java_syntax.specs.declared.settings.Settings.{Settings}
use Rattle.program_model.specs.declared.kinds.ClassId.{ClassId}
use Rattle.program_model.specs.declared.program.Class.{Class}
use Rattle.program_model.specs.declared.program.Program.{Program}
use Rattle.class_names.specs.ClassNames.{class_number}
use Rattle.class_table.specs.ClassOrderDeclarations.{Declaration, declared_from, name_of}
use Rattle.class_table.specs.ClassOrderDeclarations as order
use Rattle.class_table.specs.Passes.{IsBuilt, classes_of}
use Rattle.java_elaboration.specs.SourceClasses.{SourceClass, declarations, library_classes, numbered_from, source_classes}
use Rattle.elaboration_laws.proofs.DeclaredNames.{Each, IsOf, units_are_of}
use Rattle.elaboration_laws.proofs.StringClass.{string_declared}
use Rattle.elaboration_laws.proofs.TableNames.{library_names_are}

none_of_library : (ds : List Declaration) (n : ℕ) (d : Declaration) → Each (IsOf false) ds → slice_get ds n ≡ Some d → d.unit.library ≡ true → ⊥
none_of_library [] n d all at is = let never : None ≡ Some d = at in cc
none_of_library (x ∷ xs) zero d all at is = true≢false (sym is ∙ ap (λ (y : Declaration). y.unit.library) (sym (same_Some x d at)) ∙ all.0)
none_of_library (x ∷ xs) (suc n) d all at is = none_of_library xs n d all.1 at is

-- a class of the library stands in front of those that are none
stands_in_front : (ks ds : List Declaration) (n : ℕ) (d : Declaration) → Each (IsOf false) ds → slice_get (ks ++ ds) n ≡ Some d → d.unit.library ≡ true → n < length ks
stands_in_front [] ds n d others at is = absurd (none_of_library ds n d others at is)
stands_in_front (k ∷ ks) ds zero d others at is = omega arith
stands_in_front (k ∷ ks) ds (suc n) d others at is = let rest = stands_in_front ks ds n d others at is in omega (arith, rest)

pub string_in_library : (units stubs : List tree.Unit) (settings : Settings) (p : Program) → IsBuilt (classes_of units stubs settings) settings p → p.core.string.0 < length (library_classes p)
string_in_library units stubs settings p built =
    let kept : List Declaration = order.library_classes settings.core (declared_from 0 true stubs) in
    let own : List Declaration = declared_from (length stubs) false units in
    let d = string_declared (kept ++ own) settings p built in
    let front : p.core.string.0 < length kept = stands_in_front kept own p.core.string.0 d.0 (units_are_of (length stubs) false units) d.1 d.2.library in
    let count : length (library_classes p) ≡ length kept =
    sym (length-map (library_classes p) (λ (k : Class). k.name)) ∙ ap length (library_names_are units stubs settings p built.table) ∙ length-map kept name_of in
    omega (arith, front, count)

-- ---- the classes of the source files

abbrev IsBehind : ℕ → SourceClass → Type 0
IsBehind first c = first ≤ c.class'.0

numbered_behind : (first : ℕ) (ds : List Declaration) → All (IsBehind first) (numbered_from first ds)
numbered_behind first [] = All-nil (IsBehind first)
numbered_behind first (d ∷ ds) =
    All-cons (IsBehind first) (record { class' = class_number first; declaration = d }) (numbered_from (first + 1) ds) (omega arith)
    (All-weaker (IsBehind (first + 1)) (IsBehind first) (λ c h. omega (arith, h)) (numbered_from (first + 1) ds) (numbered_behind (first + 1) ds))

pub sources_are_not_string : (units stubs : List tree.Unit) (settings : Settings) (p : Program) → IsBuilt (classes_of units stubs settings) settings p → All (λ (c : SourceClass). c.class' ≡ p.core.string → ⊥) (source_classes p units)
sources_are_not_string units stubs settings p built =
    let first : ℕ = length (library_classes p) in
    let front : p.core.string.0 < first = string_in_library units stubs settings p built in
    All-weaker (IsBehind first) (λ (c : SourceClass). c.class' ≡ p.core.string → ⊥)
    (λ c behind same. (let number : c.class'.0 ≡ p.core.string.0 = ap (λ (x : ClassId). x.0) same in omega (arith, behind, front, number)))
    (numbered_from first (declarations units)) (numbered_behind first (declarations units))
