-- Programs that declare the same classes and methods, whatever their annotations and bodies are.
use Rattle.std.specs.Prelude.{◌≡◌, map}
use Rattle.std.specs.List.{AllZip}
use Rattle.program_model.specs.declared.program.Class.{Class}
use Rattle.program_model.specs.declared.program.Method.{Method}
use Rattle.program_model.specs.declared.program.Program.{Program}

-- what a class is, extends and declares
pub record IsSameClass (k j : Class) : Type 0 where
  pub place : k.pos ≡ j.pos
  pub library : k.library ≡ j.library
  pub interface : k.interface ≡ j.interface
  pub abstract : k.is_abstract ≡ j.is_abstract
  pub super_class : k.sup ≡ j.sup
  pub above : k.above.items ≡ j.above.items
  pub methods : k.methods.items ≡ j.methods.items

-- a method's head, without its annotations
pub record HasSameHead (m n : Method) : Type 0 where
  pub class' : m.class ≡ n.class
  pub name : m.name ≡ n.name
  pub kind : m.kind ≡ n.kind
  pub private : m.is_private ≡ n.is_private
  pub final : m.is_final ≡ n.is_final
  pub abstract : m.is_abstract ≡ n.is_abstract
  pub place : m.pos ≡ n.pos
  pub params : map (λ x. x.vtype) m.sig.params.items ≡ map (λ x. x.vtype) n.sig.params.items
  pub result : m.sig.result ≡ n.sig.result
  pub throws : m.sig.throws.items ≡ n.sig.throws.items

pub record HaveSameTables (p q : Program) : Type 0 where
  pub classes : AllZip IsSameClass p.classes.items q.classes.items
  pub methods : AllZip HasSameHead p.methods.items q.methods.items
  pub core : p.core ≡ q.core
