-- Which objects are linked to others.
use Rattle.std.specs.Prelude.{◌≡◌, ◌⊎◌, ℕ, Bool, true, Some}
use Rattle.program_model.specs.declared.kinds.ClassId.{ClassId}
use Rattle.program_model.specs.declared.kinds.MethodId.{MethodId}
use Rattle.program_model.specs.declared.kinds.VType.TheVariants as types
use Rattle.program_model.specs.declared.program.Method.{Method}
use Rattle.program_model.specs.declared.program.Program.{Program}
use Rattle.program_model.specs.Lookups.{method_at}
use Rattle.program_model.specs.Overrides.{is_library}
use Rattle.program_model.specs.SuperTests.{is_under}
use Rattle.ledger_obligations.specs.Bodies.{is_constructor_kind}
use Rattle.ledger_obligations.specs.MustCallSets.{is_heavy_class}
use Rattle.ownership_rules.specs.Signatures.{type_at}
use Rattle.ledger_state.specs.Contents.{HeapContents}
use Rattle.ledger_state.specs.Heaps.{object_at}
use Rattle.ledger_state.specs.declared.object.Link.{Link}
use Rattle.ledger_state.specs.declared.object.Object.{Object}
use Rattle.value_laws.specs.Objects.{object_class}

-- it gives objects of the class: a constructor those of its own, a method those of its result's or of one under it, which the library makes
abbrev pub GivesClass : Program → Method → ClassId → Type 0
GivesClass p m e = ((is_constructor_kind m.kind ≡ true) × (e ≡ m.class)) ⊎ ((c : ClassId) × (m.sig.result ≡ Some (types.Obj c)) × (is_heavy_class p c ≡ true) × ((e ≡ c) ⊎ (is_under p e c ≡ true)) × (is_library p e ≡ true))

-- some method or constructor gives objects of the class as aliases of an argument
pub record IsGivenAsAlias (p : Program) (e : ClassId) : Type 0 where
  pub number : MethodId
  pub method : Method
  pub at : method_at p number ≡ Some method
  pub position : ℕ
  pub alias : method.sig.alias ≡ Some position
  pub class : GivesClass p method e

-- some method or constructor gives aliases of an argument of the class
pub record IsAliased (p : Program) (e : ClassId) : Type 0 where
  pub number : MethodId
  pub method : Method
  pub at : method_at p number ≡ Some method
  pub position : ℕ
  pub alias : method.sig.alias ≡ Some position
  pub type : ClassId
  pub takes : type_at method.sig position ≡ Some (types.Obj type)
  pub under : is_under p e type ≡ true

-- Some method or constructor gives objects of the first class as aliases of an argument of the second one: one of the library, or a constructor of the
-- program, whose class it is then.
pub record IsAliasedAs (p : Program) (c : ClassId) (by_library : Bool) (e : ClassId) : Type 0 where
  pub argument : IsAliased p e
  pub class : GivesClass p argument.method c
  pub library : is_library p c ≡ by_library

-- each object that is linked to another one is of such a class, and is linked to one of such a class
abbrev pub LinksReachAliased : Program → HeapContents → Type 0
LinksReachAliased p h = (k : ℕ) (x : Object) (l : Link) → object_at h k ≡ Some x → x.link ≡ Some l → (e : ClassId) × (object_class h l.to ≡ Some e) × IsAliasedAs p x.class l.by_library e

-- each object that is linked to another one is of a class whose objects are given as aliases
abbrev pub LinkedAreAliases : Program → HeapContents → Type 0
LinkedAreAliases p h = (k : ℕ) (x : Object) (l : Link) → object_at h k ≡ Some x → x.link ≡ Some l → IsGivenAsAlias p x.class
