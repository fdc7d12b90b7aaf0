-- Items whose actions name what is there, also in the lists that they hold.
use Rattle.std.proofs.Common.{◌≡◌, ℕ, ◌-◌, ◌<◌, true, false, Option, Some, None, List, [], ◌∷◌, ◌++◌, All, IsSomeAnd, length, reverse, flat_map, refl, sym, ap, ◌∙◌, subst, arith}
use Rattle.std.proofs.lemmas.List.{get_or-reverse, length-reverse}
use Rattle.std.proofs.lemmas.List.Elements.{All-head, All-tail}
use Rattle.std.proofs.lemmas.Option.{slice_get_within}
use Rattle.program_model.specs.declared.kinds.MethodKind.{MethodKind}
use Rattle.program_model.specs.declared.kinds.MethodKind.TheVariants as methods
use Rattle.program_model.specs.declared.kinds.VType.{VType}
use Rattle.program_model.specs.declared.program.Method.{Method}
use Rattle.program_model.specs.declared.program.Program.{Program}
use Rattle.program_model.specs.declared.tree.Body.{Body}
use Rattle.program_model.specs.declared.tree.Var.{Var}
use Rattle.program_model.specs.Lookups.{method_at, type_of_variable, variable_at, variable_type}
use Rattle.accepted_programs.specs.Bodies.{constructs, is_constructor_kind}
use Rattle.java_control.specs.Remaining.{Todo, Todos, nil, cons, todos, Do, Ev, Act, Cond, NullFork, BoolFork, LoopEnd, For, Leave, Catch, Fin, Close, Finish, Supp, Out, Ended}
use Rattle.control_actions.specs.declared.action.Action.{Action}
use Rattle.step_laws.specs.Naming.{HasTargetIn, IsOfItsKind}

abbrev pub NamesWell : Program → Body → Action → Type 0
NamesWell p b a = HasTargetIn b a × IsOfItsKind p a

abbrev mutual
  pub IsGood : Program → Body → Todo → Type 0
  IsGood p b (Act a pos) = NamesWell p b a
  IsGood p b (Cond c d x y) = AreGood p b x × AreGood p b y
  IsGood p b (NullFork pos d x y) = AreGood p b x × AreGood p b y
  IsGood p b (BoolFork pos d x y) = AreGood p b x × AreGood p b y
  IsGood p b (Close r d) = constructs (method_at p r.close) ≡ false
  IsGood p b (Do s d) = Unit {0}
  IsGood p b (Ev e d) = Unit {0}
  IsGood p b (LoopEnd w d) = Unit {0}
  IsGood p b (For w d) = Unit {0}
  IsGood p b (Leave x pos) = Unit {0}
  IsGood p b (Catch s d) = Unit {0}
  IsGood p b (Fin f d) = Unit {0}
  IsGood p b (Finish c d f) = Unit {0}
  IsGood p b (Supp c d s) = Unit {0}
  IsGood p b (Out c) = Unit {0}
  IsGood p b Ended = Unit {0}

  pub AreGood : Program → Body → Todos → Type 0
  AreGood p b nil = Unit {0}
  AreGood p b (cons x xs) = IsGood p b x × AreGood p b xs

abbrev pub AllGood : Program → Body → List Todo → Type 0
AllGood p b [] = Unit {0}
AllGood p b (x ∷ xs) = IsGood p b x × AllGood p b xs

pub good_todos : (p : Program) (b : Body) (xs : Todos) → AreGood p b xs → AllGood p b (todos xs)
good_todos p b nil good = tt
good_todos p b (cons x xs) good = (good.0, good_todos p b xs good.1)

pub good_both : (p : Program) (b : Body) (xs ys : List Todo) → AllGood p b xs → AllGood p b ys → AllGood p b (xs ++ ys)
good_both p b [] ys first second = second
good_both p b (x ∷ xs) ys first second = (first.0, good_both p b xs ys first.1 second)

pub good_flat : {X : Type 0} (p : Program) (b : Body) (f : X → List Todo) (P : X → Type 0) → ((x : X) → P x → AllGood p b (f x)) → (xs : List X) → All P xs → AllGood p b (flat_map f xs)
good_flat p b f P each [] all = tt
good_flat p b f P each (x ∷ xs) all = good_both p b (f x) (flat_map f xs) (each x (All-head P x xs all)) (good_flat p b f P each xs (All-tail P x xs all))

pub all_reversed : {X : Type 0} (P : X → Type 0) (xs : List X) → All P xs → All P (reverse xs)
all_reversed P xs all k d below =
    let within : k < length xs = omega (arith, below, ap (λ (n : ℕ). n) (length-reverse xs)) in
    subst P (sym (get_or-reverse xs k d within)) (all (length xs - 1 - k) d (omega (arith, within)))

-- a variable that has a type is one of the body
pub in_body : (b : Body) (x : ℕ) (t : VType) → variable_type b x ≡ Some t → x < length b.vars.items
in_body b x t is = go (variable_at b x) refl is
  where
    go : (v : Option Var) → variable_at b x ≡ v → type_of_variable v ≡ Some t → x < length b.vars.items
    go None at typed = absurd (let never : None ≡ Some t = typed in cc)
    go (Some v) at typed = slice_get_within b.vars.items x v at

pub some_in_body : (b : Body) (x : ℕ) (P : VType → Type 0) (t : Option VType) → variable_type b x ≡ t → IsSomeAnd t P → x < length b.vars.items
some_in_body b x P None at has = absurd has
some_in_body b x P (Some t) at has = in_body b x t at

kind_constructs : (x : Method) (k : MethodKind) → x.kind ≡ k → is_constructor_kind x.kind ≡ is_constructor_kind k
kind_constructs x k is = ap is_constructor_kind is

-- a method of one of these kinds is no constructor
pub no_constructor : (k : MethodKind) (P : Method → Type 0) → is_constructor_kind k ≡ false → ((x : Method) → P x → x.kind ≡ k) → (x : Option Method) → IsSomeAnd x P
    → constructs x ≡ false
no_constructor k P plain of None has = absurd has
no_constructor k P plain of (Some x) has = kind_constructs x k (of x has) ∙ plain

pub is_constructor : (P : Method → Type 0) → ((x : Method) → P x → x.kind ≡ methods.Ctor) → (x : Option Method) → IsSomeAnd x P → constructs x ≡ true
is_constructor P of None has = absurd has
is_constructor P of (Some x) has = kind_constructs x methods.Ctor (of x has)
