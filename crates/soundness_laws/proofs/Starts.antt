-- The first configuration of a run agrees with the facts.
use Rattle.std.proofs.Common.{◌≡◌, ℕ, zero, suc, ◌-◌, ◌≤◌, true, false, ◌&&◌, Option, Some, None, List, [], ◌∷◌, ◌++◌, IsSomeAnd, length, replicate, refl, sym, ap, ◌∙◌, subst, true≢false, arith, bytes_eq, codes}
use Rattle.std.proofs.lemmas.Bool.{and_parts}
use Rattle.std.proofs.lemmas.List.{length-replicate}
use Rattle.program_model.specs.declared.kinds.BodyId.{BodyId}
use Rattle.program_model.specs.declared.kinds.ClassId.{ClassId}
use Rattle.program_model.specs.declared.kinds.MethodId.{MethodId}
use Rattle.program_model.specs.declared.kinds.MethodKind.{MethodKind}
use Rattle.program_model.specs.declared.kinds.MethodKind.TheVariants as methods
use Rattle.program_model.specs.declared.kinds.VType.{VType}
use Rattle.program_model.specs.declared.program.Method.{Method}
use Rattle.program_model.specs.declared.program.ParamSig.{ParamSig}
use Rattle.program_model.specs.declared.program.Program.{Program}
use Rattle.program_model.specs.declared.tree.Body.{Body}
use Rattle.program_model.specs.declared.tree.Var.{Var}
use Rattle.program_model.specs.Lookups.{body_at, method_at}
use Rattle.program_model.specs.Overrides.{is_library}
use Rattle.program_model.specs.Validity.{HasParameters, IsBodyOf, OwnsBody}
use Rattle.ownership_rules.specs.MovesAtReturns.{result_in}
use Rattle.ledger_obligations.specs.Bodies.{constructs, is_constructor_kind}
use Rattle.content_laws.specs.Accept.{Accept}
use Rattle.content_laws.specs.Paths.{start}
use Rattle.stub_conduct.specs.declared.choice.Choices.{Choices}
use Rattle.ledger_state.specs.Classes.{class_in}
use Rattle.ledger_state.specs.Heaps.{object_at}
use Rattle.ledger_state.specs.declared.object.Object.{Object}
use Rattle.ledger_state.specs.declared.value.Value.TheVariants as values
use Rattle.ledger_steps.specs.LedgerCallsCalls.{begun, body_of, control_in, variable_count, variables_in}
use Rattle.content_laws.specs.Configuration.{Frame}
use Rattle.content_laws.specs.Starts.{start_config}
use Rattle.content_laws.specs.Moves.{has_body}
use Rattle.run_command.specs.Mains.{has_no_result, is_main, is_main_in, is_static, takes_texts}
use Rattle.content_laws.specs.Safety.{IsMain}
use Rattle.content_laws.specs.LibraryClasses.{GivesLibraryClasses}
use Rattle.content_laws.specs.Agreement.{Agree, HasMadeClasses, Stands}
use Rattle.content_laws.specs.PlainForms.{may_be_made}
use Rattle.soundness_laws.proofs.MadeClasses.{library_may}

-- the frame of `main` by its body
abbrev pub main_frame : Program → MethodId → Option BodyId → Frame
main_frame p main x =
    control_in p x (record {
      method = main;
      control = [];
      locals = record {
        variables = (values.Array 0 ∷ []) ++ replicate (variable_count p x - length (values.Array 0 ∷ [])) values.Nothing;
        this = values.Nothing;
        temps = [];
      };
    })

no_result_of : (t : Option VType) → has_no_result t ≡ true → t ≡ None
no_result_of None is = refl
no_result_of (Some t) is = absurd (true≢false (sym is))

-- the tests of a `main`
main_parts : (m : Method) → is_main m ≡ true → (m.sig.result ≡ None) × (takes_texts m.sig.params.items ≡ true)
main_parts m is =
    let first = and_parts (is_static m.kind && has_no_result m.sig.result && bytes_eq m.name (codes "main")) (takes_texts m.sig.params.items) is in
    let second = and_parts (is_static m.kind && has_no_result m.sig.result) (bytes_eq m.name (codes "main")) first.0 in
    let third = and_parts (is_static m.kind) (has_no_result m.sig.result) second.0 in
    (no_result_of m.sig.result third.1, first.1)

static_kind : (k : MethodKind) → is_static k ≡ true → k ≡ methods.Static
static_kind methods.Static is = refl
static_kind methods.Instance is = absurd (true≢false (sym is))
static_kind methods.Ctor is = absurd (true≢false (sym is))
static_kind methods.Constant is = absurd (true≢false (sym is))

-- a `main` is static
pub static_main : (m : Method) → is_main m ≡ true → m.kind ≡ methods.Static
static_main m is =
    let first = and_parts (is_static m.kind && has_no_result m.sig.result && bytes_eq m.name (codes "main")) (takes_texts m.sig.params.items) is in
    let second = and_parts (is_static m.kind && has_no_result m.sig.result) (bytes_eq m.name (codes "main")) first.0 in
    static_kind m.kind (and_parts (is_static m.kind) (has_no_result m.sig.result) second.0).0

some_variable : (vars : List Var) (params : List ParamSig) → takes_texts params ≡ true → HasParameters vars params → 1 ≤ length vars
some_variable vars [] is has = absurd (true≢false (sym is))
some_variable [] (x ∷ params) is has = absurd has
some_variable (v ∷ vars) (x ∷ params) is has = omega arith

module _ (p : Program) (ac : Accept p) (main : MethodId) where
  main_stands : (m : Method) (b : BodyId) → method_at p main ≡ Some m → m.body ≡ Some b → is_main m ≡ true → Stands p (main_frame p main (Some b))
  main_stands m b at own is = go (body_at p b) refl (subst (OwnsBody p main) own (ac.well_formed.valid.typed.methods main m at).body)
    where
      parameters : (x : Body) → body_at p b ≡ Some x → x.method ≡ main → IsBodyOf b x m
      parameters x there mine =
          subst (λ (y : Option Method). IsSomeAnd y (IsBodyOf b x)) (ap (method_at p) mine ∙ at) (ac.well_formed.valid.typed.bodies b x there).method

      count : (x : Body) → body_at p b ≡ Some x → 1 ≤ length x.vars.items → length (main_frame p main (Some b)).locals.variables ≡ length x.vars.items
      count x there some =
          let n : variable_count p (Some b) ≡ length x.vars.items = ap variables_in there in
          let rest : length (replicate (variable_count p (Some b) - 1) values.Nothing) ≡ variable_count p (Some b) - 1 = length-replicate _ _ in
          omega (arith, n, rest, some)

      go : (x : Option Body) → body_at p b ≡ x → IsSomeAnd x (λ y. y.method ≡ main) → Stands p (main_frame p main (Some b))
      go None there mine = absurd mine
      go (Some x) there mine = record {
        number = b;
        body = x;
        id = ap body_of at ∙ own;
        at = there;
        method = mine;
        control = start;
        variables = count x there (some_variable x.vars.items m.sig.params.items (main_parts m is).1 (parameters x there mine).1);
      }

  stands_by : (b : Option BodyId) (m : Method) → method_at p main ≡ Some m → m.body ≡ b → is_main m ≡ true → has_body b ≡ true → Stands p (main_frame p main b)
  stands_by None m at own is has = absurd (true≢false (sym has))
  stands_by (Some b) m at own is has = main_stands m b at own is

  main_begins : (x : Option Method) → method_at p main ≡ x → is_main_in x ≡ true → has_body (body_of x) ≡ true
      → Stands p (begun p main values.Nothing (values.Array 0 ∷ [])) × (result_in x ≡ None) × (constructs x ≡ false)
  main_begins None at is has = absurd (true≢false (sym is))
  main_begins (Some m) at is has =
      (subst (λ (y : Option BodyId). Stands p (main_frame p main y)) (sym (ap body_of at)) (stands_by m.body m at refl is has), (main_parts m is).0, ap is_constructor_kind (static_main m is))

  same_method : (x : Option BodyId) → (main_frame p main x).method ≡ main
  same_method None = refl
  same_method (Some b) = refl

  nothing_there : (k : ℕ) (x : Object) → object_at (record { objects = []; fields = [] }) k ≡ Some x → ⊥
  nothing_there zero x is = cc
  nothing_there (suc k) x is = cc

  -- texts and arrays are of classes of the library
  start_classes : GivesLibraryClasses p → HasMadeClasses p (record { objects = []; fields = [] })
  start_classes gives (values.Object k) c is = go (object_at (record { objects = []; fields = [] }) k) refl is
    where
      go : (x : Option Object) → object_at (record { objects = []; fields = [] }) k ≡ x → class_in x ≡ Some c → may_be_made p c ≡ true
      go None at same = absurd (let never : None ≡ Some c = same in cc)
      go (Some x) at same = absurd (nothing_there k x at)
  start_classes gives values.Text c is = library_may p c (subst (λ (d : ClassId). is_library p d ≡ true) (let both : Some p.core.string ≡ Some c = is in (let one : p.core.string ≡ c = cc in one)) gives.string)
  start_classes gives (values.Array a) c is = library_may p c (subst (λ (d : ClassId). is_library p d ≡ true) (let both : Some p.core.object ≡ Some c = is in (let one : p.core.object ≡ c = cc in one)) gives.object)
  start_classes gives values.Nothing c is = absurd (let never : None ≡ Some c = is in cc)
  start_classes gives values.Null c is = absurd (let never : None ≡ Some c = is in cc)
  start_classes gives (values.Number z) c is = absurd (let never : None ≡ Some c = is in cc)

  pub start_agrees : GivesLibraryClasses p → (choices : Choices) → IsMain p main → Agree p (start_config p main choices)
  unfolding start_config
  start_agrees gives choices is =
      let begins = main_begins (method_at p main) refl is.0 is.1 in
      record {
        standing = (begins.0, tt);
        stacked = (
          ap (λ (m : MethodId). result_in (method_at p m)) (same_method (body_of (method_at p main))) ∙ begins.1,
          ap (λ (m : MethodId). constructs (method_at p m)) (same_method (body_of (method_at p main))) ∙ begins.2,
        );
        links = λ k x l at link. absurd (nothing_there k x at);
        ends = record { ends = λ k x at. absurd (nothing_there k x at); unfinished = λ k x at. absurd (nothing_there k x at) };
        tracked = λ o x j at unmet owner. absurd (nothing_there o x at);
        answered = λ o x at free unmet. absurd (nothing_there o x at);
        no_leak = refl;
        classes = start_classes gives;
      }
