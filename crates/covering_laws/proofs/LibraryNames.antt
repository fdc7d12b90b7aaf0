-- A call of the library that counts for a name of its receiver: no link stops the name, since the one name that a constructor's link does not pass on is
-- that of a method which the program declares.
use Rattle.std.proofs.Common.{◌≡◌, ◌∙◌, ap, refl, sym, ℕ, Bool, true, false, true≢false, not, ◌||◌, Option, Some, None, List}
use Rattle.rlc_base.specs.declared.name_id.NameId.{NameId}
use Rattle.program_model.specs.declared.kinds.ClassId.{ClassId}
use Rattle.program_model.specs.declared.kinds.MethodId.{MethodId}
use Rattle.program_model.specs.declared.program.Method.{Method}
use Rattle.program_model.specs.declared.program.Program.{Program}
use Rattle.program_model.specs.Lookups.{method_at}
use Rattle.program_model.specs.SuperTests.{is_under}
use Rattle.ledger_obligations.specs.MustCallSets.{must_of}
use Rattle.control_actions.specs.declared.action.Action.{Action}
use Rattle.control_actions.specs.declared.action.TargetForm.{TargetForm}
use Rattle.control_actions.specs.declared.action.TargetForm.TheVariants as forms
use Rattle.value_laws.specs.Accept.{Accept}
use Rattle.ledger_state.specs.Classes.{class_in, is_under_class, runtime_class}
use Rattle.ledger_state.specs.Contents.{HeapContents}
use Rattle.ledger_state.specs.Heaps.{object_at}
use Rattle.ledger_state.specs.Values.{number_of}
use Rattle.ledger_state.specs.declared.array.ArrayObject.{ArrayObject}
use Rattle.ledger_state.specs.declared.locals.Locals.{Locals}
use Rattle.ledger_state.specs.declared.object.Link.{Link}
use Rattle.ledger_state.specs.declared.object.Object.{Object}
use Rattle.ledger_state.specs.declared.value.Value.{Value}
use Rattle.ledger_state.specs.declared.value.Value.TheVariants as values
use Rattle.ledger_obligations.specs.declared.note.Note.{Note}
use Rattle.ledger_obligations.specs.Obligations.{has_note, is_library_method, is_the_one, note}
use Rattle.ledger_steps.specs.LedgerCallsCalls.{by_form, form_of, interest_in, note_by_form, note_of_object, operand_of, overriding_by, receiver_note, running}
use Rattle.value_laws.specs.Moves.{fits_target}
use Rattle.value_laws.specs.Leading.{Leads, by_library, by_program, goes_on_from, here, is_passed_on}
use Rattle.value_laws.proofs.NoteLists.{has_one}
use Rattle.value_laws.proofs.RootLaws.{one_object}
use Rattle.value_laws.specs.PlainForms.{HasPlainForms, may_be_made, run_by}
use Rattle.covering_laws.proofs.OwnMethods.{own, own_runs}

-- ---- the note

-- the note of a call on its receiver
abbrev IsOn : Option ℕ → Option NameId → ℕ → NameId → Type 0
IsOn receiver name k n = (receiver ≡ Some k) × (name ≡ Some n)

of_object : (receiver : Option ℕ) (name : Option NameId) (k : ℕ) (n : NameId) → has_note (note_of_object receiver name) (note false k n) ≡ true → IsOn receiver name k n
of_object None name k n has = absurd (true≢false (sym has))
of_object (Some j) None k n has = absurd (true≢false (sym has))
of_object (Some j) (Some i) k n has =
    let one = has_one (note false j i) (note false k n) has in
    (ap (λ (a : Note). Some a.object) (sym one), ap (λ (a : Note). Some a.name) (sym one))

-- a call on a target whose class chooses the method
abbrev IsByClass : TargetForm → Type 0
IsByClass forms.Static = ⊥
IsByClass forms.Super = ⊥
IsByClass forms.This = Unit {0}
IsByClass forms.Other = Unit {0}

of_form : (form : TargetForm) (receiver : Option ℕ) (name : Option NameId) (k : ℕ) (n : NameId) → has_note (note_by_form form receiver name) (note false k n) ≡ true
    → IsByClass form × IsOn receiver name k n
of_form forms.Static receiver name k n has = absurd (true≢false (sym has))
of_form forms.Super receiver name k n has = absurd (true≢false (sym has))
of_form forms.This receiver name k n has = (tt, of_object receiver name k n has)
of_form forms.Other receiver name k n has = (tt, of_object receiver name k n has)

object_numbered : (v : Value) (k : ℕ) → number_of v ≡ Some k → v ≡ values.Object k
object_numbered (values.Object j) k is = let one : j ≡ k = (let both : Some j ≡ Some k = is in cc) in ap values.Object one
object_numbered values.Nothing k is = absurd (let never : None ≡ Some k = is in cc)
object_numbered v k is = absurd (let never : None ≡ Some k = is in cc)

-- ---- the method that runs

runs_by_class : (p : Program) (h : HeapContents) (named : MethodId) (form : TargetForm) (k : ℕ) (x : Object) → IsByClass form → object_at h k ≡ Some x
    → by_form p h named form (values.Object k) ≡ run_by p named x.class
unfolding run_by
runs_by_class p h named forms.Static k x by at = absurd by
runs_by_class p h named forms.Super k x by at = absurd by
runs_by_class p h named forms.This k x by at = ap (λ (o : Option Object). overriding_by p named (class_in o)) at
runs_by_class p h named forms.Other k x by at = ap (λ (o : Option Object). overriding_by p named (class_in o)) at

target_class : (p : Program) (h : HeapContents) (arrays : List ArrayObject) (n : Method) (form : TargetForm) (k : ℕ) (x : Object) → IsByClass form → object_at h k ≡ Some x
    → fits_target p h arrays (Some n) form (values.Object k) ≡ true → is_under p x.class n.class ≡ true
target_class p h arrays n forms.Static k x by at fits = absurd by
target_class p h arrays n forms.Super k x by at fits = absurd by
target_class p h arrays n forms.This k x by at fits = ap (λ (o : Option Object). is_under_class p (class_in o) n.class) (sym at) ∙ fits
target_class p h arrays n forms.Other k x by at fits = ap (λ (o : Option Object). is_under_class p (class_in o) n.class) (sym at) ∙ fits

-- ---- the name goes on

module _ (p : Program) (ac : Accept p) (forms' : HasPlainForms p) (h : HeapContents) (arrays : List ArrayObject) (l : Locals) (a : Action) (named : MethodId)
    (ran : is_library_method p (method_at p (running p h l a named)) ≡ true) (fits : fits_target p h arrays (method_at p named) (form_of a) (operand_of l a 0) ≡ true)
    (k : ℕ) (n : NameId) (x : Object) (noted : has_note (receiver_note l a (method_at p named)) (note false k n) ≡ true) (at : object_at h k ≡ Some x)
    (made : (c : ClassId) → runtime_class p h (operand_of l a 0) ≡ Some c → may_be_made p c ≡ true) where
  its : IsByClass (form_of a) × IsOn (number_of (operand_of l a 0)) (interest_in (method_at p named)) k n
  its = of_form (form_of a) (number_of (operand_of l a 0)) (interest_in (method_at p named)) k n noted

  target : operand_of l a 0 ≡ values.Object k
  target = object_numbered (operand_of l a 0) k its.1.0

  method : (m : Option Method) → method_at p named ≡ m → interest_in m ≡ Some n → (d : Method) × (method_at p named ≡ Some d) × (d.sig.interest ≡ Some n)
  method None none is = absurd (let never : None ≡ Some n = is in cc)
  method (Some d) there is = (d, there, is)

  it : (d : Method) × (method_at p named ≡ Some d) × (d.sig.interest ≡ Some n)
  it = method (method_at p named) refl its.1.1

  under : is_under p x.class it.0.class ≡ true
  under = target_class p h arrays it.0 (form_of a) k x its.0 at
      (ap (λ (v : Value). fits_target p h arrays (Some it.0) (form_of a) v) (sym target) ∙ ap (λ (m : Option Method). fits_target p h arrays m (form_of a) (operand_of l a 0)) (sym it.1) ∙ fits)

  -- the library runs a method of objects of the class
  library : is_library_method p (method_at p (run_by p named x.class)) ≡ true
  library =
      ap (λ (r : MethodId). is_library_method p (method_at p r)) (sym (runs_by_class p h named (form_of a) k x its.0 at))
      ∙ ap (λ (v : Value). is_library_method p (method_at p (by_form p h named (form_of a) v))) (sym target) ∙ ran

  one_of : (b c : Bool) → (b || not c) ≡ false → c ≡ true
  one_of true c is = absurd (true≢false is)
  one_of false true is = refl
  one_of false false is = absurd (true≢false is)

  stops : (z : Object) (m : Option Link) → x ≡ z → z.link ≡ m → goes_on_from p n x x.link ≡ false → goes_on_from p n z m ≡ false
  stops z m same link off = ap (goes_on_from p n z) (sym link) ∙ ap (λ (u : Object). goes_on_from p n u u.link) (sym same) ∙ off

  never : (j r : ℕ) → object_at h j ≡ Some x → Leads p h j r → goes_on_from p n x x.link ≡ false → ⊥
  never _ _ there (here j z at' none) off = true≢false (stops z None (one_object x z (object_at h j) there at') none off)
  never _ _ there (by_library j r z m at' some by_it rest) off =
      true≢false (sym (ap (λ (b : Bool). b || not (is_the_one (must_of p z.class) n)) by_it) ∙ stops z (Some m) (one_object x z (object_at h j) there at') some off)
  never _ _ there (by_program j c r z m f field at' some declared owning calls held rest inner) off =
      let same : x ≡ z = one_object x z (object_at h j) there at' in
      let one = one_of m.by_library (is_the_one (must_of p z.class) n) (stops z (Some m) same some off) in
      let mine = own p ac forms' z.class f field declared owning calls n one in
      let there_may = made z.class (ap (runtime_class p h) target ∙ ap class_in at ∙ ap (λ (u : Object). Some u.class) same) in
      let runs = own_runs p ac forms' z.class f field declared owning calls n one there_may named it.0 it.1 it.2 (ap (λ (u : Object). is_under p u.class it.0.class) (sym same) ∙ under) in
      true≢false (sym library ∙ ap (λ (u : Object). is_library_method p (method_at p (run_by p named u.class))) same
      ∙ ap (λ (r' : MethodId). is_library_method p (method_at p r')) runs ∙ ap (is_library_method p) mine.at ∙ mine.program)

  -- the call goes on from its receiver
  pub library_name_goes_on : (r : ℕ) → Leads p h k r → is_passed_on p (note false k n) x ≡ true
  library_name_goes_on r leads = go (goes_on_from p n x x.link) refl
    where
      go : (b : Bool) → goes_on_from p n x x.link ≡ b → b ≡ true
      go true is = refl
      go false is = absurd (never k r at leads is)
