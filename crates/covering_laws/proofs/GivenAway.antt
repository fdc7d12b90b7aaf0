-- What the call at which a frame stands gives away: the roots of the arguments that owning parameters take.
use Rattle.std.proofs.Common.{◌≡◌, ℕ, zero, suc, ◌+◌, Bool, true, false, not, ◌&&◌, ◌||◌, true≢false, Option, Some, None, List, [], ◌∷◌, slice_get, refl, sym, ap, ◌∙◌, arith, eq-eqb, eqb-true}
use Rattle.std.specs.List.{list_any}
use Rattle.std.specs.FinSet as set
use Rattle.std.proofs.lemmas.Bool.{and_from, and_parts, or_left, or_right}
use Rattle.program_model.specs.declared.kinds.ClassId.{ClassId}
use Rattle.program_model.specs.declared.program.Method.{Method}
use Rattle.program_model.specs.declared.program.ParamSig.{ParamSig}
use Rattle.program_model.specs.declared.program.Program.{Program}
use Rattle.ledger_obligations.specs.MustCallSets.{fits_type, must_of, must_of_type}
use Rattle.java_control.specs.Control.{Step}
use Rattle.control_actions.specs.declared.action.Action.{Action}
use Rattle.ownership_rules.specs.Callees.{callee}
use Rattle.ledger_state.specs.Contents.{HeapContents}
use Rattle.ledger_state.specs.Heaps.{root_of, same_root}
use Rattle.ledger_state.specs.declared.locals.Locals.{Locals}
use Rattle.ledger_state.specs.declared.object.Object.{Object}
use Rattle.ledger_obligations.specs.Obligations.{is_library_owner}
use Rattle.ledger_steps.specs.LedgerCallsCalls.{operand_of, params_in}
use Rattle.value_laws.specs.Configuration.{Frame}
use Rattle.value_laws.specs.Choosing.{frame_steps}
use Rattle.value_laws.specs.Heaps.{IsGiven}
use Rattle.value_laws.specs.Agreement.{Stands}
use Rattle.value_laws.specs.Outcomes.{IsCallRow}
use Rattle.value_laws.proofs.Ready.{step_here}
use Rattle.value_laws.proofs.Unmet.{call_may}
use Rattle.value_laws.proofs.CallWays.{one_action}
use Rattle.value_laws.specs.PlaceFacts.{gives_away, is_given, is_taken_at, is_taken_by, is_taken_from}

-- an owning parameter of the method takes object `o`, of the class
pub record IsTaken (p : Program) (h : HeapContents) (l : Locals) (a : Action) (o : ℕ) (c : ClassId) (params : List ParamSig) (k : ℕ) : Type 0 where
  pub index : ℕ
  pub param : ParamSig
  pub at : slice_get params index ≡ Some param
  pub owning : param.owning ≡ true
  pub fit : fits_type p c (Some param.vtype) ≡ true
  pub root : root_of h (operand_of l a (k + index + 1)) ≡ Some o

same_number : (r : Option ℕ) (o : ℕ) → same_root r (Some o) ≡ true → r ≡ Some o
same_number None o is = absurd (true≢false (sym is))
same_number (Some n) o is = ap Some (eqb-true n o is)

itself : (o : ℕ) → same_root (Some o) (Some o) ≡ true
itself o = eq-eqb o o refl

module _ (p : Program) (h : HeapContents) (l : Locals) (a : Action) (o : ℕ) (c : ClassId) where
  -- ---- from the test

  taken_here : (k : ℕ) (x : ParamSig) (xs : List ParamSig) → is_taken_at p h l a o c k x ≡ true → IsTaken p h l a o c (x ∷ xs) k
  taken_here k x xs is =
      let first = and_parts x.owning (fits_type p c (Some x.vtype)) (and_parts (x.owning && fits_type p c (Some x.vtype)) (same_root (root_of h (operand_of l a (k + 1))) (Some o)) is).0 in
      let last = (and_parts (x.owning && fits_type p c (Some x.vtype)) (same_root (root_of h (operand_of l a (k + 1))) (Some o)) is).1 in
      record {
        index = 0;
        param = x;
        at = refl;
        owning = first.0;
        fit = first.1;
        root = ap (λ (n : ℕ). root_of h (operand_of l a n)) (let same : k + 0 + 1 ≡ k + 1 = omega arith in same) ∙ same_number (root_of h (operand_of l a (k + 1))) o last;
      }

  taken_from : (k : ℕ) (xs : List ParamSig) → is_taken_from p h l a o c k xs ≡ true → IsTaken p h l a o c xs k
  taken_from k [] is = absurd (true≢false (sym is))
  taken_from k (x ∷ xs) is = go (is_taken_at p h l a o c k x) refl is (taken_from (k + 1) xs)
    where
      further : IsTaken p h l a o c xs (k + 1) → IsTaken p h l a o c (x ∷ xs) k
      further t = record {
        index = suc t.index;
        param = t.param;
        at = t.at;
        owning = t.owning;
        fit = t.fit;
        root = ap (λ (n : ℕ). root_of h (operand_of l a n)) (let same : k + suc t.index + 1 ≡ k + 1 + t.index + 1 = omega arith in same) ∙ t.root;
      }

      go : (b : Bool) → is_taken_at p h l a o c k x ≡ b → (b || is_taken_from p h l a o c (k + 1) xs) ≡ true
          → (is_taken_from p h l a o c (k + 1) xs ≡ true → IsTaken p h l a o c xs (k + 1)) → IsTaken p h l a o c (x ∷ xs) k
      go true here' e later = taken_here k x xs here'
      go false other e later = further (later e)

  -- the method that the call names takes it
  pub given_taken : gives_away p h l a o c ≡ true → (m : Method) × (callee p a ≡ Some m) × IsTaken p h l a o c m.sig.params.items 0
  given_taken is = go (callee p a) refl
    where
      go : (x : Option Method) → callee p a ≡ x → (m : Method) × (callee p a ≡ Some m) × IsTaken p h l a o c m.sig.params.items 0
      go None none = absurd (true≢false (sym is ∙ ap (is_taken_by p h l a o c) none))
      go (Some m) there = (m, there, taken_from 0 m.sig.params.items (sym (ap (is_taken_by p h l a o c) there) ∙ is))

  -- ---- to the test

  from_taken : (k i : ℕ) (q : ParamSig) (xs : List ParamSig) → slice_get xs i ≡ Some q → q.owning ≡ true → fits_type p c (Some q.vtype) ≡ true → root_of h (operand_of l a (k + i + 1)) ≡ Some o → is_taken_from p h l a o c k xs ≡ true
  from_taken k i q [] at owning fit root = absurd (no_element i at)
    where
      no_element : (n : ℕ) → slice_get [] n ≡ Some q → ⊥
      no_element zero none = let never : None ≡ Some q = none in cc
      no_element (suc n) none = let never : None ≡ Some q = none in cc
  from_taken k zero q (x ∷ xs) at owning fit root =
      let same : x ≡ q = (let both : Some x ≡ Some q = at in cc) in
      let there : root_of h (operand_of l a (k + 1)) ≡ Some o = ap (λ (n : ℕ). root_of h (operand_of l a n)) (let one : k + 1 ≡ k + 0 + 1 = omega arith in one) ∙ root in
      or_left (is_taken_at p h l a o c k x) (is_taken_from p h l a o c (k + 1) xs)
      (ap (is_taken_at p h l a o c k) same ∙ and_from (q.owning && fits_type p c (Some q.vtype)) (same_root (root_of h (operand_of l a (k + 1))) (Some o)) (and_from q.owning (fits_type p c (Some q.vtype)) owning fit)
      (ap (λ (r : Option ℕ). same_root r (Some o)) there ∙ itself o))
  from_taken k (suc i) q (x ∷ xs) at owning fit root =
      or_right (is_taken_at p h l a o c k x) (is_taken_from p h l a o c (k + 1) xs)
      (from_taken (k + 1) i q xs at owning fit (ap (λ (n : ℕ). root_of h (operand_of l a n)) (let one : k + 1 + i + 1 ≡ k + suc i + 1 = omega arith in one) ∙ root))

  pub taken_given : (m : Method) (i : ℕ) (q : ParamSig) → callee p a ≡ Some m → slice_get m.sig.params.items i ≡ Some q → q.owning ≡ true → fits_type p c (Some q.vtype) ≡ true
      → root_of h (operand_of l a (i + 1)) ≡ Some o → gives_away p h l a o c ≡ true
  taken_given m i q named at owning fit root = ap (is_taken_by p h l a o c) named ∙ from_taken 0 i q m.sig.params.items at owning fit (ap (λ (n : ℕ). root_of h (operand_of l a n)) (let one : 0 + i + 1 ≡ i + 1 = omega arith in one) ∙ root)

-- what the machine moves at the call is given away
pub moved_given : (p : Program) (h : HeapContents) (l : Locals) (a : Action) (named : Option Method) (n : ℕ) (x : Object) → callee p a ≡ named → IsGiven p (operand_of l a) 1 (params_in named) h n x
    → gives_away p h l a n x.class ≡ true
moved_given p h l a None n x calls g = absurd (no_element g.index g.at)
  where
    no_element : (k : ℕ) → slice_get [] k ≡ Some g.param → ⊥
    no_element zero none = let never : None ≡ Some g.param = none in cc
    no_element (suc k) none = let never : None ≡ Some g.param = none in cc
moved_given p h l a (Some m) n x calls g =
    taken_given p h l a n x.class m g.index g.param calls g.at g.owning (and_parts (x.finished && not (is_library_owner x.owner)) (set.is_subset (must_of p x.class) (must_of_type p g.param.vtype)) g.may).1
    (ap (λ (k : ℕ). root_of h (operand_of l a k)) (let one : g.index + 1 ≡ 1 + g.index = omega arith in one) ∙ g.root)

-- ---- the frame's steps

pub any_at : {X : Type 0} (f : X → Bool) (xs : List X) (i : ℕ) (x : X) → slice_get xs i ≡ Some x → f x ≡ true → list_any f xs ≡ true
any_at f [] zero x at is = absurd (let never : None ≡ Some x = at in cc)
any_at f [] (suc i) x at is = absurd (let never : None ≡ Some x = at in cc)
any_at f (y ∷ ys) zero x at is = or_left (f y) (list_any f ys) (ap f (let both : Some y ≡ Some x = at in (let one : y ≡ x = cc in one)) ∙ is)
any_at f (y ∷ ys) (suc i) x at is = or_right (f y) (list_any f ys) (any_at f ys i x at is)

pub at_any : {X : Type 0} (f : X → Bool) (xs : List X) → list_any f xs ≡ true → (i : ℕ) × (x : X) × (slice_get xs i ≡ Some x) × (f x ≡ true)
at_any f [] is = absurd (true≢false (sym is))
at_any {X = X} f (y ∷ ys) is = go (f y) refl is (at_any f ys)
  where
    go : (b : Bool) → f y ≡ b → (b || list_any f ys) ≡ true → (list_any f ys ≡ true → (i : ℕ) × (x : X) × (slice_get ys i ≡ Some x) × (f x ≡ true)) → (i : ℕ) × (x : X) × (slice_get (y ∷ ys) i ≡ Some x) × (f x ≡ true)
    go true here' e rest = (0, y, refl, here')
    go false other e rest = let later = rest e in (suc later.0, later.1, later.2, later.3)

-- a frame gives away what its step of a call does
pub step_gives : (p : Program) (h : HeapContents) (fr : Frame) (i : ℕ) (s : Step) (o : ℕ) (c : ClassId) → slice_get (frame_steps p fr) i ≡ Some s → gives_away p h fr.locals s.action o c ≡ true → is_given p h fr o c ≡ true
step_gives p h fr i s o c here gives = any_at (λ (t : Step). gives_away p h fr.locals t.action o c) (frame_steps p fr) i s here gives

-- and nothing else
pub given_at_step : (p : Program) (h : HeapContents) (fr : Frame) → Stands p fr → (i : ℕ) (s : Step) (o : ℕ) (c : ClassId) → slice_get (frame_steps p fr) i ≡ Some s → IsCallRow s.action → is_given p h fr o c ≡ true
    → gives_away p h fr.locals s.action o c ≡ true
given_at_step p h fr st i s o c here row is =
    let t = at_any (λ (u : Step). gives_away p h fr.locals u.action o c) (frame_steps p fr) is in
    let one : t.1.action ≡ s.action = one_action p st.number fr.control i t.0 s t.1 (step_here p fr st i s here) (step_here p fr st t.0 t.1 t.2) (call_may s.action row) in
    ap (λ (a : Action). gives_away p h fr.locals a o c) (sym one) ∙ t.3
