-- Frames that wait, over a step of the frames above them, and which positions frames have.
use Rattle.std.proofs.Common.{◌≡◌, ℕ, ◌+◌, ◌<◌, ◌≤◌, Bool, true, false, Some, List, [], ◌∷◌, length, nat_eq, refl, sym, ap, ◌∙◌, subst, arith, eqb-true}
use Rattle.std.specs.FinSet as set
use Rattle.std.specs.Prelude.{MatchBool}
use Rattle.program_model.specs.declared.kinds.MethodId.{MethodId}
use Rattle.program_model.specs.declared.program.Program.{Program}
use Rattle.program_model.specs.Lookups.{method_at}
use Rattle.ledger_steps.specs.Bodies.{constructs}
use Rattle.ledger_steps.specs.MustCallSets.{must_of}
use Rattle.control_actions.specs.declared.action.Action.{Action}
use Rattle.control_actions.specs.declared.action.Action.TheVariants as actions
use Rattle.ownership_rules.specs.MovesAtReturns.{result_in}
use Rattle.ledger_state.specs.Contents.{HeapContents}
use Rattle.ledger_state.specs.Heaps.{next_number, object_at}
use Rattle.ledger_state.specs.declared.object.Object.{Object}
use Rattle.ledger_state.specs.declared.value.Value.{Value}
use Rattle.ledger_moves.specs.Configuration.{Frame}
use Rattle.agreement.specs.Agreement.{Awaits, IsAwaited, IsCalledFrom, IsMade, IsMadeAfter, IsMadeByNew, IsTracked, RunsItself, RunsOnSame, Tracks, WaitsFor}
use Rattle.agreement.specs.PlainForms.{MayRun}

-- the objects of the first heap have the same classes in the second
pub record KeepsClasses (h k : HeapContents) : Type 0 where
  pub count : next_number h ≤ next_number k
  pub class : (n : ℕ) (y : Object) → object_at k n ≡ Some y → n < next_number h → (x : Object) × (object_at h n ≡ Some x) × (y.class ≡ x.class)

module _ (p : Program) (h k : HeapContents) (keeps : KeepsClasses h k) where
  made_on : (m : MethodId) (v : Value) → IsMade p h m v → IsMade p k m v
  made_on m v made =
      let count = keeps.count in
      (made.0, made.1, omega (arith, made.2, count), λ y at. let x = keeps.class made.0 y at made.2 in made.3 x.0 x.1 ∙ ap Some (sym x.2), made.4)

  made_by_on : (a : Action) (v : Value) → IsMadeByNew p h a v → IsMadeByNew p k a v
  made_by_on actions.Skip v made = tt
  made_by_on (actions.New m d n) v made = made_on m v made
  made_by_on a v made = tt

  waits_on : (caller fr after : Frame) → after.method ≡ fr.method → after.locals.this ≡ fr.locals.this → WaitsFor p h caller fr → WaitsFor p k caller after
  waits_on caller fr after method this w = record {
    index = w.index;
    step = w.step;
    here = w.here;
    named = w.named;
    calls = w.calls;
    runs = subst (MayRun p w.named) (sym method) w.runs;
    itself = subst (RunsItself w.step.action w.named) (sym method) w.itself;
    kind = ap (λ (m : MethodId). constructs (method_at p m)) method ∙ w.kind;
    on_same = subst (RunsOnSame w.step.action caller.locals.this) (sym this) w.on_same;
    makes = subst (IsMadeByNew p k w.step.action) (sym this) (made_by_on w.step.action fr.locals.this w.makes);
    after = subst (IsMadeAfter p caller.locals w.step.action) (sym this) w.after;
  }

  pub called_on : (fr after : Frame) (frs : List Frame) → after.method ≡ fr.method → after.locals.this ≡ fr.locals.this → IsCalledFrom p h fr frs → IsCalledFrom p k after frs
  called_on fr after [] method this last = (ap (λ (m : MethodId). result_in (method_at p m)) method ∙ last.0, ap (λ (m : MethodId). constructs (method_at p m)) method ∙ last.1)
  called_on fr after (caller ∷ frs) method this w = (waits_on caller fr after method this w.0, called_on caller caller frs refl refl w.1)

-- ---- positions

-- a frame that waits has a position in the stack
pub awaited_within : (p : Program) (h : HeapContents) (frs : List Frame) (o : ℕ) (x : Object) (j : ℕ) → IsAwaited p h frs o x j → j ≤ length frs
awaited_within p h [] o x j w = absurd w
awaited_within p h (fr ∷ frs) o x j w = go (awaited_within p h frs o x j) (nat_eq (length frs + 1) j) refl w
  where
    go : (IsAwaited p h frs o x j → j ≤ length frs) → (b : Bool) → nat_eq (length frs + 1) j ≡ b → MatchBool b (Awaits p h fr o x) (IsAwaited p h frs o x j) → j ≤ length (fr ∷ frs)
    go further true at w' = let same = eqb-true (length frs + 1) j at in omega (arith, same)
    go further false at w' = let rest = further w' in omega (arith, rest)

pub tracked_within : (p : Program) (h : HeapContents) (frs : List Frame) (o : ℕ) (x : Object) (j : ℕ) → IsTracked p h frs o x j → j ≤ length frs
tracked_within p h [] o x j w = absurd w
tracked_within p h (fr ∷ frs) o x j w = go (nat_eq (length frs + 1) j) refl w
  where
    go : (b : Bool) → nat_eq (length frs + 1) j ≡ b → MatchBool b (Tracks p h fr o x) (IsAwaited p h frs o x j) → j ≤ length (fr ∷ frs)
    go true at w' = let same = eqb-true (length frs + 1) j at in omega (arith, same)
    go false at w' = let rest = awaited_within p h frs o x j w' in omega (arith, rest)

-- what is tracked has no more to be called than its class
awaited_bounded : (p : Program) (h : HeapContents) (frs : List Frame) (o : ℕ) (x : Object) (j : ℕ) → IsAwaited p h frs o x j → set.is_subset x.must (must_of p x.class) ≡ true
awaited_bounded p h [] o x j w = absurd w
awaited_bounded p h (fr ∷ frs) o x j w = go (awaited_bounded p h frs o x j) (nat_eq (length frs + 1) j) w
  where
    go : (IsAwaited p h frs o x j → set.is_subset x.must (must_of p x.class) ≡ true) → (b : Bool) → MatchBool b (Awaits p h fr o x) (IsAwaited p h frs o x j)
        → set.is_subset x.must (must_of p x.class) ≡ true
    go further true w' = w'.tracks.follows.bounded
    go further false w' = further w'

pub tracked_bounded : (p : Program) (h : HeapContents) (frs : List Frame) (o : ℕ) (x : Object) (j : ℕ) → IsTracked p h frs o x j → set.is_subset x.must (must_of p x.class) ≡ true
tracked_bounded p h [] o x j w = absurd w
tracked_bounded p h (fr ∷ frs) o x j w = go (nat_eq (length frs + 1) j) w
  where
    go : (b : Bool) → MatchBool b (Tracks p h fr o x) (IsAwaited p h frs o x j) → set.is_subset x.must (must_of p x.class) ≡ true
    go true w' = w'.follows.bounded
    go false w' = awaited_bounded p h frs o x j w'

-- what the top frame does not own is awaited below it
pub below_top : (p : Program) (h : HeapContents) (fr : Frame) (frs : List Frame) (o : ℕ) (x : Object) (j : ℕ) → (length frs + 1 ≡ j → ⊥) → IsTracked p h (fr ∷ frs) o x j → IsAwaited p h frs o x j
below_top p h fr frs o x j other w = go (nat_eq (length frs + 1) j) refl w
  where
    go : (b : Bool) → nat_eq (length frs + 1) j ≡ b → MatchBool b (Tracks p h fr o x) (IsAwaited p h frs o x j) → IsAwaited p h frs o x j
    go true at w' = absurd (other (eqb-true (length frs + 1) j at))
    go false at w' = w'
