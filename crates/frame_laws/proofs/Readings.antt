-- How the facts of a frame that waits for a call are read: as they are, or, where the call creates the obligation of their object anew, as after this.
use Rattle.std.specs.List.{list_any}
use Rattle.std.proofs.Common.{◌≡◌, ap, refl, sym, ◌∙◌, eq-eqb, eqb-true, true≢false, ℕ, Bool, true, false, ◌||◌, Option, Some, None, List, [], ◌∷◌}
use Rattle.std.specs.FinSet as set
use Rattle.std.proofs.lemmas.Bool.{or_left, or_right}
use Rattle.rlc_base.proofs.SetLaws.{empty_within, within_trans}
use Rattle.program_model.specs.declared.kinds.MethodId.{MethodId}
use Rattle.program_model.specs.declared.program.Program.{Program}
use Rattle.ledger_steps.specs.Bodies.{reset_in}
use Rattle.ledger_steps.specs.MustCallSets.{must_of}
use Rattle.java_control.specs.Control.{Step}
use Rattle.control_actions.specs.declared.action.Action.{Action}
use Rattle.control_actions.specs.declared.fact.Fact.{Fact}
use Rattle.control_actions.specs.declared.fact.Origin.{Origin}
use Rattle.ownership_rules.specs.Callees.{callee}
use Rattle.ledger_state.specs.Contents.{HeapContents}
use Rattle.ledger_state.specs.Heaps.{root_of, same_root}
use Rattle.ledger_state.specs.declared.locals.Locals.{Locals}
use Rattle.ledger_state.specs.declared.object.Object.{Object}
use Rattle.ledger_steps.specs.LedgerCallsCalls.{operand_of}
use Rattle.ledger_moves.specs.Configuration.{Frame}
use Rattle.ledger_moves.specs.Choosing.{frame_steps}
use Rattle.agreement.specs.Agreement.{Follows}
use Rattle.agreement.specs.Renewing.{fact_as, is_renewed, renews, renews_at}
use Rattle.frame_laws.specs.Steps.{RootsStay}

-- the places are the same
pub places_as : (anew : Bool) (f : Fact) → (fact_as anew f).places ≡ f.places
places_as true f = refl
places_as false f = refl

-- and the mode is
pub mode_as : (anew : Bool) (f : Fact) → (fact_as anew f).mode ≡ f.mode
mode_as true f = refl
mode_as false f = refl

-- What is true of an object is so as well where all that the class asks for is needed, and nothing is known.
pub read_as : (p : Program) (h : HeapContents) (m : MethodId) (l : Locals) (o : ℕ) (x : Object) (origin : Origin) (f : Fact) → origin.full ≡ must_of p origin.class → (before after : Bool)
    → (before ≡ true → after ≡ true) → Follows p h m l o x origin (fact_as before f) → Follows p h m l o x origin (fact_as after f)
read_as p h m l o x origin f full true true more follows = follows
read_as p h m l o x origin f full true false more follows = absurd (true≢false (sym (more refl)))
read_as p h m l o x origin f full false false more follows = follows
read_as p h m l o x origin f full false true more follows = record {
  own = follows.own;
  class = follows.class;
  bounded = follows.bounded;
  need = ap (set.is_subset x.must) full ∙ within_trans x.must (must_of p x.class) (must_of p origin.class) follows.bounded follows.class;
  called = empty_within x.called;
  some = follows.some;
  alone = follows.alone;
  places = follows.places;
}

-- ---- what a call creates anew, in another heap

same_root_itself : (o : ℕ) → same_root (Some o) (Some o) ≡ true
same_root_itself o = eq-eqb o o refl

same_root_one : (r : Option ℕ) (o : ℕ) → same_root r (Some o) ≡ true → r ≡ Some o
same_root_one None o is = absurd (true≢false (sym is))
same_root_one (Some k) o is = ap Some (eqb-true k o is)

-- the operand at the position of the reset is the object
pub renewed_operand : (p : Program) (h : HeapContents) (l : Locals) (a : Action) (o : ℕ) → renews p h l a o ≡ true → (k : ℕ) × (reset_in (callee p a) ≡ Some k) × (root_of h (operand_of l a k) ≡ Some o)
renewed_operand p h l a o is = go (reset_in (callee p a)) refl is
  where
    go : (r : Option ℕ) → reset_in (callee p a) ≡ r → renews_at h l a o r ≡ true → (k : ℕ) × (reset_in (callee p a) ≡ Some k) × (root_of h (operand_of l a k) ≡ Some o)
    go None at is' = absurd (true≢false (sym is'))
    go (Some k) at is' = (k, at, same_root_one (root_of h (operand_of l a k)) o is')

pub operand_renews : (p : Program) (h : HeapContents) (l : Locals) (a : Action) (o k : ℕ) → reset_in (callee p a) ≡ Some k → root_of h (operand_of l a k) ≡ Some o → renews p h l a o ≡ true
operand_renews p h l a o k at root = ap (renews_at h l a o) at ∙ ap (λ (r : Option ℕ). same_root r (Some o)) root ∙ same_root_itself o

any_more : (xs : List Step) (f g : Step → Bool) → ((s : Step) → f s ≡ true → g s ≡ true) → list_any f xs ≡ true → list_any g xs ≡ true
any_more [] f g each is = is
any_more (s ∷ xs) f g each is = go (f s) refl is (any_more xs f g each)
  where
    go : (b : Bool) → f s ≡ b → (b || list_any f xs) ≡ true → (list_any f xs ≡ true → list_any g xs ≡ true) → (g s || list_any g xs) ≡ true
    go true here is' further = or_left (g s) (list_any g xs) (each s here)
    go false here is' further = or_right (g s) (list_any g xs) (further is')

pub renewed_on : (p : Program) (h k : HeapContents) (fr : Frame) (o : ℕ) → RootsStay h k o → is_renewed p h fr o ≡ true → is_renewed p k fr o ≡ true
renewed_on p h k fr o stay = any_more (frame_steps p fr) (λ s. renews p h fr.locals s.action o) (λ s. renews p k fr.locals s.action o) (λ s is.
    let it = renewed_operand p h fr.locals s.action o is in
    operand_renews p k fr.locals s.action o it.0 it.1 (stay (operand_of fr.locals s.action it.0) it.2))
