-- Unmet objects: what they were before, what their types are, and who owns them; and the actions that call.
use Rattle.std.proofs.Common.{◌≡◌, ◌⊎◌, inl, inr, ℕ, Bool, true, false, not, ◌&&◌, Some, None, refl, sym, ap, ◌∙◌, true≢false}
use Rattle.std.specs.FinSet as set
use Rattle.std.proofs.lemmas.Bool.{and_parts, and_from, not-true}
use Rattle.rlc_base.proofs.SetLaws.{empty_within, within_trans}
use Rattle.program_model.specs.declared.kinds.ClassId.{ClassId}
use Rattle.program_model.specs.declared.kinds.FieldId.{FieldId}
use Rattle.program_model.specs.declared.kinds.MethodId.{MethodId}
use Rattle.program_model.specs.declared.kinds.VType.{VType}
use Rattle.program_model.specs.declared.kinds.VType.TheVariants as types
use Rattle.program_model.specs.declared.program.Program.{Program}
use Rattle.ledger_steps.specs.MustCallSets.{Names, must_of, must_of_type, no_names}
use Rattle.java_control.specs.Calls.{called_method}
use Rattle.java_control.specs.Control.{Step}
use Rattle.control_actions.specs.declared.action.Action.{Action}
use Rattle.control_actions.specs.declared.action.Action.TheVariants as actions
use Rattle.ledger_state.specs.declared.entry.Owner.{Owner}
use Rattle.ledger_state.specs.declared.entry.Owner.TheVariants as owners
use Rattle.ledger_state.specs.declared.object.Object.{Object}
use Rattle.ledger_steps.specs.Obligations.{is_library_owner, is_unmet, may_move}
use Rattle.fact_laws.specs.Calling.{may_call}
use Rattle.agreement.specs.Heaps.{GoesOn}
use Rattle.agreement.specs.PlacePlaces.{IsWay}
use Rattle.agreement.specs.Agreement.{is_answering}
use Rattle.fact_laws.specs.Outcomes.{IsCallRow}

-- ---- actions that call

pub call_may : (a : Action) → IsCallRow a → may_call a ≡ true
call_may actions.Skip row = absurd row
call_may (actions.Call m d n f) row = refl
call_may (actions.New m d n) row = refl
call_may (actions.Super m d n) row = refl
call_may a row = absurd row

pub row_of : (a : Action) (m : MethodId) → called_method a ≡ Some m → IsCallRow a
row_of actions.Skip m is = let never : None ≡ Some m = is in cc
row_of (actions.Call k d n f) m is = tt
row_of (actions.New k d n) m is = tt
row_of (actions.Super k d n) m is = tt
row_of a m is = let never : None ≡ Some m = is in cc

pub way_of_call : (s : Step) → IsCallRow s.action → IsWay s.action s.edge
way_of_call s row = go s.action row
  where
    go : (a : Action) → IsCallRow a → IsWay a s.edge
    go actions.Skip row' = tt
    go (actions.Put f d this) row' = absurd row'
    go a row' = tt

-- ---- unmet objects

-- an unmet object was unmet before
pub unmet_before : (x y : Object) → GoesOn x y → is_unmet y ≡ true → is_unmet x ≡ true
unmet_before x y goes unmet =
    let parts = and_parts y.finished (not (set.is_subset y.must y.called)) unmet in
    and_from x.finished (not (set.is_subset x.must x.called)) (sym goes.finished ∙ parts.0) (ap not (go (set.is_subset x.must x.called) refl (not-true (set.is_subset y.must y.called) parts.1)))
  where
    go : (b : Bool) → set.is_subset x.must x.called ≡ b → set.is_subset y.must y.called ≡ false → set.is_subset x.must x.called ≡ false
    go true is more = absurd (true≢false (
        sym (ap (λ (s : Names). set.is_subset s y.called) goes.must ∙ within_trans x.must x.called y.called is goes.called) ∙ more))
    go false is more = is

-- something must be called on it
pub nothing_to_call : (x : Object) → is_unmet x ≡ true → set.is_subset x.must no_names ≡ true → ⊥
nothing_to_call x unmet none =
    true≢false (sym (within_trans x.must no_names x.called none (empty_within x.called)) ∙ not-true (set.is_subset x.must x.called) (and_parts x.finished (not (set.is_subset x.must x.called)) unmet).1)

-- so a type of which all that must be called on it must be called is one of objects
pub object_type_of : (p : Program) (t : VType) (x : Object) → is_unmet x ≡ true → set.is_subset x.must (must_of_type p t) ≡ true → (c : ClassId) × (t ≡ types.Obj c)
object_type_of p (types.Obj c) x unmet within = (c, refl)
object_type_of p t x unmet within = absurd (nothing_to_call x unmet within)

pub may_lies : (p : Program) (t : VType) (x : Object) → may_move p t x ≡ true → set.is_subset (must_of p x.class) (must_of_type p t) ≡ true
may_lies p t x may = (and_parts (x.finished && not (is_library_owner x.owner)) (set.is_subset (must_of p x.class) (must_of_type p t)) may).1

not_librarys : (p : Program) (t : VType) (x : Object) → may_move p t x ≡ true → is_library_owner x.owner ≡ false
not_librarys p t x may =
    not-true (is_library_owner x.owner) (and_parts x.finished (not (is_library_owner x.owner))
    (and_parts (x.finished && not (is_library_owner x.owner)) (set.is_subset (must_of p x.class) (must_of_type p t)) may).0).1

-- what moves and is answered for is a frame's or a field's
pub owner_of : (p : Program) (t : VType) (x : Object) → may_move p t x ≡ true → is_answering x.owner ≡ true
    → ((j : ℕ) × (x.owner ≡ owners.Frame j)) ⊎ ((w : ℕ) × (f : FieldId) × (x.owner ≡ owners.Field w f))
owner_of p t x may answers = go x.owner (not_librarys p t x may) answers
  where
    go : (o : Owner) → is_library_owner o ≡ false → is_answering o ≡ true → ((j : ℕ) × (o ≡ owners.Frame j)) ⊎ ((w : ℕ) × (f : FieldId) × (o ≡ owners.Field w f))
    go (owners.Frame j) other is = inl (j, refl)
    go owners.Library other is = absurd (true≢false other)
    go (owners.Field w f) other is = inr (w, f, refl)
    go owners.Released other is = absurd (true≢false (sym is))
    go owners.Lost other is = absurd (true≢false (sym is))
    go owners.Unowned other is = absurd (true≢false (sym is))

-- what a frame owns may move where its class's set lies within the type's
pub may_go : (p : Program) (t : VType) (x : Object) (j : ℕ) → is_unmet x ≡ true → x.owner ≡ owners.Frame j → set.is_subset (must_of p x.class) (must_of_type p t) ≡ true → may_move p t x ≡ true
may_go p t x j unmet owner lies = rw ((and_parts x.finished (not (set.is_subset x.must x.called)) unmet).0, owner, lies) refl
