-- Where a call puts an alias of the resource of an operand.
use Rattle.std.proofs.Common.{◌≡◌, ℕ, ◌+◌, ◌<◌, max, Bool, true, true≢false, Option, Some, None, nat_lt, nat_le, refl, sym, ap, ◌∙◌, subst, arith, lt-ltb, le-leb}
use Rattle.std.proofs.lemmas.Bool.{and_parts, and_from, or_left}
use Rattle.program_model.specs.declared.kinds.MethodId.{MethodId}
use Rattle.program_model.specs.declared.program.Program.{Program}
use Rattle.program_model.specs.declared.tree.Body.{Body}
use Rattle.control_actions.specs.declared.action.Action.{Action}
use Rattle.control_actions.specs.declared.action.Action.TheVariants as actions
use Rattle.control_actions.specs.declared.action.Edge.{Edge}
use Rattle.control_actions.specs.declared.place.Place.{Place}
use Rattle.control_actions.specs.declared.place.Place.TheVariants as places
use Rattle.java_control.specs.PlaceNumbers.{IsSmall}
use Rattle.java_control.specs.Sources.{emptied, is_temp_among, source}
use Rattle.step_laws.specs.Facts.{PlaceSet}
use Rattle.step_laws.specs.Aliases.{alias_operand, gives_alias}
use Rattle.ledger_state.specs.Contents.{HeapContents}
use Rattle.ledger_state.specs.declared.locals.Locals.{Locals}
use Rattle.ledger_state.specs.declared.value.Value.{Value}
use Rattle.ledger_frames.specs.Places.{place_value}
use Rattle.ledger_frames.specs.Choosing.{method_body}
use Rattle.ledger_frames.specs.Frames.{is_made, locals_after, made_place}
use Rattle.place_laws.specs.Places.{HasTarget, is_local, takes_alias}
use Rattle.place_laws.proofs.FrameValues.{made_value}
use Rattle.place_laws.proofs.Numbers.{same_place}
use Rattle.place_laws.proofs.Rows.{no_alias}

among : (d n : ℕ) → 0 < n → is_temp_among d n (places.Temp d) ≡ true
among d n some = and_from (nat_le d d) (nat_lt d (d + n)) (le-leb d d (omega arith)) (lt-ltb d (d + n) (omega arith))

emptied_true : (b : Bool) (q : Place) → b ≡ true → emptied b q ≡ None
emptied_true b q is = rw is refl

-- a call puts what it gives into a temp that has no source
pub record IsResult (p : Program) (x : Body) (a : Action) (e : Edge) (q : Place) : Type 0 where
  pub made : made_place a ≡ Some q
  pub local : is_local q ≡ true
  pub none : source p x a e q ≡ None

module _ (p : Program) (x : Body) (e : Edge) (held : PlaceSet) (q : Place) where
  at_temp : (a : Action) (d : ℕ) → made_place a ≡ Some (places.Temp d) → source p x a e (places.Temp d) ≡ None → is_made (made_place a) q ≡ true → IsResult p x a e q
  at_temp a d made none is =
      let same : places.Temp d ≡ q = same_place (places.Temp d) q (sym (ap (λ (z : Option Place). is_made z q) made) ∙ is) in
      subst (IsResult p x a e) same (record { made = made; local = refl; none = none })

  nothing : (a : Action) → alias_operand p a ≡ None → gives_alias p a e held ≡ true → IsResult p x a e q
  nothing a none gives = absurd (true≢false (sym gives ∙ no_alias p a e held none))

  by : (a : Action) → gives_alias p a e held ≡ true → is_made (made_place a) q ≡ true → IsResult p x a e q
  by actions.Skip gives is = nothing actions.Skip refl gives
  by (actions.Call m d n form) gives is = at_temp (actions.Call m d n form) d refl (emptied_true _ (places.Temp d) (or_left _ _ (among d (max n 1) (omega arith)))) is
  by (actions.New m d n) gives is = at_temp (actions.New m d n) d refl (emptied_true _ (places.Temp d) (among d (n + 1) (omega arith))) is
  by (actions.Super m d n) gives is = at_temp (actions.Super m d n) d refl (emptied_true _ (places.Temp d) (among d (max n 1) (omega arith))) is
  by a gives is = nothing a refl gives

  pub takes_result : (a : Action) → takes_alias p a e held q ≡ true → IsResult p x a e q
  takes_result a takes = let parts = and_parts (gives_alias p a e held) (is_made (made_place a) q) takes in by a parts.0 parts.1

pub alias_value : (p : Program) (h k : HeapContents) (m : MethodId) (x : Body) (l : Locals) (a : Action) (e : Edge) (v : Value) (held : PlaceSet) (q : Place)
    → method_body p m ≡ Some x → IsSmall q → HasTarget l a → takes_alias p a e held q ≡ true
    → place_value p k m (locals_after p h m l a e v) q ≡ v
alias_value p h k m x l a e v held q body small target takes =
    let r = takes_result p x e held q a takes in
    made_value p h k m x l a e v q body small r.local target r.made r.none
