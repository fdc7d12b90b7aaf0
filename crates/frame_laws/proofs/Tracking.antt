-- The top frame goes on to track an object over one step of its own.
use Rattle.std.proofs.Common.{◌≡◌, ℕ, ◌+◌, Bool, true, false, Option, Some, List, ◌∷◌, length, slice_get, nat_eq, refl, sym, ap, ◌∙◌, subst, true≢false}
use Rattle.std.specs.FinSet as set
use Rattle.std.specs.Prelude.{MatchBool}
use Rattle.program_model.specs.declared.kinds.BodyId.{BodyId}
use Rattle.program_model.specs.declared.program.Program.{Program}
use Rattle.java_control.specs.Control.{Step}
use Rattle.control_actions.specs.declared.action.Action.{Action}
use Rattle.control_actions.specs.declared.action.Action.TheVariants as actions
use Rattle.control_actions.specs.declared.action.Edge.{Edge}
use Rattle.control_actions.specs.declared.action.Edge.TheVariants as edges
use Rattle.control_actions.specs.declared.fact.Fact.{Fact}
use Rattle.control_actions.specs.declared.fact.Origin.{Origin}
use Rattle.control_actions.specs.declared.place.Place.TheVariants as places
use Rattle.ownership_rules.specs.Facts.{Names, has, is_met, need}
use Rattle.ownership_rules.specs.SmallActions.{IsSmallAction}
use Rattle.fact_laws.specs.Aliases.{gives_alias}
use Rattle.fact_laws.specs.CalledRows.{called_after}
use Rattle.ownership_rules.specs.MovesAtCalls.{moved_at_call}
use Rattle.ownership_rules.specs.declared.moved.Moved.TheVariants as moves
use Rattle.fact_laws.specs.Flow.{flow}
use Rattle.fact_laws.specs.Accept.{Accept}
use Rattle.fact_laws.specs.Paths.{Reach, move_of, relation_of}
use Rattle.ledger_state.specs.Contents.{HeapContents}
use Rattle.ledger_state.specs.Heaps.{root_of}
use Rattle.ledger_state.specs.Locals.{temp_value}
use Rattle.ledger_state.specs.Values.{is_null}
use Rattle.ledger_state.specs.declared.object.Object.{Object}
use Rattle.ledger_state.specs.declared.value.Value.{Value}
use Rattle.ledger_state.specs.declared.value.Value.TheVariants as values
use Rattle.ledger_steps.specs.Obligations.{is_unmet}
use Rattle.ledger_moves.specs.Configuration.{Frame}
use Rattle.ledger_moves.specs.Choosing.{body_id, frame_steps}
use Rattle.ledger_moves.specs.LedgerFramesFrames.{frame_after, locals_after}
use Rattle.rlc_base.proofs.SetLaws.{within_trans}
use Rattle.agreement.specs.Heaps.{GoesOn}
use Rattle.agreement.specs.PlacePlaces.{IsWay}
use Rattle.agreement.specs.Agreement.{Follows, IsAwaited, IsTracked, Stands, Tracks}
use Rattle.agreement.specs.PlainForms.{HasPlainForms}
use Rattle.fact_laws.specs.Outcomes.{After, IsCallRow, IsNotNull, IsPlainRow}
use Rattle.fact_laws.proofs.OwedFacts.{owed, plain_row}
use Rattle.fact_laws.specs.Anew.{is_target}
use Rattle.fact_laws.proofs.Resetting.{apart_row}
use Rattle.frame_laws.specs.Steps.{IsTrueTest, RootsStay}
use Rattle.frame_laws.proofs.Carried.{carried, kept, still_awaited}
use Rattle.frame_laws.proofs.Following.{followed}
use Rattle.frame_laws.proofs.Ready.{call_sets, plain_step, ready, row_gives_none, row_sets, step_there}

pub null_is_no_object : (h : HeapContents) (v : Value) (o : ℕ) → is_null v ≡ true → root_of h v ≡ Some o → ⊥
null_is_no_object h values.Nothing o null is = cc
null_is_no_object h (values.Object k) o null is = true≢false (sym null)
null_is_no_object h v o null is = cc

not_null : (p : Program) (h : HeapContents) (fr : Frame) (o : ℕ) (x : Object) (origin : Origin) (f : Fact) (a : Action) (e : Edge) → IsSmallAction p a
    → Follows p h fr.method fr.locals o x origin f → IsTrueTest fr.locals a e → IsNotNull f a e
not_null p h fr o x origin f actions.Skip e small follows test = tt
not_null p h fr o x origin f (actions.Test d) edges.Null small follows test = go (has f.places (places.Temp d)) refl
  where
    go : (b : Bool) → has f.places (places.Temp d) ≡ b → has f.places (places.Temp d) ≡ false
    go true is = absurd (null_is_no_object h (temp_value fr.locals d) o test (follows.places (places.Temp d) small is).1)
    go false is = is
not_null p h fr o x origin f (actions.Test d) e small follows test = tt
not_null p h fr o x origin f a e small follows test = tt

pub same_body : (b c : BodyId) (x : Option BodyId) → x ≡ Some b → x ≡ Some c → b ≡ c
same_body b c x one other = let same : Some b ≡ Some c = sym one ∙ other in cc

module _ (p : Program) (ac : Accept p) (forms : HasPlainForms p) (h k : HeapContents)
    (fr : Frame) (st : Stands p fr) (i : ℕ) (s : Step) (here : slice_get (frame_steps p fr) i ≡ Some s) (way : IsWay s.action s.edge) (v : Value)
    (o : ℕ) (x y : Object) (stay : RootsStay h k o) (goes : GoesOn x y) (unmet : is_unmet y ≡ true) (t : Tracks p h fr o x) where
  reached : Reach p st.number (relation_of p st.number) t.origin fr.control t.fact
  reached = subst (λ (b : BodyId). Reach p b (relation_of p b) t.origin fr.control t.fact) (same_body t.body st.number (body_id p fr.method) t.id st.id) t.reached

  abbrev Goal : Fact → Type 0
  Goal g = Follows p k fr.method (locals_after p h fr.method fr.locals s.action s.edge v) o y t.origin g

  goes_on : After Goal (flow p st.number t.origin s.action s.edge t.fact) → Tracks p k (frame_after p h fr s v) o y
  goes_on after =
      let next = followed p ac st.number t.origin i (move_of s) t.fact Goal reached (step_there p fr st i s here) after in
      record { body = st.number; id = st.id; origin = t.origin; fact = next.0; reached = next.1; follows = next.2 }

  known : set.is_subset t.fact.called y.called ≡ true
  known = within_trans t.fact.called x.called y.called t.follows.called goes.called

  needed : set.is_subset y.must (need t.origin t.fact) ≡ true
  needed = ap (λ (must : Names). set.is_subset must (need t.origin t.fact)) goes.must ∙ t.follows.need

  pub is_owing : is_met t.origin t.fact ≡ false
  is_owing = owed y t.origin t.fact unmet needed known

  -- what calls nothing gives no alias
  plain_gives_none : IsPlainRow s.action → gives_alias p s.action s.edge t.fact.places ≡ true → root_of k v ≡ Some o
  plain_gives_none row gives = absurd (true≢false (sym gives ∙ row_gives_none p s.action s.edge t.fact.places row))

  pub tracks_plain : IsPlainRow s.action → IsTrueTest fr.locals s.action s.edge → Tracks p k (frame_after p h fr s v) o y
  tracks_plain row test = goes_on (plain_row Goal p st.number t.origin s.action s.edge t.fact row t.follows.own is_owing
      (not_null p h fr o x t.origin t.fact s.action s.edge (ready p ac forms fr st i s here way).small t.follows test)
      (λ some. carried p h k fr.method fr.locals st.number st.body s.action s.edge v (ready p ac forms fr st i s here way) (row_sets p s.action (plain_step p ac forms fr st i s here) row) o stay x y t.origin t.fact t.follows goes (plain_gives_none row) t.fact.called known some)
      (λ remain. kept p h k fr.method fr.locals st.number st.body s.action s.edge v (ready p ac forms fr st i s here way) (row_sets p s.action (plain_step p ac forms fr st i s here) row) o stay x y t.origin t.fact t.follows goes (plain_gives_none row) remain))

  -- a call that does not create its obligation anew
  pub tracks_call : IsCallRow s.action → is_target p s.action t.fact.places ≡ false → set.is_subset (called_after p st.number s.action s.edge t.fact) y.called ≡ true
      → (gives_alias p s.action s.edge t.fact.places ≡ true → root_of k v ≡ Some o) → (moved_at_call p t.origin s.action s.edge t.fact ≡ moves.Moves → ⊥) → Tracks p k (frame_after p h fr s v) o y
  tracks_call row out all alias stays = goes_on (apart_row p st.number t.origin t.fact Goal s.action s.edge row out t.follows.own
      (owed y t.origin (record t.fact { called = called_after p st.number s.action s.edge t.fact }) unmet needed all)
      stays
      (λ some. carried p h k fr.method fr.locals st.number st.body s.action s.edge v (ready p ac forms fr st i s here way) (call_sets s.action row) o stay x y t.origin t.fact t.follows goes alias
      (called_after p st.number s.action s.edge t.fact) all some))

-- the frames of a stack, of which the top one takes a step
pub stack_tracks : (p : Program) (h k : HeapContents) (fr after : Frame) (frs : List Frame) (o : ℕ) (x y : Object) (j : ℕ) → RootsStay h k o → GoesOn x y
    → (Tracks p h fr o x → Tracks p k after o y) → IsTracked p h (fr ∷ frs) o x j → IsTracked p k (after ∷ frs) o y j
stack_tracks p h k fr after frs o x y j stay goes top before = go (nat_eq (length frs + 1) j) before
  where
    go : (b : Bool) → MatchBool b (Tracks p h fr o x) (IsAwaited p h frs o x j) → MatchBool b (Tracks p k after o y) (IsAwaited p k frs o y j)
    go true w = top w
    go false w = still_awaited p h k frs o x y j stay goes w
