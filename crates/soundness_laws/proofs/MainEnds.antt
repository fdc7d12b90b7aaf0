-- The end of `main`: its frame owns nothing that is unmet.
use Rattle.std.proofs.Common.{◌≡◌, ◌⊎◌, inl, inr, ℕ, Bool, true, false, Option, Some, None, List, [], ◌∷◌, ◌++◌, slice_get, option_map, nat_eq, refl, sym, ap, ◌∙◌, subst, true≢false, if◌then◌else◌, arith, eqb-true}
use Rattle.std.specs.List.{list_any}
use Rattle.std.specs.Prelude.{MatchBool}
use Rattle.program_model.specs.declared.kinds.BodyId.{BodyId}
use Rattle.program_model.specs.declared.kinds.MethodId.{MethodId}
use Rattle.program_model.specs.declared.program.Program.{Program}
use Rattle.program_model.specs.declared.tree.Body.{Body}
use Rattle.program_model.specs.Lookups.{method_at}
use Rattle.rlc_base.specs.declared.place.Pos.{Pos}
use Rattle.ledger_obligations.specs.Bodies.{method_in}
use Rattle.java_control.specs.Control.{Step}
use Rattle.control_actions.specs.declared.action.Action.{Action}
use Rattle.control_actions.specs.declared.action.Action.TheVariants as actions
use Rattle.control_actions.specs.declared.action.Completion.{Completion}
use Rattle.ownership_rules.specs.MovesAtReturns.{result_in, result_type}
use Rattle.content_laws.specs.Flow.{flow}
use Rattle.content_laws.specs.Accept.{Accept}
use Rattle.content_laws.specs.Paths.{Reach, move_of, relation_of}
use Rattle.ledger_state.specs.Contents.{HeapContents}
use Rattle.ledger_state.specs.Heaps.{object_at}
use Rattle.ledger_state.specs.declared.entry.Entry.{Entry}
use Rattle.ledger_state.specs.declared.entry.LeakWord.TheVariants as words
use Rattle.ledger_state.specs.declared.entry.Owner.{Owner}
use Rattle.ledger_state.specs.declared.entry.Owner.TheVariants as owners
use Rattle.ledger_state.specs.declared.object.Object.{Object}
use Rattle.ledger_obligations.specs.Obligations.{end_frame, given_up, given_up_by_frame, is_frame, is_unmet}
use Rattle.content_laws.specs.Configuration.{Frame}
use Rattle.content_laws.specs.Choosing.{body_id, frame_steps}
use Rattle.ledger_steps.specs.Ends.{main_gone}
use Rattle.ledger_state.specs.Leaks.{is_leak}
use Rattle.content_laws.specs.Heaps.{HasEarlierLinks}
use Rattle.content_laws.specs.Chains.{HaveEnds, IsLast}
use Rattle.content_laws.specs.Agreement.{Agrees, HasMadeClasses, Stands, Tracks}
use Rattle.content_laws.specs.Outcomes.{IsFault}
use Rattle.content_laws.proofs.FactEnds.{end_row, result_stays}
use Rattle.content_laws.proofs.OwedFacts.{owed}
use Rattle.content_laws.proofs.FrameFollowing.{breaks_nothing}
use Rattle.content_laws.proofs.Chains.{IsOwnedAs, ends_on, given_up_last, owned_is_finished}
use Rattle.content_laws.proofs.Landing.{no_leak_in_both}
use Rattle.content_laws.proofs.LibraryCallLaws.{changed_object_at-count, changed_object_at-object, end_of_frame_leaks_nothing, links_stay-frame}
use Rattle.content_laws.proofs.Ready.{step_there}
use Rattle.content_laws.proofs.Tracking.{same_body}
use Rattle.soundness_laws.proofs.MadeClasses.{classes_on}

owned_by_frame : (w : Owner) (j : ℕ) → is_frame w j ≡ true → w ≡ owners.Frame j
owned_by_frame (owners.Frame i) j is = ap owners.Frame (eqb-true i j is)
owned_by_frame (owners.Field v f) j is = absurd (true≢false (sym is))
owned_by_frame owners.Library j is = absurd (true≢false (sym is))
owned_by_frame owners.Released j is = absurd (true≢false (sym is))
owned_by_frame owners.Lost j is = absurd (true≢false (sym is))
owned_by_frame owners.Unowned j is = absurd (true≢false (sym is))

not_true : (b : Bool) → (b ≡ true → ⊥) → b ≡ false
not_true true never = absurd (never refl)
not_true false never = refl

module _ (p : Program) (ac : Accept p) (fr : Frame) (h : HeapContents) (es : List Entry) (agrees : Agrees p (fr ∷ []) h es) (i : ℕ) (s : Step)
    (here : slice_get (frame_steps p fr) i ≡ Some s) (q : Completion) (is : s.action ≡ actions.End q) where
  st : Stands p fr
  st = agrees.standing.0

  no_result : result_type p st.number ≡ None
  no_result = ap (λ (b : Option Body). result_in (method_in p b)) st.at ∙ ap (λ (m : MethodId). result_in (method_at p m)) st.method ∙ agrees.stacked.0

  none_owed : (o : ℕ) (x : Object) → object_at h o ≡ Some x → is_unmet x ≡ true → x.owner ≡ owners.Frame 1 → ⊥
  none_owed o x at unmet owner =
      let t : Tracks p h fr o x = agrees.tracked o x 1 at unmet owner in
      let reached = subst (λ (b : BodyId). Reach p b (relation_of p b) t.origin fr.control t.fact) (same_body t.body st.number (body_id p fr.method) t.id st.id) t.reached in
      breaks_nothing p ac st.number t.origin i (move_of s) t.fact reached (step_there p fr st i s here)
      (subst (λ (a : Action). IsFault (flow p st.number t.origin a s.edge t.fact)) (sym is)
      (end_row p st.number t.origin q s.edge t.fact t.follows.own (owed x t.origin t.fact unmet t.follows.need t.follows.called)
      (result_stays p st.number t.origin q t.fact no_result t.follows.own)))

  abbrev heap : HeapContents
  heap = end_frame 1 h

  -- an object is as it was, or its frame gave it up
  was_there : (o : ℕ) (y : Object) → object_at heap o ≡ Some y → (x : Object) × (object_at h o ≡ Some x) × (((is_frame x.owner 1 ≡ true) × (y ≡ given_up x)) ⊎ (y ≡ x))
  was_there o y at = go (object_at h o) refl (sym (changed_object_at-object (given_up_by_frame 1) h o) ∙ at)
    where
      either : (x : Object) (b : Bool) → is_frame x.owner 1 ≡ b → Some (if b then given_up x else x) ≡ Some y → ((is_frame x.owner 1 ≡ true) × (y ≡ given_up x)) ⊎ (y ≡ x)
      either x true frame same = inl (frame, (let one : y ≡ given_up x = cc in one))
      either x false frame same = inr (let one : y ≡ x = cc in one)

      go : (x : Option Object) → object_at h o ≡ x → option_map (given_up_by_frame 1 o) x ≡ Some y
          → (x : Object) × (object_at h o ≡ Some x) × (((is_frame x.owner 1 ≡ true) × (y ≡ given_up x)) ⊎ (y ≡ x))
      go None before same = absurd (let never : None ≡ Some y = same in cc)
      go (Some x) before same = (x, before, either x (is_frame x.owner 1) refl same)

  unmet_was_there : (o : ℕ) (y : Object) → object_at heap o ≡ Some y → is_unmet y ≡ true → (object_at h o ≡ Some y)
  unmet_was_there o y at unmet =
      let was = was_there o y at in
      elim was.2 [
        | inl gone ↦ absurd (none_owed o was.0 was.1 (subst (λ (z : Object). is_unmet z ≡ true) gone.1 unmet) (owned_by_frame was.0.owner 1 gone.0))
        | inr same ↦ was.1 ∙ ap Some (sym same)
      ]

  links : HasEarlierLinks heap
  links = links_stay-frame 1 h agrees.links

  no_frame : (o : ℕ) (y : Object) (j : ℕ) → object_at h o ≡ Some y → is_unmet y ≡ true → y.owner ≡ owners.Frame j → ⊥
  no_frame o y j at unmet owner = go (nat_eq 1 j) refl (agrees.tracked o y j at unmet owner)
    where
      go : (b : Bool) → nat_eq 1 j ≡ b → MatchBool b (Tracks p h fr o y) ⊥ → ⊥
      go true same w = none_owed o y at unmet (owner ∙ ap owners.Frame (sym (eqb-true 1 j same)))
      go false other w = w

  ends : HaveEnds heap
  ends = ends_on h heap agrees.ends (let same = changed_object_at-count (given_up_by_frame 1) h in omega (arith, same)) (λ o y at. owned o y (was_there o y at))
    where
      owned : (o : ℕ) (y : Object) → (x : Object) × (object_at h o ≡ Some x) × (((is_frame x.owner 1 ≡ true) × (y ≡ given_up x)) ⊎ (y ≡ x)) → IsOwnedAs h heap o y
      owned o y (x, before, inl gone) = inl (
        subst (λ (z : Object). IsLast z.owner) (sym gone.1) (given_up_last x),
        inl (ap (λ (z : Object). z.finished) gone.1 ∙ owned_is_finished h agrees.ends o x (λ w. is_frame w 1) refl before gone.0),
      )
      owned o y (x, before, inr same) = inr (inl (x, before, (ap (λ (z : Object). z.owner) same, ap (λ (z : Object). z.finished) same)))

  classes : HasMadeClasses p heap
  classes = classes_on p h heap agrees.classes (λ o y at.
      let was = was_there o y at in
      inl (was.0, was.1, elim was.2 [ inl gone ↦ ap (λ (z : Object). z.class) gone.1 | inr same ↦ ap (λ (z : Object). z.class) same ]))

  pub main_agrees : (pos : Pos) → Agrees p [] (main_gone p h pos).heap (es ++ (main_gone p h pos).lines)
  main_agrees pos = record {
    standing = tt;
    stacked = tt;
    links = links;
    ends = ends;
    tracked = λ o y j at unmet owner. no_frame o y j (unmet_was_there o y at unmet) unmet owner;
    answered = λ o y at free unmet. agrees.answered o y (unmet_was_there o y at unmet) free unmet;
    no_leak = no_leak_in_both es (main_gone p h pos).lines agrees.no_leak
        (ap (list_any is_leak) (end_of_frame_leaks_nothing p words.Exit pos 1 h (λ n x at frame. not_true (is_unmet x) (λ unmet. none_owed n x at unmet (owned_by_frame x.owner 1 frame)))));
    classes = classes;
  }
