-- The fact of an object whose obligation a call creates anew is in mode Own, or in mode Lent, or in mode Held: in a constructor without an aliased argument, or in a method that creates the obligation of `this` anew.
use Rattle.std.specs.Prelude.{◌&&◌, ◌||◌}
use Rattle.std.proofs.Common.{◌≡◌, inl, inr, ap, refl, sym, ◌∙◌, ℕ, Bool, true, false, true≢false, not, Some, List, slice_get}
use Rattle.program_model.specs.declared.kinds.BodyId.{BodyId}
use Rattle.program_model.specs.declared.program.Method.{Method}
use Rattle.program_model.specs.declared.program.Program.{Program}
use Rattle.program_model.specs.declared.tree.Body.{Body}
use Rattle.program_model.specs.Lookups.{body_at, method_at}
use Rattle.java_control.specs.Calls.{is_reset_of_this}
use Rattle.java_control.specs.Remaining.{Todo}
use Rattle.control_actions.specs.declared.action.Action.{Action}
use Rattle.control_actions.specs.declared.fact.Fact.{Fact}
use Rattle.control_actions.specs.declared.fact.Mode.{Mode}
use Rattle.control_actions.specs.declared.fact.Mode.TheVariants as modes
use Rattle.control_actions.specs.declared.fact.Origin.{Origin}
use Rattle.ownership_rules.specs.Bodies.{is_alias_constructor, is_constructor, resets_this}
use Rattle.ownership_rules.specs.MustCallSets.{is_heavy_class}
use Rattle.place_laws.specs.Paths.{Comes, Move, Reach, born, entered, flowed, relation_of}
use Rattle.ownership_rules.specs.Facts.{is_held, is_lent}
use Rattle.place_laws.specs.Accept.{Accept}
use Rattle.fact_laws.specs.Anew.{IsAnswered, IsInHands, MayBeAnew, MayRenewFields}
use Rattle.fact_laws.specs.Lending.{may_be_lent}
use Rattle.fact_laws.proofs.KeptFacts.{held_is_argument}
use Rattle.fact_laws.proofs.ResetBirths.{entry_born, step_born}
use Rattle.fact_laws.proofs.Modes.{next_mode}

-- ---- what is lent

module _ (p : Program) (b : BodyId) (x : Body) (m : Method) (at : body_at p b ≡ Some x) (of : method_at p x.method ≡ Some m) where
  lent_to : (o : Origin) (k : List Todo) (f : Fact) → Reach p b (relation_of p b) o k f → is_lent f.mode ≡ true → may_be_lent m o.kind ≡ true
  lent_to o _ f (entered n is) lent = (entry_born p b m ⊥ (λ instance free. absurd free) x at of n o f is).0 lent
  lent_to o _ f (born i n t before here is) lent = (step_born p b m ⊥ t.action (λ this free. absurd free) t.edge t.pos n o f is).0 lent
  lent_to o _ g (flowed {k} {f} i t before here is) lent = lent_to o k f before ((next_mode p b o f t.action t.edge g is).0 lent)

  -- ---- what is held in fields

  abbrev ResetsNoThis : Type 0
  ResetsNoThis = (c : List Todo) (i : ℕ) (t : Move (List Todo)) → Comes (relation_of p b) c → slice_get ((relation_of p b).next c) i ≡ Some t → is_reset_of_this p t.action ≡ false

  answered : Accept p → (is_alias_constructor p b ≡ true → ResetsNoThis) → (o : Origin) (k : List Todo) (f : Fact) → Reach p b (relation_of p b) o k f → (a : Action) (j : ℕ) → MayBeAnew p b o a j f
      → IsInHands p b f.mode (is_heavy_class p o.class)
  answered ac this o k f reach a j may = go may.answered
    where
      -- what a constructor with an aliased argument holds is this argument
      alone : f.mode ≡ modes.Held → (z : Bool) → is_alias_constructor p b ≡ z → is_alias_constructor p b ≡ false
      alone held true aliased = absurd (true≢false (sym (held_is_argument p ac b x m at of aliased (this aliased) o k f reach held) ∙ may.alias))
      alone held false none = none

      renews_fields : f.mode ≡ modes.Held → (y z : Bool) → is_constructor p b ≡ y → resets_this p b ≡ z → MayRenewFields p b
      renews_fields held true z makes says = inl (makes, alone held (is_alias_constructor p b) refl)
      renews_fields held false true makes says = inr (makes, says)
      renews_fields held false false makes says =
          absurd (true≢false (sym (ap (λ (n : Mode). is_held n && not (is_constructor p b || resets_this p b)) held ∙ ap (λ (y : Bool). not (y || resets_this p b)) makes ∙ ap not says) ∙ may.announced))

      go : IsAnswered f.mode (is_heavy_class p o.class) → IsInHands p b f.mode (is_heavy_class p o.class)
      go (inl lent) = inr (inl lent)
      go (inr (heavy, inl own)) = inl (own, heavy)
      go (inr (heavy, inr held)) = inr (inr (held, heavy, renews_fields held (is_constructor p b) (resets_this p b) refl refl))

-- ---- the laws

pub lent_facts : (p : Program) (b : BodyId) (x : Body) (m : Method) → body_at p b ≡ Some x → method_at p x.method ≡ Some m
    → (o : Origin) (k : List Todo) (f : Fact) → Reach p b (relation_of p b) o k f → f.mode ≡ modes.Lent → may_be_lent m o.kind ≡ true
lent_facts p b x m at of o k f reach mode = lent_to p b x m at of o k f reach (ap is_lent mode)

pub answered_targets : (p : Program) → Accept p → (b : BodyId) (x : Body) (m : Method) → body_at p b ≡ Some x → method_at p x.method ≡ Some m
    → (is_alias_constructor p b ≡ true → (c : List Todo) (i : ℕ) (t : Move (List Todo)) → Comes (relation_of p b) c → slice_get ((relation_of p b).next c) i ≡ Some t → is_reset_of_this p t.action ≡ false)
    → (o : Origin) (k : List Todo) (f : Fact) → Reach p b (relation_of p b) o k f → (a : Action) (j : ℕ) → MayBeAnew p b o a j f → IsInHands p b f.mode (is_heavy_class p o.class)
answered_targets p ac b x m at of this o k f reach a j may = answered p b x m at of ac this o k f reach a j may
