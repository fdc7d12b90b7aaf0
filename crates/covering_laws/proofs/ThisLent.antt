-- The fact of `this` in a constructor, and in a method that creates the obligation of `this` anew: `this` is lent.
use Rattle.std.proofs.Common.{◌≡◌, inl, inr, ap, refl, sym, subst, ◌∙◌, ℕ, Bool, true, false, not, ◌&&◌, ◌||◌, true≢false, Option, Some, None, List}
use Rattle.std.proofs.lemmas.Bool.{and_parts, or_left, or_right}
use Rattle.program_model.specs.declared.kinds.BodyId.{BodyId}
use Rattle.program_model.specs.declared.kinds.ClassId.{ClassId}
use Rattle.program_model.specs.declared.program.Method.{Method}
use Rattle.program_model.specs.declared.program.Program.{Program}
use Rattle.program_model.specs.Lookups.{method_at}
use Rattle.ledger_obligations.specs.Bodies.{alias_in, constructs, is_constructor_kind, reset_in}
use Rattle.ledger_obligations.specs.MustCallSets.{is_heavy_class}
use Rattle.control_actions.specs.declared.fact.Mode.{Mode}
use Rattle.control_actions.specs.declared.fact.Mode.TheVariants as modes
use Rattle.control_actions.specs.declared.place.Place.TheVariants as places
use Rattle.ownership_rules.specs.Facts.{has, is_lent, is_this_origin}
use Rattle.ownership_rules.specs.Signatures.{is_position, is_present}
use Rattle.ledger_state.specs.Contents.{HeapContents}
use Rattle.ledger_state.specs.Heaps.{object_at, root_of}
use Rattle.ledger_state.specs.declared.entry.Owner.{Owner}
use Rattle.ledger_state.specs.declared.object.Object.{Object}
use Rattle.value_laws.specs.Accept.{Accept}
use Rattle.value_laws.specs.Agreement.{Stands}
use Rattle.value_laws.specs.Choosing.{body_id}
use Rattle.value_laws.specs.Configuration.{Frame}
use Rattle.value_laws.specs.Paths.{Reach, relation_of}
use Rattle.value_laws.specs.PlaceFacts.{Covers, IsCovered, OwesOrHolds}
use Rattle.value_laws.specs.Renewing.{IsLentFrom, IsWhole, answers_for_fields}
use Rattle.value_laws.proofs.FactOrigins.{this_own}
use Rattle.value_laws.proofs.LentThis.{this_is_lent_on_paths}
use Rattle.covering_laws.proofs.Bodies.{running_method}
use Rattle.covering_laws.proofs.Following.{same_body}
use Rattle.covering_laws.proofs.HeavyFields.{answers_by, covered_at}
use Rattle.covering_laws.proofs.WaitingTargets.{this_kind}

lent_mode : (m : Mode) → is_lent m ≡ true → m ≡ modes.Lent
lent_mode modes.Lent is = refl
lent_mode modes.Own is = absurd (true≢false (sym is))
lent_mode modes.None is = absurd (true≢false (sym is))
lent_mode modes.Held is = absurd (true≢false (sym is))
lent_mode modes.Alias is = absurd (true≢false (sym is))

module _ (p : Program) (ac : Accept p) (h : HeapContents) (fr : Frame) (st : Stands p fr) (old : ℕ → Bool) (frs : List Frame) (answers : answers_for_fields (method_at p fr.method) ≡ true) where
  running : (m : Method) × (method_at p st.body.method ≡ Some m) × (method_at p fr.method ≡ Some m)
  running = let run = running_method p ac fr st in (run.0, ap (method_at p) st.method ∙ run.1, run.1)

  says : (is_constructor_kind running.0.kind || is_position running.0.sig.reset 0) ≡ true
  says = elim (answers_by (method_at p fr.method) answers) [
    | inl alone ↦ or_left (is_constructor_kind running.0.kind) (is_position running.0.sig.reset 0)
        (sym (ap constructs running.2) ∙ (and_parts (constructs (method_at p fr.method)) (not (is_present (alias_in (method_at p fr.method)))) alone).0)
    | inr opens ↦ or_right (is_constructor_kind running.0.kind) (is_position running.0.sig.reset 0)
        (sym (ap (λ (m : Option Method). is_position (reset_in m) 0) running.2) ∙ (and_parts (not (constructs (method_at p fr.method))) (is_position (reset_in (method_at p fr.method)) 0) opens).1)
  ]

  -- a fact with the place `this` is lent
  pub this_lent : (away anew : Bool) (o : ℕ) (x : Object) (c : Covers p h away anew old frs fr o x) → has c.fact.places places.This ≡ true → c.fact.mode ≡ modes.Lent
  this_lent away anew o x c is =
      let reach = subst (λ (b : BodyId). Reach p b (relation_of p b) c.origin fr.control c.fact) (same_body c.body st.number (body_id p fr.method) c.id st.id) c.reached in
      lent_mode c.fact.mode (this_is_lent_on_paths p st.number st.body running.0 st.at running.1 says c.origin fr.control c.fact reach
      (this_kind c.origin.kind (this_own p ac st.number st.body st.at c.origin fr.control c.fact reach is)))

  module _ (gives : ℕ → ClassId → Bool) (renewed : ℕ → Owner → Bool) (covered : IsCovered p h gives renewed old frs fr) where
    pub this_covers : (r : ℕ) (z : Object) → root_of h fr.locals.this ≡ Some r → object_at h r ≡ Some z → is_heavy_class p z.class ≡ true → OwesOrHolds p h r z
        → (c : Covers p h (gives r z.class) (renewed r z.owner) old frs fr r z) × (c.fact.mode ≡ modes.Lent)
    this_covers r z root at heavy owes =
        let c = covered_at p h (gives r z.class) (renewed r z.owner) old frs fr places.This r z (covered places.This r z tt refl root at heavy owes) in
        (c.0, this_lent (gives r z.class) (renewed r z.owner) r z c.0 c.1)

    -- in a method `this` is lent
    pub lent_this : constructs (method_at p fr.method) ≡ false → (r : ℕ) (z : Object) → root_of h fr.locals.this ≡ Some r → object_at h r ≡ Some z → is_heavy_class p z.class ≡ true → OwesOrHolds p h r z → IsWhole p z → IsLentFrom p h frs r z.owner
    lent_this other r z root at heavy owes whole = go z.finished refl whole
      where
        c : (c : Covers p h (gives r z.class) (renewed r z.owner) old frs fr r z) × (c.fact.mode ≡ modes.Lent)
        c = this_covers r z root at heavy owes

        go : (b : Bool) → z.finished ≡ b → IsWhole p z → IsLentFrom p h frs r z.owner
        go true done whole' = (c.0.lends c.1 done).1
        go false open' (inl done) = absurd (true≢false (sym done ∙ open'))
        go false open' (inr fields) = (c.0.begun c.1 (ap (λ (b : Bool). b && is_this_origin c.0.origin.kind) other) fields open').1
