-- Where the way up from `this` of a frame ends on which a settled frame may run, or which answers for the fields of `this`: no frame from this one on owns the end.
use Rattle.std.proofs.Common.{◌≡◌, inl, ap, refl, sym, ◌∙◌, ℕ, ◌+◌, Bool, true, false, not, ◌&&◌, ◌||◌, true≢false, Some, None, List, length, subst}
use Rattle.program_model.specs.declared.kinds.BodyId.{BodyId}
use Rattle.program_model.specs.declared.kinds.ClassId.{ClassId}
use Rattle.program_model.specs.declared.program.Program.{Program}
use Rattle.program_model.specs.Lookups.{method_at}
use Rattle.ledger_obligations.specs.Bodies.{constructs}
use Rattle.ledger_obligations.specs.Obligations.{is_library_owner}
use Rattle.control_actions.specs.declared.place.Place.TheVariants as places
use Rattle.ledger_state.specs.Contents.{HeapContents}
use Rattle.ledger_state.specs.Heaps.{object_at, root_of}
use Rattle.ledger_state.specs.declared.entry.Owner.{Owner}
use Rattle.ledger_state.specs.declared.entry.Owner.TheVariants as owners
use Rattle.ledger_state.specs.declared.object.Object.{Object}
use Rattle.ledger_state.specs.declared.value.Value.TheVariants as values
use Rattle.value_laws.specs.Accept.{Accept}
use Rattle.value_laws.specs.Agreement.{Stands}
use Rattle.value_laws.specs.Chains.{HaveEnds}
use Rattle.value_laws.specs.Choosing.{body_id}
use Rattle.value_laws.specs.Configuration.{Frame}
use Rattle.value_laws.specs.FieldContents.{AreUnfinished, FieldsOwn}
use Rattle.value_laws.specs.Frames.{KeepsTargets}
use Rattle.value_laws.specs.HeapAnew.{is_field_owner}
use Rattle.value_laws.specs.Heaps.{HasEarlierLinks}
use Rattle.value_laws.specs.Holders.{HasTop}
use Rattle.value_laws.specs.Paths.{Reach, relation_of}
use Rattle.value_laws.specs.PlaceFacts.{EndsBelow, IsCovered, IsHeavyObject, IsOld, OwesOrHolds, is_frame_from, is_settled}
use Rattle.value_laws.specs.PlainForms.{HasPlainForms}
use Rattle.value_laws.specs.Ranges.{LocalsInRange}
use Rattle.value_laws.specs.Renewing.{reopens}
use Rattle.value_laws.proofs.FactOrigins.{this_own}
use Rattle.value_laws.proofs.RootLaws.{one_object, root_itself}
use Rattle.value_laws.proofs.SparingCalls.{lent_ends_below}
use Rattle.value_laws.proofs.WaysUp.{one_top, top_is_last}
use Rattle.covering_laws.proofs.Following.{same_body}
use Rattle.covering_laws.proofs.HeavyFields.{covered_at, reopening_answers}
use Rattle.covering_laws.proofs.ThisLent.{this_covers}

module _ (p : Program) (ac : Accept p) (forms : HasPlainForms p) (h : HeapContents) (have : HaveEnds h) (links : HasEarlierLinks h) (owned : FieldsOwn p h) (fr : Frame) (mine : LocalsInRange h fr.locals) (st : Stands p fr) (old : ℕ → Bool) (frs : List Frame)
    (targets : KeepsTargets p fr) (unfinished : AreUnfinished p h frs) (aged : IsOld p h frs fr old) (gives : ℕ → ClassId → Bool) (renewed : ℕ → Owner → Bool) (covered : IsCovered p h gives renewed old frs fr) where
  module _ (w : ℕ) (y : Object) (this : fr.locals.this ≡ values.Object w) (there : object_at h w ≡ Some y) (wide : IsHeavyObject p y) (none : y.link ≡ None) (e : ℕ) (top : HasTop h w e) where
    self : root_of h fr.locals.this ≡ Some w
    self = ap (root_of h) this ∙ ap Some (root_itself h w y there none)

    abbrev IsFree : Type 0
    IsFree = is_frame_from (length frs + 1) top.object.owner ≡ false

    by_ends : EndsBelow h frs w → IsFree
    by_ends ends =
        let same = one_top h w ends.end e ends.top top in
        ap (λ (u : Object). is_frame_from (length frs + 1) u.owner) (one_object top.object ends.top.object (object_at h e) top.at (ap (object_at h) (sym same) ∙ ends.top.at)) ∙ ends.below

    -- it is its own end where the library owns it
    by_library : is_library_owner y.owner ≡ true → IsFree
    by_library is =
        let same = top_is_last h w e y there (unheld y.owner is) top.within in
        ap (λ (u : Object). is_frame_from (length frs + 1) u.owner) (one_object top.object y (object_at h e) top.at (ap (object_at h) (sym same) ∙ there)) ∙ free y.owner is
      where
        unheld : (a : Owner) → is_library_owner a ≡ true → is_field_owner a ≡ false
        unheld owners.Library is' = refl
        unheld (owners.Field v f) is' = absurd (true≢false (sym is'))
        unheld (owners.Frame i) is' = refl
        unheld owners.Released is' = refl
        unheld owners.Lost is' = refl
        unheld owners.Unowned is' = refl

        free : (a : Owner) → is_library_owner a ≡ true → is_frame_from (length frs + 1) a ≡ false
        free owners.Library is' = refl
        free (owners.Field v f) is' = refl
        free (owners.Frame i) is' = absurd (true≢false (sym is'))
        free owners.Released is' = refl
        free owners.Lost is' = refl
        free owners.Unowned is' = refl

    module _ (owes : OwesOrHolds p h w y) where
      not_made : constructs (method_at p fr.method) ≡ true → ⊥
      not_made makes =
          let c = covered_at p h (gives w y.class) (renewed w y.owner) old frs fr places.This w y (covered places.This w y tt refl self there wide.1 owes) in
          let reach = subst (λ (b : BodyId). Reach p b (relation_of p b) c.0.origin fr.control c.0.fact) (same_body c.0.body st.number (body_id p fr.method) c.0.id st.id) c.0.reached in
          true≢false (sym wide.0 ∙ c.0.makes makes (this_own p ac st.number st.body st.at c.0.origin fr.control c.0.fact reach c.1))

      by_lent : reopens (method_at p fr.method) ≡ true → IsFree
      by_lent opens =
          let c = this_covers p ac h fr st old frs (reopening_answers (method_at p fr.method) opens) gives renewed covered w y self there wide.1 owes in
          by_ends (lent_ends_below p h have frs unfinished w y there (c.0.lends c.1 wide.0).1)

      by_cases : (a b c : Bool) → constructs (method_at p fr.method) ≡ a → reopens (method_at p fr.method) ≡ b → is_settled p fr frs ≡ c → (a || (b || c)) ≡ true → IsFree
      by_cases true b c makes opens settled some = absurd (not_made makes)
      by_cases false true c makes opens settled some = by_lent opens
      by_cases false false true makes opens settled some = by_ends (aged.ends w y there wide (aged.self w y this there wide none settled))
      by_cases false false false makes opens settled some = absurd (true≢false (sym some))

    pub this_ends : (constructs (method_at p fr.method) || (reopens (method_at p fr.method) || is_settled p fr frs)) ≡ true → IsFree
    this_ends some = go (is_library_owner y.owner) refl
      where
        go : (b : Bool) → is_library_owner y.owner ≡ b → IsFree
        go true is = by_library is
        go false other = by_cases (inl (ap (λ (b : Bool). not (b && is_library_owner y.owner)) wide.0 ∙ ap not other)) (constructs (method_at p fr.method)) (reopens (method_at p fr.method)) (is_settled p fr frs) refl refl refl some
