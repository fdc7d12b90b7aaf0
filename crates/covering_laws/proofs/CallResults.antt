-- What a call gives is covered by its birth: the result of a class type, and the object of a `new`.
use Rattle.std.proofs.Common.{◌≡◌, ◌⊎◌, inl, inr, ℕ, Bool, true, false, ◌&&◌, Option, Some, None, List, slice_get, refl, sym, ap, ◌∙◌, true≢false}
use Rattle.rlc_base.specs.declared.place.Pos.{Pos}
use Rattle.program_model.specs.declared.kinds.ClassId.{ClassId}
use Rattle.program_model.specs.declared.kinds.MethodId.{MethodId}
use Rattle.program_model.specs.declared.kinds.VType.TheVariants as types
use Rattle.program_model.specs.declared.program.Method.{Method}
use Rattle.program_model.specs.declared.program.Program.{Program}
use Rattle.program_model.specs.Lookups.{method_at}
use Rattle.ledger_obligations.specs.MustCallSets.{Names, is_heavy_class, no_names}
use Rattle.java_control.specs.Control.{Step}
use Rattle.java_control.specs.PlaceNumbers.{IsSmall}
use Rattle.control_actions.specs.declared.action.Action.{Action}
use Rattle.control_actions.specs.declared.action.Action.TheVariants as actions
use Rattle.control_actions.specs.declared.action.Edge.{Edge}
use Rattle.control_actions.specs.declared.action.Edge.TheVariants as edges
use Rattle.control_actions.specs.declared.action.TargetForm.{TargetForm}
use Rattle.control_actions.specs.declared.fact.Fact.{Fact}
use Rattle.control_actions.specs.declared.fact.Mode.TheVariants as modes
use Rattle.control_actions.specs.declared.fact.Origin.{Origin}
use Rattle.control_actions.specs.declared.fact.OriginKind.TheVariants as kinds
use Rattle.control_actions.specs.declared.place.Place.{Place}
use Rattle.control_actions.specs.declared.place.Place.TheVariants as places
use Rattle.ownership_rules.specs.Facts.{has, is_own, is_held}
use Rattle.ownership_rules.specs.Births.{birth_on, fact_at, new_birth, origin_of, result_birth, result_fact}
use Rattle.ledger_state.specs.Contents.{HeapContents}
use Rattle.ledger_state.specs.Heaps.{root_of}
use Rattle.ledger_state.specs.declared.object.Object.{Object}
use Rattle.ledger_state.specs.declared.value.Value.{Value}
use Rattle.value_laws.specs.Places.{place_value}
use Rattle.value_laws.specs.Configuration.{Frame}
use Rattle.value_laws.specs.Choosing.{frame_steps}
use Rattle.value_laws.specs.Frames.{frame_after}
use Rattle.value_laws.specs.Agreement.{Stands}
use Rattle.value_laws.specs.PlaceFacts.{Covers, IsTrueOf, IsUnowned, claims}
use Rattle.covering_laws.proofs.Births.{born_covers}
use Rattle.covering_laws.proofs.BornTruths.{new_is_other, new_unlent, result_is_other, result_unlent}

result_birth_is : (p : Program) (d : ℕ) (pos : Pos) (x : Method) (r : ClassId) → x.sig.alias ≡ None → x.sig.result ≡ Some (types.Obj r)
    → result_birth p d pos (Some x) ≡ Some (origin_of p kinds.Result pos r x.sig.first, result_fact d x.sig.owning_result)
result_birth_is p d pos x r alias result = rw (alias, result) refl

new_birth_is : (p : Program) (d : ℕ) (pos : Pos) (x : Method) → x.sig.alias ≡ None → is_heavy_class p x.class ≡ true
    → new_birth p d pos (Some x) ≡ Some (origin_of p kinds.New pos x.class x.sig.first, fact_at (places.Temp d) modes.Own no_names false)
new_birth_is p d pos x alias heavy = rw (heavy, alias) refl

pub unclaimed : (p : Program) (m : Option Method) (g : Origin) (q : Place) → claims p m g (fact_at q modes.None no_names true) ≡ true → ⊥
unclaimed p m g q claimed = true≢false (sym claimed ∙ go (is_heavy_class p g.class))
  where
    go : (b : Bool) → (b && false) ≡ false
    go true = refl
    go false = refl

pub unowned_mode : (p : Program) (g : Origin) → (is_heavy_class p g.class && is_own modes.None) ≡ false
unowned_mode p g = go (is_heavy_class p g.class)
  where
    go : (b : Bool) → (b && false) ≡ false
    go true = refl
    go false = refl

-- other modes than that of what is lent
not_lent_own : modes.Own ≡ modes.Lent → ⊥
not_lent_own is = let never : modes.Own ≡ modes.Lent = is in cc

pub not_lent_none : modes.None ≡ modes.Lent → ⊥
not_lent_none is = let never : modes.None ≡ modes.Lent = is in cc

-- the place is in a fact for which this is so, and which does not say that a field holds the object, or in one that does not say that the frame owns it
abbrev pub IsBornSo : Program → HeapContents → Bool → (ℕ → Bool) → List Frame → Frame → Place → ℕ → Object → Type 0 → Type 0
IsBornSo p k anew old frs fr q o y A = ((c : Covers p k false anew old frs fr o y) × (has c.fact.places q ≡ true) × (is_held c.fact.mode ≡ false) × A) ⊎ IsUnowned p k false anew old frs fr q o y

-- what is born is in a fact that does not say so
pub born_unowned : (p : Program) (k : HeapContents) (anew : Bool) (old : ℕ → Bool) (frs : List Frame) (fr : Frame) (q : Place) (o : ℕ) (y : Object) (g : Origin) (f : Fact)
    → (c : Covers p k false anew old frs fr o y) × (has c.fact.places q ≡ true) × (c.origin ≡ g) × (c.fact ≡ f) → claims p (method_at p fr.method) g f ≡ false → IsUnowned p k false anew old frs fr q o y
born_unowned p k anew old frs fr q o y g f (c, there, origin, fact) none = record { covers = c; here = there; unowned = ap (λ (u : Origin). claims p (method_at p fr.method) u c.fact) origin ∙ ap (claims p (method_at p fr.method) g) fact ∙ none }

module _ (p : Program) (h k : HeapContents) (fr : Frame) (st : Stands p fr) (i : ℕ) (s : Step) (here : slice_get (frame_steps p fr) i ≡ Some s) (v : Value) (old : ℕ → Bool) (frs : List Frame) (anew : Bool) (d o : ℕ) (y : Object) (small : IsSmall (places.Temp d))
    (root : root_of k (place_value p k fr.method (frame_after p h fr s v).locals (places.Temp d)) ≡ Some o) (m : MethodId) (x : Method) (edge : s.edge ≡ edges.Go) (named : method_at p m ≡ Some x) (alias : x.sig.alias ≡ None) where
  -- the result of a call
  pub result_covers : (c : ℕ) (form : TargetForm) (r : ClassId) → s.action ≡ actions.Call m d c form → x.sig.result ≡ Some (types.Obj r)
      → (x.sig.owning_result ≡ true → is_heavy_class p r ≡ true → IsTrueOf p y (origin_of p kinds.Result s.pos r x.sig.first) (fact_at (places.Temp d) modes.Own no_names false))
      → IsBornSo p k anew old frs (frame_after p h fr s v) (places.Temp d) o y ((x.sig.owning_result ≡ true) × (is_heavy_class p r ≡ true))
  result_covers c form r is result truth = by x.sig.owning_result refl
    where
      birth : birth_on p s.action s.edge s.pos ≡ Some (origin_of p kinds.Result s.pos r x.sig.first, result_fact d x.sig.owning_result)
      birth = ap (λ (a : Action). birth_on p a s.edge s.pos) is ∙ ap (λ (f : Edge). birth_on p (actions.Call m d c form) f s.pos) edge
          ∙ ap (result_birth p d s.pos) named ∙ result_birth_is p d s.pos x r alias result

      class : (origin_of p kinds.Result s.pos r x.sig.first).class ≡ r
      class = go x.sig.first
        where
          go : (first : Option Names) → (origin_of p kinds.Result s.pos r first).class ≡ r
          go None = refl
          go (Some f) = refl

      heavy_of : (b c' : Bool) → (b && c') ≡ true → b ≡ true
      heavy_of true c' e = refl
      heavy_of false c' e = absurd (true≢false (sym e))

      by : (b : Bool) → x.sig.owning_result ≡ b → IsBornSo p k anew old frs (frame_after p h fr s v) (places.Temp d) o y ((x.sig.owning_result ≡ true) × (is_heavy_class p r ≡ true))
      by true own = by_class (is_heavy_class p r) refl
        where
          born_here : (z : Covers p k false anew old frs (frame_after p h fr s v) o y) × (has z.fact.places (places.Temp d) ≡ true) × (z.origin ≡ origin_of p kinds.Result s.pos r x.sig.first)
              × (z.fact ≡ fact_at (places.Temp d) modes.Own no_names false)
          born_here =
              born_covers p k fr st i s here (frame_after p h fr s v) old frs anew (places.Temp d) o y (origin_of p kinds.Result s.pos r x.sig.first) modes.Own false refl refl small refl
              (birth ∙ ap (λ (b : Bool). Some (origin_of p kinds.Result s.pos r x.sig.first, result_fact d b)) own) root
              (result_unlent p s.pos r x.sig.first) refl not_lent_own (result_is_other p s.pos r x.sig.first) (λ claimed. truth own (ap (is_heavy_class p) (sym class) ∙ heavy_of _ _ claimed))

          by_class : (b : Bool) → is_heavy_class p r ≡ b → IsBornSo p k anew old frs (frame_after p h fr s v) (places.Temp d) o y ((x.sig.owning_result ≡ true) × (is_heavy_class p r ≡ true))
          by_class true heavy = inl (born_here.0, born_here.1, ap (λ (f : Fact). is_held f.mode) born_here.3, (own, heavy))
          by_class false light = inr (born_unowned p k anew old frs (frame_after p h fr s v) (places.Temp d) o y (origin_of p kinds.Result s.pos r x.sig.first) (fact_at (places.Temp d) modes.Own no_names false) born_here
              (ap (λ (b : Bool). b && true) (ap (is_heavy_class p) class ∙ light)))
      by false own =
          inr (born_unowned p k anew old frs (frame_after p h fr s v) (places.Temp d) o y (origin_of p kinds.Result s.pos r x.sig.first) (fact_at (places.Temp d) modes.None no_names true)
          (born_covers p k fr st i s here (frame_after p h fr s v) old frs anew (places.Temp d) o y (origin_of p kinds.Result s.pos r x.sig.first) modes.None true refl refl small refl
          (birth ∙ ap (λ (b : Bool). Some (origin_of p kinds.Result s.pos r x.sig.first, result_fact d b)) own) root
          (result_unlent p s.pos r x.sig.first) refl not_lent_none (result_is_other p s.pos r x.sig.first) (λ claimed. absurd (unclaimed p (method_at p fr.method) (origin_of p kinds.Result s.pos r x.sig.first) (places.Temp d) claimed)))
          (unowned_mode p (origin_of p kinds.Result s.pos r x.sig.first)))

  -- the object of a `new`
  pub new_covers : (c : ℕ) → s.action ≡ actions.New m d c → is_heavy_class p x.class ≡ true
      → IsTrueOf p y (origin_of p kinds.New s.pos x.class x.sig.first) (fact_at (places.Temp d) modes.Own no_names false) → (z : Covers p k false anew old frs (frame_after p h fr s v) o y) × (has z.fact.places (places.Temp d) ≡ true) × (is_held z.fact.mode ≡ false)
  new_covers c is heavy truth =
      let z = born_covers p k fr st i s here (frame_after p h fr s v) old frs anew (places.Temp d) o y (origin_of p kinds.New s.pos x.class x.sig.first) modes.Own false refl refl small refl
      (ap (λ (a : Action). birth_on p a s.edge s.pos) is ∙ ap (λ (f : Edge). birth_on p (actions.New m d c) f s.pos) edge ∙ ap (new_birth p d s.pos) named ∙ new_birth_is p d s.pos x alias heavy)
      root (new_unlent p s.pos x.class x.sig.first) refl not_lent_own (new_is_other p s.pos x.class x.sig.first) (λ claimed. truth) in
      (z.0, z.1, ap (λ (f : Fact). is_held f.mode) z.3)
