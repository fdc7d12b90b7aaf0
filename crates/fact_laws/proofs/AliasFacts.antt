-- A fact in mode Alias that a path brings to a control is that of the aliased parameter, and holds in it. A parameter's fact is of the class of its declared type.
use Rattle.std.proofs.Common.{◌≡◌, ap, refl, sym, subst, arith, ℕ, suc, ◌+◌, ◌<◌, ◌≤◌, Bool, true, false, true≢false, ◌||◌, lt-ltb, nat_lt, Option, Some, List, length, slice_get, IsSomeAnd, ◌∙◌}
use Rattle.std.specs.List.{list_any}
use Rattle.std.proofs.lemmas.Bool.{and_from, eq-eqb}
use Rattle.program_model.specs.declared.kinds.BodyId.{BodyId}
use Rattle.program_model.specs.declared.kinds.VType.TheVariants as types
use Rattle.program_model.specs.declared.program.Method.{Method}
use Rattle.program_model.specs.declared.program.ParamSig.{ParamSig}
use Rattle.program_model.specs.declared.program.Program.{Program}
use Rattle.program_model.specs.declared.program.Promise.{Promise}
use Rattle.program_model.specs.declared.tree.Body.{Body}
use Rattle.program_model.specs.Lookups.{body_at, method_at}
use Rattle.program_model.specs.Validity.{IfPosition, IsBodyOf}
use Rattle.ownership_rules.specs.Assigned.{is_spoken_of, is_spoken_variable}
use Rattle.ownership_rules.specs.Signatures.{is_at, is_position}
use Rattle.java_control.specs.PlaceNumbers.{IsSmall, number_of}
use Rattle.java_control.specs.Remaining.{Todo}
use Rattle.java_control.specs.Scopes.{drops_variable}
use Rattle.java_control.specs.Sources.{is_place, is_this_place}
use Rattle.control_actions.specs.declared.action.Action.{Action}
use Rattle.control_actions.specs.declared.action.Action.TheVariants as actions
use Rattle.control_actions.specs.declared.fact.Fact.{Fact}
use Rattle.control_actions.specs.declared.fact.Mode.TheVariants as modes
use Rattle.control_actions.specs.declared.fact.Origin.{Origin}
use Rattle.control_actions.specs.declared.fact.OriginKind.{OriginKind}
use Rattle.control_actions.specs.declared.fact.OriginKind.TheVariants as kinds
use Rattle.control_actions.specs.declared.place.Place.TheVariants as places
use Rattle.ownership_rules.specs.Facts.{has, is_alias}
use Rattle.place_laws.specs.Paths.{Comes, Move, Reach, born, entered, flowed, relation_of}
use Rattle.place_laws.specs.Accept.{Accept}
use Rattle.place_laws.specs.Setting.{sets_this, sets_variable}
use Rattle.place_laws.proofs.AssignedReached.{spoken_stay, this_stay}
use Rattle.place_laws.proofs.Unassigned.{first_false, second_false}
use Rattle.fact_laws.proofs.AliasFlows.{next_stays}
use Rattle.fact_laws.proofs.EntryFacts.{HasDeclaredClass, born_elsewhere_entered, entry_entered, place_at}
use Rattle.fact_laws.proofs.Origins.{comes, few, few_parameters, not_this}
use Rattle.fact_laws.proofs.Staying.{LeavesIt}

-- ---- steps that leave the place alone

pub unset_leaves : (b : Body) (a : Action) (v : ℕ) → sets_variable b a v ≡ false → LeavesIt b a (places.Var v)
unset_leaves b actions.Skip v stays = tt
unset_leaves b (actions.Copy x y) v stays = stays
unset_leaves b (actions.Move x y) v stays = (second_false (is_place y (places.Var v)) (is_place x (places.Var v)) stays, first_false (is_place y (places.Var v)) (is_place x (places.Var v)) stays)
unset_leaves b (actions.Plain x value) v stays = stays
unset_leaves b (actions.Drop s) v stays = λ i inside same. ap (drops_variable b s) (sym same) ∙ stays
unset_leaves b (actions.Enter clause x first d) v stays = stays
unset_leaves b a v stays = tt

pub this_leaves : (b : Body) (a : Action) → sets_this a ≡ false → LeavesIt b a places.This
this_leaves b actions.Skip stays = tt
this_leaves b (actions.Copy x y) stays = not_this x stays
this_leaves b (actions.Move x y) stays = (not_this x (second_false (is_this_place y) (is_this_place x) stays), not_this y (first_false (is_this_place y) (is_this_place x) stays))
this_leaves b (actions.Plain x value) stays = not_this x stays
this_leaves b (actions.Drop s) stays = λ i inside same. absurd (omega (arith, inside, same))
this_leaves b (actions.Enter clause x first d) stays = refl
this_leaves b a stays = tt

-- ---- paths

module _ (p : Program) (ac : Accept p) (b : BodyId) (x : Body) (m : Method) (at : body_at p b ≡ Some x) (of : method_at p x.method ≡ Some m) where
  declared : (o : Origin) (k : List Todo) (f : Fact) → Reach p b (relation_of p b) o k f → HasDeclaredClass p m o o.kind
  declared o _ f (entered n is) = (entry_entered p m b x at of n o f is).0
  declared o _ f (born i n t before here is) = (born_elsewhere_entered p m b t.action t.edge t.pos n o f is).0
  declared o _ g (flowed {k} {f} i t before here is) = declared o k f before

  module _ (k : ℕ) (alias : m.sig.alias ≡ Some k) (small : IsSmall (place_at p m k)) (low : number_of (place_at p m k) < 161)
      (leaves : (c : List Todo) (i : ℕ) (t : Move (List Todo)) → Comes (relation_of p b) c → slice_get ((relation_of p b).next c) i ≡ Some t → LeavesIt x t.action (place_at p m k)) where
    holds : (o : Origin) (c : List Todo) (f : Fact) → Reach p b (relation_of p b) o c f → is_alias f.mode ≡ true → has f.places (place_at p m k) ≡ true
    holds o _ f (entered n is) mode = (entry_entered p m b x at of n o f is).1 k alias mode
    holds o _ f (born i n t before here is) mode = (born_elsewhere_entered p m b t.action t.edge t.pos n o f is).1 k alias mode
    holds o _ g (flowed {k = c} {f = f} i t before here is) mode =
        let reached = comes p ac b x at o c f before in
        let stays = next_stays (place_at p m k) low p b o f x t.action t.edge g at small ((ac.fits b).steps i t reached here) (leaves c i t reached here) is in
        stays.1 (holds o c f before (stays.0.0 mode))

-- ---- the laws

-- the aliased parameter is one that the signature speaks of
pub aliased_is_spoken : (m : Method) (v : ℕ) → m.sig.alias ≡ Some (suc v) → suc v ≤ length m.sig.params.items → is_spoken_variable m v ≡ true
aliased_is_spoken m v alias inside =
    and_from (nat_lt v (length m.sig.params.items)) (is_spoken_of m.sig (v + 1)) (lt-ltb v (length m.sig.params.items) (omega (arith, inside)))
    (first (is_position m.sig.alias (v + 1)) (is_position m.sig.reset (v + 1)) (list_any (λ (u : Promise). is_at u.target (v + 1)) m.sig.promises.items) (list_any (λ (u : Promise). is_at u.target (v + 1)) m.sig.on_throw.items)
    (ap (λ (a : Option ℕ). is_position a (v + 1)) alias ∙ eq-eqb (suc v) (v + 1) (omega arith)))
  where
    first : (c d e f : Bool) → c ≡ true → (c || d || e || f) ≡ true
    first true d e f is = refl
    first false d e f is = absurd (true≢false (sym is))

pub parameter_holds : (p : Program) → Accept p → (b : BodyId) (x : Body) (m : Method) (v : ℕ) → body_at p b ≡ Some x → method_at p x.method ≡ Some m → m.sig.alias ≡ Some (suc v)
    → (o : Origin) (k : List Todo) (f : Fact) → Reach p b (relation_of p b) o k f → f.mode ≡ modes.Alias → has f.places (places.Var v) ≡ true
parameter_holds p ac b x m v at of alias o k f reach mode =
    holds p ac b x m at of (suc v) alias small (omega (arith, small))
    (λ c i t reached here. unset_leaves x t.action v (spoken_stay p ac.well_formed.valid b x m v at of (ac.well_formed.unassigned b x at) (aliased_is_spoken m v alias inside) c i t reached here)) o k f reach (ap is_alias mode)
  where
    inside : suc v ≤ length m.sig.params.items
    inside = subst (λ (a : Option ℕ). IfPosition m.sig a) alias (ac.well_formed.valid.typed.methods x.method m of).signature.alias

    small : v < 160
    small =
        let has' = subst (λ (y : Option Method). IsSomeAnd y (IsBodyOf b x)) of (ac.well_formed.valid.typed.bodies b x at).method in
        let fit : length m.sig.params.items ≤ length x.vars.items = few_parameters x.vars.items m.sig.params.items has'.1 in
        let room : length x.vars.items ≤ 160 = few p ac b x at in
        omega (arith, fit, inside, room)

pub this_holds : (p : Program) → Accept p → (b : BodyId) (x : Body) (m : Method) → body_at p b ≡ Some x → method_at p x.method ≡ Some m → m.sig.alias ≡ Some 0
    → (o : Origin) (k : List Todo) (f : Fact) → Reach p b (relation_of p b) o k f → f.mode ≡ modes.Alias → has f.places places.This ≡ true
this_holds p ac b x m at of alias o k f reach mode =
    holds p ac b x m at of 0 alias tt (omega arith) (λ c i t reached here. this_leaves x t.action (this_stay p ac.well_formed.valid b x at c i t reached here)) o k f reach (ap is_alias mode)

pub parameter_class : (p : Program) → Accept p → (b : BodyId) (x : Body) (m : Method) (v : ℕ) (q : ParamSig) → body_at p b ≡ Some x → method_at p x.method ≡ Some m → slice_get m.sig.params.items v ≡ Some q
    → (o : Origin) (k : List Todo) (f : Fact) → Reach p b (relation_of p b) o k f → o.kind ≡ kinds.Param v → q.vtype ≡ types.Obj o.class
parameter_class p ac b x m v q at of param o k f reach kind = subst (λ (e : OriginKind). HasDeclaredClass p m o e) kind (declared p ac b x m at of o k f reach) q param

pub this_class : (p : Program) → Accept p → (b : BodyId) (x : Body) (m : Method) → body_at p b ≡ Some x → method_at p x.method ≡ Some m
    → (o : Origin) (k : List Todo) (f : Fact) → Reach p b (relation_of p b) o k f → o.kind ≡ kinds.ThisRef → o.class ≡ m.class
this_class p ac b x m at of o k f reach kind = subst (λ (e : OriginKind). HasDeclaredClass p m o e) kind (declared p ac b x m at of o k f reach)
