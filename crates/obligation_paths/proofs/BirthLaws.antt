-- The facts of births have origin 0, and so have the facts of paths.
use Rattle.std.proofs.Common.{◌≡◌, ◌∙◌, sym, ap, refl, ℕ, ◌+◌, inl, inr, zero, suc, Bool, true, false, Option, Some, None, List, [], ◌∷◌, ◌++◌}
use Rattle.std.specs.Prelude.{◌&&◌, not, if◌then◌else◌}
use Rattle.std.specs.List.{cons_option, filter_map}
use Rattle.rlc_base.specs.declared.place.Pos.{Pos}
use Rattle.program_model.specs.declared.kinds.BodyId.{BodyId}
use Rattle.program_model.specs.declared.kinds.ClassId.{ClassId}
use Rattle.program_model.specs.declared.kinds.FieldId.{FieldId}
use Rattle.program_model.specs.declared.kinds.MethodKind.{MethodKind}
use Rattle.program_model.specs.declared.kinds.MethodKind.TheVariants as methods
use Rattle.program_model.specs.declared.kinds.VType.{VType}
use Rattle.program_model.specs.declared.kinds.VType.TheVariants as types
use Rattle.program_model.specs.declared.program.Field.{Field}
use Rattle.program_model.specs.declared.program.Method.{Method}
use Rattle.program_model.specs.declared.program.ParamSig.{ParamSig}
use Rattle.program_model.specs.declared.program.Program.{Program}
use Rattle.program_model.specs.declared.program.Sig.{Sig}
use Rattle.program_model.specs.declared.tree.Body.{Body}
use Rattle.program_model.specs.declared.tree.Var.{Var}
use Rattle.program_model.specs.Lookups.{body_at, field_at, method_at, optional, variable_at}
use Rattle.breadth_first.specs.Searches.{IsAt}
use Rattle.breadth_first.proofs.ListLaws.{at_split}
use Rattle.java_control.specs.Calls.{is_reset_of_this}
use Rattle.java_control.specs.Owned.{place_of_field}
use Rattle.control_actions.specs.declared.action.Action.{Action}
use Rattle.control_actions.specs.declared.action.Action.TheVariants as actions
use Rattle.control_actions.specs.declared.action.Edge.{Edge}
use Rattle.control_actions.specs.declared.action.Edge.TheVariants as edges
use Rattle.control_actions.specs.declared.action.PlainValue.{PlainValue}
use Rattle.control_actions.specs.declared.action.PlainValue.TheVariants as plain
use Rattle.control_actions.specs.declared.fact.Fact.{Fact}
use Rattle.control_actions.specs.declared.fact.Mode.TheVariants as modes
use Rattle.control_actions.specs.declared.fact.Origin.{Origin}
use Rattle.control_actions.specs.declared.fact.OriginKind.{OriginKind}
use Rattle.control_actions.specs.declared.fact.OriginKind.TheVariants as kinds
use Rattle.control_actions.specs.declared.fact.Outcome.TheVariants.{Next}
use Rattle.control_actions.specs.declared.place.Place.{Place}
use Rattle.control_actions.specs.declared.place.Place.TheVariants as places
use Rattle.flow_rules.specs.MustCallSets.{Names, is_heavy_class, no_names}
use Rattle.flow_rules.specs.Signatures.{field_type, is_present}
use Rattle.flow_rules.specs.Bodies.{fields_of, has_field_place}
use Rattle.flow_rules.specs.MovesAtReturns.{result_in}
use Rattle.flow_rules.specs.Births.{Birth, birth_on, birth_on_go, births_at_entry, births_of_step, born, born_in, class_of, constant_birth, entry_births_in, entry_births_of, fact_at, field_birth, field_birth_place, field_births, has_this, held_births, new_birth, origin_of, owning_field_birth, parameter_birth, parameter_births, parameter_mode, read_birth, reset_births, result_birth, result_fact, this_birth, this_mode}
use Rattle.flow_rules.specs.Flow.{flow}
use Rattle.flow_rules.specs.Numbering.{numbered, numbered_outcome}
use Rattle.flow_rules.specs.Paths.{IsPath, Reach, Relation, Taken, start, on, entered, born as born_on, flowed}
use Rattle.flow_rules.proofs.NumberingLaws.{flow-numbered}

-- the fact of the birth has origin 0, if there is one
abbrev IsUnnumbered : Option Birth → Type 0
IsUnnumbered o = (x : Birth) → o ≡ Some x → x.1.origin ≡ 0

abbrev AreUnnumbered : List Birth → Type 0
AreUnnumbered xs = (k : ℕ) (x : Birth) → IsAt xs k x → x.1.origin ≡ 0

no_birth : IsUnnumbered None
no_birth x h = absurd (let never : None ≡ Some x = h in cc)

no_births : AreUnnumbered []
no_births k x here = absurd (let never : None ≡ Some x = here in cc)

either : (r : Bool) (o q : Option Birth) → IsUnnumbered o → IsUnnumbered q → IsUnnumbered (if r then o else q)
either true o q one other = one
either false o q one other = other

either_list : (r : Bool) (xs ys : List Birth) → AreUnnumbered xs → AreUnnumbered ys → AreUnnumbered (if r then xs else ys)
either_list true xs ys one other = one
either_list false xs ys one other = other

listed : (o : Option Birth) → IsUnnumbered o → AreUnnumbered (optional o)
listed None h k x here = absurd (let never : None ≡ Some x = here in cc)
listed (Some y) h zero x here = h x here
listed (Some y) h (suc k) x here = absurd (let never : None ≡ Some x = here in cc)

both : (xs ys : List Birth) → AreUnnumbered xs → AreUnnumbered ys → AreUnnumbered (xs ++ ys)
both xs ys first second k x here =
    elim (at_split xs ys k x here) [
      | inl early ↦ first k x early
      | inr late ↦ second late.0 x late.1.1
    ]

put : (o : Option Birth) (ys : List Birth) → IsUnnumbered o → AreUnnumbered ys → AreUnnumbered (cons_option o ys)
put None ys first rest k x here = rest k x here
put (Some y) ys first rest zero x here = first x here
put (Some y) ys first rest (suc k) x here = rest k x here

filtered : {Y : Type 0} (f : Y → Option Birth) (ys : List Y) → ((y : Y) → IsUnnumbered (f y)) → AreUnnumbered (filter_map f ys)
filtered f [] each = no_births
filtered f (y ∷ ys) each = put (f y) (filter_map f ys) (each y) (filtered f ys each)

born_of_class : (p : Program) (kind : OriginKind) (pos : Pos) (c : Option ClassId) (first : Option Names) (f : Fact) → f.origin ≡ 0 → IsUnnumbered (born_in p kind pos c first f)
born_of_class p kind pos None first f none x h = absurd (let never : None ≡ Some x = h in cc)
born_of_class p kind pos (Some c) first f none x h =
    let same : (origin_of p kind pos c first, f) ≡ x = cc in
    ap (λ (y : Birth). y.1.origin) (sym same) ∙ none

born_once : (p : Program) (kind : OriginKind) (pos : Pos) (t : Option VType) (first : Option Names) (f : Fact) → f.origin ≡ 0 → IsUnnumbered (born p kind pos t first f)
born_once p kind pos t first f none = born_of_class p kind pos (class_of t) first f none

-- ---- at entry

parameter : (p : Program) (s : Sig) (k : ℕ) (x : ParamSig) (v : Option Var) → IsUnnumbered (parameter_birth p s k x v)
parameter p s k x None = no_birth
parameter p s k x (Some v) = born_once p (kinds.Param k) v.pos (Some x.vtype) None (fact_at (places.Var k) (parameter_mode s (k + 1) x) x.before true) refl

parameters : (p : Program) (b : Body) (s : Sig) (k : ℕ) (xs : List ParamSig) → AreUnnumbered (parameter_births p b s k xs)
parameters p b s k [] = no_births
parameters p b s k (x ∷ xs) =
    both (optional (parameter_birth p s k x (variable_at b k))) (parameter_births p b s (k + 1) xs)
    (listed (parameter_birth p s k x (variable_at b k)) (parameter p s k x (variable_at b k))) (parameters p b s (k + 1) xs)

this_object : (p : Program) (m : Method) → IsUnnumbered (this_birth p m)
this_object p m =
    either (has_this m.kind) (born p kinds.ThisRef m.pos (Some (types.Obj m.class)) None (fact_at places.This (this_mode m.sig m.kind) no_names true)) None
    (born_once p kinds.ThisRef m.pos (Some (types.Obj m.class)) None (fact_at places.This (this_mode m.sig m.kind) no_names true) refl) no_birth

owning_field : (p : Program) (f : FieldId) (pos : Option Pos) (x : Option Field) → IsUnnumbered (owning_field_birth p f pos x)
owning_field p f pos None = no_birth
owning_field p f pos (Some x) = born_once p (kinds.FieldAt f) (field_birth_place pos x) (Some x.vtype) None (fact_at (place_of_field p f) modes.Held no_names true) refl

field : (p : Program) (b : BodyId) (pos : Option Pos) (f : FieldId) → IsUnnumbered (field_birth p b pos f)
field p b pos f = either (has_field_place p b f) (owning_field_birth p f pos (field_at p f)) None (owning_field p f pos (field_at p f)) no_birth

fields : (p : Program) (b : BodyId) (pos : Option Pos) → AreUnnumbered (field_births p b pos)
fields p b pos = filtered (field_birth p b pos) (fields_of p b) (field p b pos)

held : (p : Program) (b : BodyId) (kind : MethodKind) → AreUnnumbered (held_births p b kind)
held p b methods.Instance = fields p b None
held p b _ = no_births

entry_of : (p : Program) (b : BodyId) (x : Body) (m : Option Method) → AreUnnumbered (entry_births_of p b x m)
entry_of p b x None = no_births
entry_of p b x (Some m) =
    both (parameter_births p x m.sig 0 m.sig.params.items) (optional (this_birth p m) ++ held_births p b m.kind) (parameters p x m.sig 0 m.sig.params.items)
    (both (optional (this_birth p m)) (held_births p b m.kind) (listed (this_birth p m) (this_object p m)) (held p b m.kind))

entry_in : (p : Program) (b : BodyId) (x : Option Body) → AreUnnumbered (entry_births_in p b x)
entry_in p b None = no_births
entry_in p b (Some x) = entry_of p b x (method_at p x.method)

pub entry_unnumbered : (p : Program) (b : BodyId) → AreUnnumbered (births_at_entry p b)
entry_unnumbered p b = entry_in p b (body_at p b)

-- ---- by steps

new_object : (p : Program) (d : ℕ) (pos : Pos) (m : Option Method) → IsUnnumbered (new_birth p d pos m)
new_object p d pos None = no_birth
new_object p d pos (Some m) =
    either (is_heavy_class p m.class && not (is_present m.sig.alias)) (born p kinds.New pos (Some (types.Obj m.class)) m.sig.first (fact_at (places.Temp d) modes.Own no_names false)) None
    (born_once p kinds.New pos (Some (types.Obj m.class)) m.sig.first (fact_at (places.Temp d) modes.Own no_names false) refl) no_birth

result_unnumbered : (d : ℕ) (owning : Bool) → (result_fact d owning).origin ≡ 0
result_unnumbered d true = refl
result_unnumbered d false = refl

call_result : (p : Program) (d : ℕ) (pos : Pos) (m : Option Method) → IsUnnumbered (result_birth p d pos m)
call_result p d pos None = no_birth
call_result p d pos (Some m) =
    either (is_present m.sig.alias) None (born p kinds.Result pos m.sig.result m.sig.first (result_fact d m.sig.owning_result)) no_birth
    (born_once p kinds.Result pos m.sig.result m.sig.first (result_fact d m.sig.owning_result) (result_unnumbered d m.sig.owning_result))

read : (p : Program) (x : Place) (pos : Pos) (t : Option VType) → IsUnnumbered (read_birth p x pos t)
read p x pos t = born_once p kinds.Read pos t None (fact_at x modes.None no_names true) refl

constant : (p : Program) (x : Place) (pos : Pos) (v : PlainValue) → IsUnnumbered (constant_birth p x pos v)
constant p x pos (plain.LibraryConstant m) = read p x pos (result_in (method_at p m))
constant p x pos _ = no_birth

on_go : (p : Program) (a : Action) (pos : Pos) → IsUnnumbered (birth_on_go p a pos)
on_go p (actions.New m d n) pos = new_object p d pos (method_at p m)
on_go p (actions.Call m d n form) pos = call_result p d pos (method_at p m)
on_go p (actions.Get f d through_this) pos = read p (places.Temp d) pos (field_type p f)
on_go p (actions.Plain x v) pos = constant p x pos v
on_go p _ pos = no_birth

on_edge : (p : Program) (a : Action) (e : Edge) (pos : Pos) → IsUnnumbered (birth_on p a e pos)
on_edge p a edges.Go pos = on_go p a pos
on_edge p a _ pos = no_birth

pub step_unnumbered : (p : Program) (b : BodyId) (a : Action) (e : Edge) (pos : Pos) → AreUnnumbered (births_of_step p b a e pos)
step_unnumbered p b a e pos =
    both (optional (birth_on p a e pos)) (reset_births p b a pos) (listed (birth_on p a e pos) (on_edge p a e pos))
    (either_list (is_reset_of_this p a) (field_births p b (Some pos)) [] (fields p b (Some pos)) no_births)

-- ---- on paths

-- a rule keeps the number
flow_number : (p : Program) (b : BodyId) (o : Origin) (a : Action) (e : Edge) (f g : Fact) → flow p b o a e f ≡ Next g → g.origin ≡ f.origin
flow_number p b o a e f g is =
    let same : Next g ≡ Next (numbered f.origin g) = sym is ∙ flow-numbered f.origin p b o a e f ∙ ap (numbered_outcome f.origin) is in
    let fact : g ≡ numbered f.origin g = cc in
    ap (λ (x : Fact). x.origin) fact

abbrev HasNoNumber : Option Fact → Type 0
HasNoNumber None = Unit {0}
HasNoNumber (Some f) = f.origin ≡ 0

module _ {K : Type 0} (p : Program) (b : BodyId) (r : Relation K) (o : Origin) where
  -- the fact to which a path leads has origin 0
  pub path_unnumbered : (steps : List (Taken K)) (k : K) (f : Option Fact) → IsPath p b r o steps k f → HasNoNumber f
  path_unnumbered _ _ _ start = tt
  path_unnumbered _ _ (Some f) (entered n is) = entry_unnumbered p b n (o, f) is
  path_unnumbered _ _ _ (on i t path at) = tt
  path_unnumbered _ _ (Some f) (born_on i n t path at is) = step_unnumbered p b t.action t.edge t.pos n (o, f) is
  path_unnumbered _ _ (Some g) (flowed {steps} {k} {f} i t path at is) = flow_number p b o t.action t.edge f g is ∙ path_unnumbered steps k (Some f) path

module _ {K : Type 0} (p : Program) (b : BodyId) (r : Relation K) (o : Origin) where
  -- the fact that a path reaches has origin 0
  pub reach_unnumbered : (k : K) (f : Fact) → Reach p b r o k f → f.origin ≡ 0
  reach_unnumbered _ f (entered n is) = entry_unnumbered p b n (o, f) is
  reach_unnumbered _ f (born_on i n t comes at is) = step_unnumbered p b t.action t.edge t.pos n (o, f) is
  reach_unnumbered _ g (flowed {k} {f} i t reached at is) = flow_number p b o t.action t.edge f g is ∙ reach_unnumbered k f reached

-- facts without a number are the same where they are so with a number
pub fact_same : (m : ℕ) (f g : Fact) → f.origin ≡ 0 → g.origin ≡ 0 → numbered m f ≡ numbered m g → f ≡ g
fact_same m f g one other is = ap (λ (n : ℕ). numbered n f) one ∙ ap (numbered 0) is ∙ sym (ap (λ (n : ℕ). numbered n g) other)
