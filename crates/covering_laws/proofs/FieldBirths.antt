-- A call that creates the obligation of `this` anew bears the fact of what each owning field holds, on each of its edges.
use Rattle.std.proofs.Common.{◌≡◌, ℕ, Bool, true, Some, None, [], slice_get, ap, ◌∙◌}
use Rattle.std.specs.Prelude.{if◌then◌else◌}
use Rattle.rlc_base.specs.declared.place.Pos.{Pos}
use Rattle.program_model.specs.declared.kinds.BodyId.{BodyId}
use Rattle.program_model.specs.declared.kinds.ClassId.{ClassId}
use Rattle.program_model.specs.declared.kinds.FieldId.{FieldId}
use Rattle.program_model.specs.declared.kinds.VType.{VType}
use Rattle.program_model.specs.declared.kinds.VType.TheVariants as types
use Rattle.program_model.specs.declared.program.Field.{Field}
use Rattle.program_model.specs.declared.program.Program.{Program}
use Rattle.program_model.specs.Lookups.{field_at, optional}
use Rattle.java_control.specs.Calls.{is_reset_of_this}
use Rattle.java_control.specs.Owned.{place_of_field}
use Rattle.control_actions.specs.declared.action.Action.{Action}
use Rattle.control_actions.specs.declared.action.Edge.{Edge}
use Rattle.control_actions.specs.declared.fact.Fact.{Fact}
use Rattle.control_actions.specs.declared.fact.Mode.TheVariants as modes
use Rattle.control_actions.specs.declared.fact.Origin.{Origin}
use Rattle.control_actions.specs.declared.fact.OriginKind.TheVariants as kinds
use Rattle.ledger_obligations.specs.Bodies.{fields_of, has_field_place}
use Rattle.ledger_obligations.specs.MustCallSets.{no_names}
use Rattle.ownership_rules.specs.Births.{birth_on, births_of_step, born_in, class_of, fact_at, field_birth, field_births, origin_of, owning_field_birth, reset_births}
use Rattle.covering_laws.proofs.EntryBirths.{behind_all, mapped_there}

-- the fact of what the owning field holds: it is held there, and nothing is known of its calls
abbrev pub field_fact : Program → FieldId → Fact
field_fact p f = fact_at (place_of_field p f) modes.Held no_names true

-- its origin at the place of the call
abbrev pub field_origin : Program → FieldId → Pos → ClassId → Origin
field_origin p f pos c = origin_of p (kinds.FieldAt f) pos c None

pub born_of_field : (p : Program) (b : BodyId) (f : FieldId) (pos : Pos) (x : Field) (c : ClassId) → has_field_place p b f ≡ true → field_at p f ≡ Some x → x.vtype ≡ types.Obj c
    → field_birth p b (Some pos) f ≡ Some (field_origin p f pos c, field_fact p f)
born_of_field p b f pos x c place at type =
    ap (λ (y : Bool). if y then owning_field_birth p f (Some pos) (field_at p f) else None) place ∙ ap (owning_field_birth p f (Some pos)) at
    ∙ ap (λ (t : VType). born_in p (kinds.FieldAt f) pos (class_of (Some t)) None (field_fact p f)) type

-- each owning field of a class type that has a place in the body
pub reset_bears : (p : Program) (b : BodyId) (a : Action) (e : Edge) (pos : Pos) (i : ℕ) (f : FieldId) (x : Field) (c : ClassId) → is_reset_of_this p a ≡ true → slice_get (fields_of p b) i ≡ Some f
    → has_field_place p b f ≡ true → field_at p f ≡ Some x → x.vtype ≡ types.Obj c
    → (n : ℕ) × (slice_get (births_of_step p b a e pos) n ≡ Some (field_origin p f pos c, field_fact p f))
reset_bears p b a e pos i f x c resets listed place at type =
    let n = mapped_there (field_birth p b (Some pos)) (fields_of p b) i f (field_origin p f pos c, field_fact p f) listed (born_of_field p b f pos x c place at type) in
    behind_all (optional (birth_on p a e pos)) (reset_births p b a pos) n.0 (field_origin p f pos c, field_fact p f)
    (ap (λ (y : Bool). slice_get (if y then field_births p b (Some pos) else []) n.0) resets ∙ n.1)
