-- The object of a field that owns an object with an obligation is there, and where it is not finished, its constructor runs.
use Rattle.std.proofs.Common.{◌≡◌, inl, inr, ℕ, Bool, Some, true, false, true≢false, List, [], ◌∷◌, refl, sym, ap, ◌∙◌, eqb-true}
use Rattle.std.proofs.lemmas.Bool.{and_parts, or_right}
use Rattle.std.specs.Prelude.{◌||◌, ◌&&◌, not}
use Rattle.program_model.specs.declared.kinds.ClassId.{ClassId}
use Rattle.program_model.specs.declared.kinds.FieldId.{FieldId}
use Rattle.program_model.specs.declared.program.Program.{Program}
use Rattle.program_model.specs.Lookups.{method_at}
use Rattle.must_call_sets.specs.Bodies.{constructs, is_class_of}
use Rattle.must_call_sets.specs.MustCallSets.{is_heavy_class}
use Rattle.ledger_obligations.specs.Obligations.{is_held_by, is_unmet}
use Rattle.ledger_state.specs.Contents.{HeapContents}
use Rattle.ledger_state.specs.Heaps.{object_at}
use Rattle.ledger_state.specs.Values.{number_of}
use Rattle.ledger_state.specs.declared.entry.Owner.{Owner}
use Rattle.ledger_state.specs.declared.entry.Owner.TheVariants as owners
use Rattle.ledger_state.specs.declared.object.Object.{Object}
use Rattle.ledger_state.specs.declared.value.Value.{Value}
use Rattle.ledger_state.specs.declared.value.Value.TheVariants as values
use Rattle.ledger_steps.specs.LedgerCallsCalls.{is_alias}
use Rattle.value_laws.specs.Configuration.{Frame}
use Rattle.value_laws.specs.Choosing.{is_number}
use Rattle.value_laws.specs.FieldContents.{HaveContents, RunOnOthers, is_made_in, makes_holder, makes_object}
use Rattle.value_laws.specs.PlaceFacts.{IsHolder, RunsOn}
use Rattle.value_laws.specs.Safety.{constructs_object}
use Rattle.covering_laws.proofs.Owners.{runs_on_none}

-- the field that owns it
pub field_of_owner : (o : Owner) (w : ℕ) → is_held_by o w ≡ true → (f : FieldId) × (o ≡ owners.Field w f)
field_of_owner (owners.Field v f) w is = (f, ap (λ (k : ℕ). owners.Field k f) (eqb-true v w is))
field_of_owner (owners.Frame j) w is = absurd (true≢false (sym is))
field_of_owner owners.Library w is = absurd (true≢false (sym is))
field_of_owner owners.Released w is = absurd (true≢false (sym is))
field_of_owner owners.Lost w is = absurd (true≢false (sym is))
field_of_owner owners.Unowned w is = absurd (true≢false (sym is))

is_object : (v : Value) (w : ℕ) → is_number w (number_of v) ≡ true → v ≡ values.Object w
is_object values.Nothing w is = absurd (true≢false (sym is))
is_object (values.Object k) w is = ap values.Object (sym (eqb-true w k is))
is_object v w is = absurd (true≢false (sym is))

-- a constructor among the frames that makes the object runs on it
pub makes_on : (p : Program) (w : ℕ) (c : ClassId) (frs : List Frame) → is_made_in p w c frs ≡ true → RunsOn w frs
makes_on p w c [] is = true≢false (sym is)
makes_on p w c (fr ∷ frs) is = go (makes_holder p w c fr) refl is (makes_on p w c frs)
  where
    go : (b : Bool) → makes_holder p w c fr ≡ b → (b || is_made_in p w c frs) ≡ true → (is_made_in p w c frs ≡ true → RunsOn w frs) → RunsOn w (fr ∷ frs)
    go true one is' rest = inl (is_object fr.locals.this w (and_parts (constructs (method_at p fr.method)) (is_number w (number_of fr.locals.this))
        (and_parts (constructs_object p w fr) (is_class_of c (method_at p fr.method)) (and_parts (makes_object p w c fr) (not (is_alias (method_at p fr.method))) one).0).0).1)
    go false none is' rest = inr (rest is')

-- the object of a field that owns such an object is there
pub holder_there : (p : Program) (frs : List Frame) (h : HeapContents) → HaveContents p frs h → (w : ℕ) → IsHolder p h w → (z : Object) × (object_at h w ≡ Some z)
holder_there p frs h contents w (c, x, at, done, heavy, held) =
    let owner = field_of_owner x.owner w held in
    let k = contents c x w owner.0 at (or_right (is_unmet x) (is_heavy_class p x.class) heavy) owner.1 in
    (k.holder, k.at)

-- What a constructor with an aliased argument makes holds nothing, where no frame below runs on it. (Nothing is moved to its fields.)
pub alias_holds_nothing : (p : Program) (fr : Frame) (frs : List Frame) (h : HeapContents) → HaveContents p (fr ∷ frs) h → (w : ℕ) → is_alias (method_at p fr.method) ≡ true → ((z : Object) → object_at h w ≡ Some z → z.finished ≡ false) → RunOnOthers w frs
    → IsHolder p h w → ⊥
alias_holds_nothing p fr frs h contents w alias open' others (c, x, at, done, heavy, held) =
    let owner = field_of_owner x.owner w held in
    let k = contents c x w owner.0 at (or_right (is_unmet x) (is_heavy_class p x.class) heavy) owner.1 in
    by k.field.class (k.made (open' k.holder k.at))
  where
    by : (d : ClassId) → is_made_in p w d (fr ∷ frs) ≡ true → ⊥
    by d is = runs_on_none w frs others (makes_on p w d frs (go (makes_object p w d fr) is))
      where
        go : (b : Bool) → (b && not (is_alias (method_at p fr.method)) || is_made_in p w d frs) ≡ true → is_made_in p w d frs ≡ true
        go true some = (let none : not (is_alias (method_at p fr.method)) ≡ false = ap not alias in ap (λ (u : Bool). u || is_made_in p w d frs) (sym none) ∙ some)
        go false some = some
