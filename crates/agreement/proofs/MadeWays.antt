-- What is not finished, and is lent, a frame below makes: the way ends there.
use Rattle.std.proofs.Common.{◌≡◌, inl, inr, ℕ, ◌+◌, Bool, true, false, not, ◌&&◌, Option, Some, None, is_some, List, [], ◌∷◌, length, refl, sym, ap, ◌∙◌, true≢false, eq-eqb}
use Rattle.std.proofs.lemmas.Bool.{and_from, and_parts, not-true, or_left, or_right}
use Rattle.program_model.specs.declared.kinds.ClassId.{ClassId}
use Rattle.program_model.specs.declared.kinds.FieldId.{FieldId}
use Rattle.program_model.specs.declared.program.Method.{Method}
use Rattle.program_model.specs.declared.program.Program.{Program}
use Rattle.program_model.specs.Lookups.{method_at}
use Rattle.ownership_rules.specs.Bodies.{alias_in, constructs, is_class_of}
use Rattle.ownership_rules.specs.MustCallSets.{is_heavy_class}
use Rattle.ownership_rules.specs.Signatures.{is_present}
use Rattle.ledger_state.specs.Contents.{HeapContents}
use Rattle.java_control.specs.Owned.{is_owning}
use Rattle.ledger_state.specs.Fields.{field_value}
use Rattle.ledger_state.specs.Heaps.{object_at, root_of}
use Rattle.ledger_state.specs.Values.{number_of}
use Rattle.ledger_state.specs.declared.entry.Owner.{Owner}
use Rattle.ledger_state.specs.declared.entry.Owner.TheVariants as owners
use Rattle.ledger_state.specs.declared.object.Object.{Object}
use Rattle.ledger_state.specs.declared.value.Value.{Value}
use Rattle.heap_laws.specs.LedgerCallsCalls.{is_alias}
use Rattle.ledger_runs.specs.Choosing.{is_number}
use Rattle.ledger_runs.specs.Configuration.{Frame}
use Rattle.agreement.specs.Chains.{HaveEnds}
use Rattle.agreement.specs.FieldContents.{MakersOwn, is_made_in, makes_holder, makes_object}
use Rattle.agreement.specs.PlaceFacts.{OwesOrHolds, is_heavy_in}
use Rattle.agreement.specs.Renewing.{HasInHand, IsLentFrom, IsMadeBy}

no_alias : (m : Option Method) → is_present (alias_in m) ≡ false → is_alias m ≡ false
no_alias None none = refl
no_alias (Some m) none = go m.sig.alias none
  where
    go : (a : Option ℕ) → is_present a ≡ false → is_some a ≡ false
    go None none' = refl
    go (Some n) none' = absurd (true≢false none')

-- the class of each of these frames that makes the object
abbrev pub MakesOfClass : Program → ℕ → ClassId → List Frame → Type 0
MakesOfClass p w c [] = Unit {0}
MakesOfClass p w c (g ∷ gs) = (IsMadeBy p g w → is_class_of c (method_at p g.method) ≡ true) × MakesOfClass p w c gs

-- a frame that makes it makes a holder
pub makes_here : (p : Program) (g : Frame) (w : ℕ) (c : ClassId) → IsMadeBy p g w → is_class_of c (method_at p g.method) ≡ true → makes_holder p w c g ≡ true
makes_here p g w c made class =
    and_from (makes_object p w c g) (not (is_alias (method_at p g.method)))
    (ap (λ (v : Value). constructs (method_at p g.method) && is_number w (number_of v) && is_class_of c (method_at p g.method)) made.runs
    ∙ ap (λ (b : Bool). b && is_number w (Some w) && is_class_of c (method_at p g.method)) alone.0 ∙ ap (λ (b : Bool). b && is_class_of c (method_at p g.method)) (eq-eqb w w refl) ∙ class)
    (ap not (no_alias (method_at p g.method) (not-true (is_present (alias_in (method_at p g.method))) alone.1)))
  where
    alone : (constructs (method_at p g.method) ≡ true) × (not (is_present (alias_in (method_at p g.method))) ≡ true)
    alone = and_parts (constructs (method_at p g.method)) (not (is_present (alias_in (method_at p g.method)))) made.alone

module _ (p : Program) (h : HeapContents) (have : HaveEnds h) (w : ℕ) (y : Object) (there : object_at h w ≡ Some y) (open' : y.finished ≡ false) (c : ClassId) where
  unowned : y.owner ≡ owners.Unowned
  unowned = have.unfinished w y there open'

  pub made_below : (frs : List Frame) → MakesOfClass p w c frs → IsLentFrom p h frs w y.owner → is_made_in p w c frs ≡ true
  made_below [] classes never = absurd never
  made_below (g ∷ gs) classes lent = by (λ further. made_below gs classes.1 further) lent.1
    where
      by : (IsLentFrom p h gs w y.owner → is_made_in p w c gs ≡ true) → HasInHand p h (IsLentFrom p h gs) (length gs + 1) g w y.owner → is_made_in p w c (g ∷ gs) ≡ true
      by below (inl owner) = absurd (let never : ◌≡◌ {A = Owner} owners.Unowned (owners.Frame (length gs + 1)) = sym unowned ∙ owner in cc)
      by below (inr (inl further)) = or_right (makes_holder p w c g) (is_made_in p w c gs) (below further)
      by below (inr (inr (inl held))) = absurd (let never : ◌≡◌ {A = Owner} owners.Unowned (owners.Field (held.1).holder (held.1).field) = sym unowned ∙ (held.1).owns in cc)
      by below (inr (inr (inr (inl held)))) = absurd (let never : ◌≡◌ {A = Owner} owners.Unowned (owners.Field held.holder held.field) = sym unowned ∙ held.owns in cc)
      by below (inr (inr (inr (inr made)))) = or_left (makes_holder p w c g) (is_made_in p w c gs) (makes_here p g w c made.0 (classes.0 made.0))

  -- and what its fields hold they own
  pub made_owns : (frs : List Frame) → MakersOwn p h frs → IsLentFrom p h frs w y.owner → (f : FieldId) (o : ℕ) (x : Object) → is_owning p f ≡ true → is_heavy_in p (Some f) ≡ true → root_of h (field_value p h w f) ≡ Some o → object_at h o ≡ Some x
      → is_heavy_class p x.class ≡ true → OwesOrHolds p h o x → x.owner ≡ owners.Field w f
  made_owns [] own never f o x owning heavy held at wide owes = absurd never
  made_owns (g ∷ gs) own lent f o x owning heavy held at wide owes = by (λ further. made_owns gs own.1 further f o x owning heavy held at wide owes) lent.1
    where
      by : (IsLentFrom p h gs w y.owner → x.owner ≡ owners.Field w f) → HasInHand p h (IsLentFrom p h gs) (length gs + 1) g w y.owner → x.owner ≡ owners.Field w f
      by below (inl owner) = absurd (let never : ◌≡◌ {A = Owner} owners.Unowned (owners.Frame (length gs + 1)) = sym unowned ∙ owner in cc)
      by below (inr (inl further)) = below further
      by below (inr (inr (inl held'))) = absurd (let never : ◌≡◌ {A = Owner} owners.Unowned (owners.Field (held'.1).holder (held'.1).field) = sym unowned ∙ (held'.1).owns in cc)
      by below (inr (inr (inr (inl held')))) = absurd (let never : ◌≡◌ {A = Owner} owners.Unowned (owners.Field held'.holder held'.field) = sym unowned ∙ held'.owns in cc)
      by below (inr (inr (inr (inr made)))) = own.0 w f o x made.0 owning heavy held at wide owes
