-- What is true of an object by the fact that is born with it.
use Rattle.std.proofs.Common.{◌≡◌, true, false, Option, Some, None, refl, sym, ap, ◌∙◌}
use Rattle.std.specs.FinSet as set
use Rattle.std.proofs.lemmas.Bool.{and_parts}
use Rattle.std.proofs.lemmas.Cmp.{nat_cmp_total}
use Rattle.rlc_base.specs.declared.place.Pos.{Pos}
use Rattle.rlc_base.proofs.SetLaws.{empty_within, within_from, within_self, within_trans}
use Rattle.program_model.specs.declared.kinds.ClassId.{ClassId}
use Rattle.program_model.specs.declared.program.Program.{Program}
use Rattle.ledger_obligations.specs.MustCallSets.{Names, fits, must_of, no_names}
use Rattle.control_actions.specs.declared.fact.Mode.TheVariants as modes
use Rattle.control_actions.specs.declared.fact.OriginKind.{OriginKind}
use Rattle.control_actions.specs.declared.fact.OriginKind.TheVariants as kinds
use Rattle.control_actions.specs.declared.place.Place.{Place}
use Rattle.ownership_rules.specs.Births.{fact_at, origin_of}
use Rattle.ledger_state.specs.declared.object.Object.{Object}
use Rattle.ledger_obligations.specs.Obligations.{first_set}
use Rattle.ownership_rules.specs.Facts.{is_this_origin}
use Rattle.value_laws.specs.PlaceFacts.{IsTrueOf, is_lent}
use Rattle.program_model.specs.declared.program.Method.{Method}
use Rattle.program_model.specs.declared.kinds.FieldId.{FieldId}

first_within : (p : Program) (e : ClassId) (first : Option Names) → set.is_subset (first_set p e first) (must_of p e) ≡ true
first_within p e None = within_self (must_of p e)
first_within p e (Some s) = within_from (set.intersection (must_of p e) s) (must_of p e)
    (λ k one. (and_parts (set.contains (must_of p e) k) (set.contains s k) (sym (set.contains-intersection nat_cmp_total (must_of p e) s k) ∙ one)).0)

-- what must be called first is what the origin of a birth needs
first_is_needed : (p : Program) (kind : OriginKind) (pos : Pos) (c e : ClassId) (first : Option Names) → fits p e c ≡ true → set.is_subset (first_set p e first) (origin_of p kind pos c first).first ≡ true
first_is_needed p kind pos c e None fit = fit
first_is_needed p kind pos c e (Some s) fit = within_from (set.intersection (must_of p e) s) s
    (λ k one. (and_parts (set.contains (must_of p e) k) (set.contains s k) (sym (set.contains-intersection nat_cmp_total (must_of p e) s k) ∙ one)).1)

pub origin_class : (p : Program) (kind : OriginKind) (pos : Pos) (c : ClassId) (first : Option Names) → (origin_of p kind pos c first).class ≡ c
origin_class p kind pos c None = refl
origin_class p kind pos c (Some s) = refl

-- the object is made by a call: what must be called on it is what the signature and its class say
pub true_of_made : (p : Program) (kind : OriginKind) (pos : Pos) (c e : ClassId) (first : Option Names) (q : Place) (y : Object) → y.finished ≡ true → y.class ≡ e → y.must ≡ first_set p e first → fits p e c ≡ true
    → IsTrueOf p y (origin_of p kind pos c first) (fact_at q modes.Own no_names false)
true_of_made p kind pos c e first q y done class must fit = record {
  finished = done;
  class = ap (fits p y.class) (origin_class p kind pos c first) ∙ ap (λ (z : ClassId). fits p z c) class ∙ fit;
  bounded = ap (λ (z : ClassId). set.is_subset y.must (must_of p z)) class ∙ ap (λ (s : Names). set.is_subset s (must_of p e)) must ∙ first_within p e first;
  need = ap (λ (s : Names). set.is_subset s (origin_of p kind pos c first).first) must ∙ first_is_needed p kind pos c e first fit;
  called = empty_within y.called;
}

-- so it is where another method runs for the named one, which says nothing of what must be called first
pub true_of_answer : (p : Program) (kind : OriginKind) (pos : Pos) (c e : ClassId) (first : Option Names) (q : Place) (y : Object) → y.finished ≡ true → y.class ≡ e → y.must ≡ first_set p e first → fits p e c ≡ true
    → IsTrueOf p y (origin_of p kind pos c None) (fact_at q modes.Own no_names false)
true_of_answer p kind pos c e first q y done class must fit = record {
  finished = done;
  class = ap (λ (z : ClassId). fits p z c) class ∙ fit;
  bounded = ap (λ (z : ClassId). set.is_subset y.must (must_of p z)) class ∙ ap (λ (s : Names). set.is_subset s (must_of p e)) must ∙ first_within p e first;
  need = ap (λ (s : Names). set.is_subset s (must_of p c)) must ∙ within_trans (first_set p e first) (must_of p e) (must_of p c) (first_within p e first) fit;
  called = empty_within y.called;
}

-- ---- what is lent

-- neither what a call gives nor what a `new` makes is lent
pub result_unlent : (p : Program) (pos : Pos) (c : ClassId) (first : Option Names) (m : Option Method) → is_lent p m (origin_of p kinds.Result pos c first).kind ≡ false
result_unlent p pos c None None = refl
result_unlent p pos c None (Some m) = refl
result_unlent p pos c (Some s) None = refl
result_unlent p pos c (Some s) (Some m) = refl

pub new_unlent : (p : Program) (pos : Pos) (c : ClassId) (first : Option Names) (m : Option Method) → is_lent p m (origin_of p kinds.New pos c first).kind ≡ false
new_unlent p pos c None None = refl
new_unlent p pos c None (Some m) = refl
new_unlent p pos c (Some s) None = refl
new_unlent p pos c (Some s) (Some m) = refl

-- neither of them is `this`
pub result_is_other : (p : Program) (pos : Pos) (c : ClassId) (first : Option Names) → is_this_origin (origin_of p kinds.Result pos c first).kind ≡ false
result_is_other p pos c None = refl
result_is_other p pos c (Some s) = refl

pub new_is_other : (p : Program) (pos : Pos) (c : ClassId) (first : Option Names) → is_this_origin (origin_of p kinds.New pos c first).kind ≡ false
new_is_other p pos c None = refl
new_is_other p pos c (Some s) = refl

-- nor what is read
pub read_unlent : (p : Program) (m : Option Method) → is_lent p m kinds.Read ≡ false
read_unlent p None = refl
read_unlent p (Some m) = refl

-- nor what a field owns
pub field_unlent : (p : Program) (f : FieldId) (m : Option Method) → is_lent p m (kinds.FieldAt f) ≡ false
field_unlent p f None = refl
field_unlent p f (Some m) = refl
