-- A method of which nothing is said of what fields hold, since something may be stored into the fields of its `this` while it runs: the place of each owning field is in a fact that claims nothing, whatever it holds.
use Rattle.std.proofs.Common.{◌≡◌, ℕ, ◌<◌, Bool, true, false, not, ◌&&◌, ◌||◌, Option, Some, None, List, refl, sym, ap, ◌∙◌, true≢false}
use Rattle.program_model.specs.declared.kinds.BodyId.{BodyId}
use Rattle.program_model.specs.declared.kinds.ClassId.{ClassId}
use Rattle.program_model.specs.declared.kinds.FieldId.{FieldId}
use Rattle.program_model.specs.declared.program.Method.{Method}
use Rattle.program_model.specs.declared.program.Program.{Program}
use Rattle.program_model.specs.Lookups.{method_at}
use Rattle.control_actions.specs.declared.fact.Fact.{Fact}
use Rattle.control_actions.specs.declared.fact.Mode.TheVariants as modes
use Rattle.control_actions.specs.declared.place.Place.TheVariants as places
use Rattle.ledger_obligations.specs.Bodies.{alias_in, constructs}
use Rattle.ledger_obligations.specs.MustCallSets.{fits_type, is_heavy_class}
use Rattle.ownership_rules.specs.Facts.{has, is_held}
use Rattle.ownership_rules.specs.Signatures.{field_type, is_present}
use Rattle.ledger_state.specs.Contents.{HeapContents}
use Rattle.ledger_state.specs.declared.object.Object.{Object}
use Rattle.value_laws.specs.Choosing.{body_id}
use Rattle.value_laws.specs.Configuration.{Frame}
use Rattle.value_laws.specs.Places.{owning_field_beside}
use Rattle.value_laws.specs.PlaceFacts.{Covers, IsUnowned, claims, fits_field, is_heavy_in, is_idle, is_lent, is_settled}
use Rattle.value_laws.specs.Renewing.{answers_for_fields, is_of_heavy_class, reopens}
use Rattle.covering_laws.proofs.FieldsFollowed.{HasFieldFact}

module _ (p : Program) (frs : List Frame) (fr : Frame) (plain : constructs (method_at p fr.method) ≡ false) (closed : reopens (method_at p fr.method) ≡ false) (heavy : is_of_heavy_class p (method_at p fr.method) ≡ true)
    (unsettled : is_settled p fr frs ≡ false) where
  -- of what such a frame says that a field holds nothing is said
  pub held_is_idle : (f : Fact) → f.mode ≡ modes.Held → is_idle p frs fr f ≡ true
  held_is_idle f held = go (is_held f.mode) (constructs (method_at p fr.method)) (reopens (method_at p fr.method)) (is_of_heavy_class p (method_at p fr.method)) (is_settled p fr frs) (ap is_held held) plain closed heavy unsettled
    where
      go : (a b c d e : Bool) → a ≡ true → b ≡ false → c ≡ false → d ≡ true → e ≡ false → (a && not b && not c && d && not e) ≡ true
      go true false false true false v w x y z = refl
      go false b c d e v w x y z = absurd (true≢false (sym v))
      go true true c d e v w x y z = absurd (true≢false w)
      go true false true d e v w x y z = absurd (true≢false x)
      go true false false false e v w x y z = absurd (true≢false (sym y))
      go true false false true true v w x y z = absurd (true≢false z)

  -- it does not answer for fields
  answers_not : answers_for_fields (method_at p fr.method) ≡ false
  answers_not = go (constructs (method_at p fr.method)) (not (is_present (alias_in (method_at p fr.method)))) (reopens (method_at p fr.method)) plain closed
    where
      go : (a b c : Bool) → a ≡ false → c ≡ false → (a && b || c) ≡ false
      go true b c none none' = absurd (true≢false none)
      go false b c none none' = none'

  module _ (f : FieldId) (c : ClassId) (n : ℕ) (small : n < 16) (b : BodyId) (id : body_id p fr.method ≡ Some b) (beside : owning_field_beside p fr.method n ≡ Some f) (fits : fits_type p c (field_type p f) ≡ true)
      (wide : is_heavy_in p (Some f) ≡ true → is_heavy_class p c ≡ true) (followed : HasFieldFact p b f c (places.Field n) fr.control) where
    its_field : (m : ℕ) → m < 16 → has followed.fact.places (places.Field m) ≡ true → m ≡ n
    its_field m less there = let same : places.Field m ≡ places.Field n = followed.only (places.Field m) less refl there in (let one : m ≡ n = cc in one)

    idle_covers : (k : HeapContents) (old : ℕ → Bool) (away anew : Bool) (o : ℕ) (y : Object) → Covers p k away anew old frs fr o y
    idle_covers k old away anew o y = record {
      body = b;
      id = id;
      origin = followed.origin;
      fact = followed.fact;
      reached = followed.reached;
      alone = followed.alone;
      places = λ said z less kept there. absurd (true≢false (sym (held_is_idle followed.fact followed.held) ∙ said));
      true' = λ claimed kept mine. absurd (true≢false (sym claimed ∙ unclaimed));
      lent = λ lent. absurd (true≢false (sym lent ∙ not_lent (method_at p fr.method)));
      free = λ done held answers. absurd (true≢false (sym answers ∙ answers_not));
      lends = λ lent. absurd (let never : modes.Held ≡ modes.Lent = sym followed.held ∙ lent in cc);
      makes = λ makes. absurd (true≢false (sym makes ∙ plain));
      begun = λ lent. absurd (let never : modes.Held ≡ modes.Lent = sym followed.held ∙ lent in cc);
      unrenewed = λ done tells apart. absurd (true≢false (sym (held_is_idle followed.fact followed.held) ∙ apart.3));
      known = λ done tells apart. absurd (true≢false (sym (held_is_idle followed.fact followed.held) ∙ apart.3));
      fields = λ m less wide' there. ap (λ (i : ℕ). fits_field p fr.method i followed.origin.class) (its_field m less there) ∙ its_fit;
      held = λ m less there heavy'. (followed.held, ap (is_heavy_class p) followed.class ∙ wide (its_heavy m less there heavy'));
      outside = λ none none' m less there. followed.held;
    }
      where
        unclaimed : claims p (method_at p fr.method) followed.origin followed.fact ≡ false
        unclaimed = rw (followed.held, answers_not) (go (is_heavy_class p followed.origin.class))
          where
            go : (a : Bool) → (a && false) ≡ false
            go true = refl
            go false = refl

        not_lent : (m : Option Method) → is_lent p m followed.origin.kind ≡ false
        not_lent None = refl
        not_lent (Some m) = rw followed.kind refl

        its_fit : fits_field p fr.method n followed.origin.class ≡ true
        its_fit = rw (beside, followed.class) fits

        its_heavy : (m : ℕ) → m < 16 → has followed.fact.places (places.Field m) ≡ true → is_heavy_in p (owning_field_beside p fr.method m) ≡ true → is_heavy_in p (Some f) ≡ true
        its_heavy m less there heavy' = ap (is_heavy_in p) (sym (ap (owning_field_beside p fr.method) (its_field m less there) ∙ beside)) ∙ heavy'

    -- so the place is in such a fact, whatever it holds
    pub idle_unowned : (k : HeapContents) (old : ℕ → Bool) (away anew : Bool) (o : ℕ) (y : Object) → IsUnowned p k away anew old frs fr (places.Field n) o y
    unfolding idle_covers
    idle_unowned k old away anew o y = record { covers = idle_covers k old away anew o y; here = followed.here; unowned = unclaimed }
      where
        unclaimed : claims p (method_at p fr.method) followed.origin followed.fact ≡ false
        unclaimed = rw (followed.held, answers_not) (go (is_heavy_class p followed.origin.class))
          where
            go : (a : Bool) → (a && false) ≡ false
            go true = refl
            go false = refl
