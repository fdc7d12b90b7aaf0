-- Objects keep their classes, and so what is a text stays one: what stands in a heap stands in a later one.
use Rattle.std.proofs.Common.{◌≡◌, ℕ, true, true≢false, Option, Some, None, List, [], ◌∷◌, All, refl, sym, ap, ◌∙◌}
use Rattle.std.proofs.lemmas.List.Elements.{All-cons, All-head, All-nil, All-tail}
use Rattle.program_model.specs.declared.kinds.ClassId.{ClassId}
use Rattle.program_model.specs.declared.program.Program.{Program}
use Rattle.ledger_state.specs.Contents.{HeapContents}
use Rattle.ledger_state.specs.Locals.{temp_value, variable_value}
use Rattle.ledger_state.specs.Values.{number_of}
use Rattle.ledger_state.specs.declared.array.ArrayObject.{ArrayObject}
use Rattle.ledger_state.specs.declared.object.StoredField.{StoredField}
use Rattle.ledger_state.specs.declared.object.StoredStatic.{StoredStatic}
use Rattle.ledger_state.specs.declared.value.Value.{Value}
use Rattle.ledger_moves.specs.Configuration.{Frame}
use Rattle.dispatch_laws.specs.Values.{ArraysHoldNone, ElementsHoldNone, IsNoObjectBut, StaticsHoldNone, is_among}
use Rattle.dispatch_laws.proofs.TypeItems.{finds_more}
use Rattle.value_laws.specs.Objects.{KeepsClasses, object_class}
use Rattle.value_laws.specs.Types.{IsStoredNone, KeepAll, KeepsTypes, holds_none, is_text, is_text_class}

all_more : {X : Type 0} (P Q : X → Type 0) → ((x : X) → P x → Q x) → (xs : List X) → All P xs → All Q xs
all_more P Q more [] all = All-nil Q
all_more P Q more (x ∷ xs) all = All-cons Q x xs (more x (All-head P x xs all)) (all_more P Q more xs (All-tail P x xs all))

module _ (p : Program) (h k : HeapContents) (classes : KeepsClasses h k) where
  text_still : (n : ℕ) → is_text p h n ≡ true → is_text p k n ≡ true
  text_still n is = go (object_class h n) refl is
    where
      go : (x : Option ClassId) → object_class h n ≡ x → is_text_class p x ≡ true → is_text p k n ≡ true
      go None at none = absurd (true≢false (sym none))
      go (Some c) at of = ap (is_text_class p) (classes n c at) ∙ of

  pub value_still : (v : Value) → IsNoObjectBut (is_text p h) v → IsNoObjectBut (is_text p k) v
  value_still v none = go (number_of v) none
    where
      go : (o : Option ℕ) → is_among (is_text p h) o ≡ true → is_among (is_text p k) o ≡ true
      go None is = refl
      go (Some n) is = text_still n is

  pub frame_still : (fr : Frame) → KeepsTypes (is_text p h) p fr → KeepsTypes (is_text p k) p fr
  frame_still fr keeps = record {
    number = keeps.number;
    body = keeps.body;
    id = keeps.id;
    at = keeps.at;
    method = keeps.method;
    control = keeps.control;
    variables = λ i kind. value_still (variable_value fr.locals i) (keeps.variables i kind);
    finds = finds_more p keeps.body fr.control (holds_none (is_text p h) fr.locals) (holds_none (is_text p k) fr.locals) (λ x has. (has.0, value_still (temp_value fr.locals x) has.1)) keeps.finds;
  }

  pub frames_still : (frs : List Frame) → KeepAll (is_text p h) p frs → KeepAll (is_text p k) p frs
  frames_still [] keep = tt
  frames_still (fr ∷ frs) keep = (frame_still fr keep.0, frames_still frs keep.1)

  pub stored_still : (xs : List StoredField) → All (IsStoredNone (is_text p h) p) xs → All (IsStoredNone (is_text p k) p) xs
  stored_still xs all = all_more (IsStoredNone (is_text p h) p) (IsStoredNone (is_text p k) p) (λ s none kind. value_still s.value (none kind)) xs all

  pub statics_still : (xs : List StoredStatic) → StaticsHoldNone (is_text p h) xs → StaticsHoldNone (is_text p k) xs
  statics_still xs all = all_more (λ s. IsNoObjectBut (is_text p h) s.value) (λ s. IsNoObjectBut (is_text p k) s.value) (λ s none. value_still s.value none) xs all

  pub arrays_still : (xs : List ArrayObject) → ArraysHoldNone (is_text p h) xs → ArraysHoldNone (is_text p k) xs
  arrays_still xs all =
      all_more (ElementsHoldNone (is_text p h)) (ElementsHoldNone (is_text p k)) (λ a holds. all_more (IsNoObjectBut (is_text p h)) (IsNoObjectBut (is_text p k)) value_still a.elements holds) xs all
