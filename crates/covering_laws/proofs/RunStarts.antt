-- A run begins without objects.
use Rattle.std.proofs.Common.{◌≡◌, ℕ, zero, suc, false, true, Option, Some, None, [], sym, true≢false}
use Rattle.program_model.specs.declared.kinds.MethodId.{MethodId}
use Rattle.program_model.specs.declared.program.Method.{Method}
use Rattle.program_model.specs.declared.program.Program.{Program}
use Rattle.program_model.specs.Lookups.{method_at}
use Rattle.value_laws.specs.Accept.{Accept}
use Rattle.stub_conduct.specs.declared.choice.Choices.{Choices}
use Rattle.ledger_state.specs.Heaps.{object_in}
use Rattle.ledger_state.specs.declared.object.Object.{Object}
use Rattle.value_laws.specs.Starts.{start_config}
use Rattle.value_laws.specs.Moves.{has_body}
use Rattle.value_laws.specs.FieldContents.{FieldsOwn, MakersOwn}
use Rattle.value_laws.specs.PlaceFacts.{AreCovered}
use Rattle.covering_laws.specs.Making.{AreBeingMade}
use Rattle.covering_laws.specs.Linking.{LinkedAreAliases}

no_object : (o : ℕ) (x : Object) → object_in [] o ≡ Some x → ⊥
no_object zero x is = let never : ◌≡◌ {A = Option Object} None (Some x) = is in cc
no_object (suc k) x is = let never : ◌≡◌ {A = Option Object} None (Some x) = is in cc

pub covered_at_start : (p : Program) → Accept p → (main : MethodId) (m : Method) (choices : Choices) → method_at p main ≡ Some m → has_body m.body ≡ true
    → AreCovered p (start_config p main choices).heap (start_config p main choices).frames
unfolding start_config
covered_at_start p ac main m choices named body = (
  (λ o. false),
  record {
    there = λ o was. absurd (true≢false (sym was));
    ends = λ o x at heavy was. absurd (true≢false (sym was));
    below = λ o x at heavy owned. absurd (no_object o x at);
    contents = λ o x at heavy content takes. absurd (no_object o x at);
    self = λ w y this at heavy none settled. absurd (no_object w y at);
  },
  (λ q o x small keeps root at heavy owes. absurd (no_object o x at)),
  tt,
  (λ o x at. absurd (no_object o x at)),
)

pub being_made_at_start : (p : Program) (main : MethodId) (choices : Choices) → AreBeingMade p (start_config p main choices).heap (start_config p main choices).frames
unfolding start_config
being_made_at_start p main choices = tt

pub linked_are_aliases_at_start : (p : Program) (main : MethodId) (choices : Choices) → LinkedAreAliases p (start_config p main choices).heap
unfolding start_config
linked_are_aliases_at_start p main choices k x l at some = absurd (no_object k x at)

pub fields_own_at_start : (p : Program) (main : MethodId) (choices : Choices) → FieldsOwn p (start_config p main choices).heap
unfolding start_config
fields_own_at_start p main choices w y f o x at owning heavy held there wide = absurd (no_object w y at)

pub makers_own_at_start : (p : Program) (main : MethodId) (choices : Choices) → MakersOwn p (start_config p main choices).heap (start_config p main choices).frames
unfolding start_config
makers_own_at_start p main choices = ((λ w f o x made owning heavy held at. absurd (no_object o x at)), tt)
