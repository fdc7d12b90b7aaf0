-- A frame that begins knows its arguments: their facts are born at the entry of its body, in the places of the arguments alone.
use Rattle.std.proofs.Common.{◌≡◌, ℕ, zero, suc, ◌-◌, true, false, true≢false, Option, Some, None, List, [], ◌∷◌, ◌++◌, replicate, slice_get, refl, sym, ap, ◌∙◌, subst}
use Rattle.program_model.specs.declared.kinds.BodyId.{BodyId}
use Rattle.program_model.specs.declared.kinds.MethodId.{MethodId}
use Rattle.program_model.specs.declared.kinds.MethodKind.TheVariants as methods
use Rattle.program_model.specs.declared.program.Method.{Method}
use Rattle.program_model.specs.declared.program.Program.{Program}
use Rattle.program_model.specs.Lookups.{method_at}
use Rattle.java_control.specs.PlaceNumbers.{IsSmall}
use Rattle.java_control.specs.Remaining.{Todo}
use Rattle.control_actions.specs.declared.fact.Fact.{Fact}
use Rattle.control_actions.specs.declared.fact.Origin.{Origin}
use Rattle.control_actions.specs.declared.place.Place.{Place}
use Rattle.ownership_rules.specs.Births.{births_at_entry}
use Rattle.ownership_rules.specs.Bodies.{is_instance_kind}
use Rattle.ownership_rules.specs.Facts.{has, is_origin_at}
use Rattle.stub_conduct.specs.declared.choice.Choices.{Choices}
use Rattle.ledger_state.specs.Locals.{variable_value}
use Rattle.ledger_state.specs.Values.{value_or_nothing}
use Rattle.ledger_state.specs.declared.locals.Locals.{Locals}
use Rattle.ledger_state.specs.declared.value.Value.{Value}
use Rattle.ledger_state.specs.declared.value.Value.TheVariants as values
use Rattle.ledger_steps.specs.LedgerCallsCalls.{begun, body_of, control_in, variable_count}
use Rattle.content_laws.specs.Accept.{Accept}
use Rattle.content_laws.specs.Configuration.{Frame}
use Rattle.content_laws.specs.Paths.{Reach, entered, relation_of}
use Rattle.content_laws.specs.Positions.{argument_place, is_lasting}
use Rattle.content_laws.specs.Starts.{start_config}
use Rattle.content_laws.proofs.Entries.{HasBegun}
use Rattle.content_laws.proofs.LastingFacts.{lasting_begins}
use Rattle.content_laws.proofs.ContentFrames.{begun_method}
use Rattle.soundness_laws.specs.Knowing.{AllKnowArguments, HoldsObject, IsObject, KnowsArguments, argument_of}

-- ---- a call

at_place : (l : Locals) (n : ℕ) → IsObject (argument_of l n) → HoldsObject l (argument_place n)
at_place l zero object = object
at_place l (suc v) object = object

module _ (p : Program) (ac : Accept p) (fr : Frame) (runs : MethodId) (m : Method) (self : Value) (arguments : List Value) (b : HasBegun p fr runs m self arguments) where
  of : method_at p b.stands.body.method ≡ Some m
  of = ap (method_at p) (b.stands.method ∙ b.method) ∙ b.named

  pub knows_begun : KnowsArguments p fr
  knows_begun n lasting argument = record {
    body = b.stands.number;
    id = b.stands.id;
    origin = born.1;
    fact = born.2;
    reached = subst (λ (k : List Todo). Reach p b.stands.number (relation_of p b.stands.number) born.1 k born.2) (sym b.starts) (entered born.0 born.3);
    at = born.4;
    objects = λ q small is. subst (HoldsObject fr.locals) (sym (born.5 q small is)) (at_place fr.locals n argument);
  }
    where
      lasting' : is_lasting (Some m) n ≡ true
      lasting' = ap (λ (x : Option Method). is_lasting x n) (sym (ap (method_at p) b.method ∙ b.named)) ∙ lasting

      born : (i : ℕ) × (o : Origin) × (f : Fact) × (slice_get (births_at_entry p b.stands.number) i ≡ Some (o, f)) × (is_origin_at o.kind (Some n) ≡ true) × ((q : Place) → IsSmall q → has f.places q ≡ true → q ≡ argument_place n)
      born = lasting_begins p ac b.stands.number b.stands.body m b.stands.at of n lasting'

-- ---- the start of a run

-- what follows the arguments holds nothing
nothing_behind : (n v : ℕ) → value_or_nothing (slice_get (replicate n values.Nothing) v) ≡ values.Nothing
nothing_behind zero zero = refl
nothing_behind zero (suc v) = refl
nothing_behind (suc n) zero = refl
nothing_behind (suc n) (suc v) = nothing_behind n v

no_object_in : (n v k : ℕ) → value_or_nothing (slice_get (values.Array 0 ∷ replicate n values.Nothing) v) ≡ values.Object k → ⊥
no_object_in n zero k is = let never : values.Array 0 ≡ values.Object k = is in cc
no_object_in n (suc v) k is = let never : values.Nothing ≡ values.Object k = sym (nothing_behind n v) ∙ is in cc

-- the frame of `main`, by its body
abbrev main_frame : Program → MethodId → Option BodyId → Frame
main_frame p main x =
    control_in p x (record {
      method = main;
      control = [];
      locals = record {
        variables = (values.Array 0 ∷ []) ++ replicate (variable_count p x - 1) values.Nothing;
        this = values.Nothing;
        temps = [];
      };
    })

-- it has an array for its argument
no_object : (p : Program) (main : MethodId) (x : Option BodyId) (v k : ℕ) → variable_value (main_frame p main x).locals v ≡ values.Object k → ⊥
no_object p main None v k is = no_object_in (variable_count p None - 1) v k is
no_object p main (Some b) v k is = no_object_in (variable_count p (Some b) - 1) v k is

pub known_at_start : (p : Program) (main : MethodId) (m : Method) (choices : Choices) → method_at p main ≡ Some m → m.kind ≡ methods.Static → AllKnowArguments p (start_config p main choices).frames
unfolding start_config
known_at_start p main m choices at static = ((λ n lasting argument. absurd (none n (as_main lasting n refl) argument)), tt)
  where
    as_main : {n : ℕ} → is_lasting (method_at p (begun p main values.Nothing (values.Array 0 ∷ [])).method) n ≡ true → (k : ℕ) → n ≡ k → is_lasting (Some m) k ≡ true
    as_main {n} lasting k same =
        ap (λ (x : Option Method). is_lasting x k) (sym at) ∙ ap (λ (r : MethodId). is_lasting (method_at p r) k) (sym (begun_method p main values.Nothing (values.Array 0 ∷ [])))
        ∙ ap (is_lasting (method_at p (begun p main values.Nothing (values.Array 0 ∷ [])).method)) (sym same) ∙ lasting

    none : (n : ℕ) → is_lasting (Some m) n ≡ true → IsObject (argument_of (begun p main values.Nothing (values.Array 0 ∷ [])).locals n) → ⊥
    none zero lasting object = true≢false (sym lasting ∙ ap is_instance_kind static)
    none (suc v) lasting object = no_object p main (body_of (method_at p main)) v object.0 object.1
