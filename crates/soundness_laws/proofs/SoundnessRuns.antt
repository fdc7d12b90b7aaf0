-- What is accepted is safe: in each configuration of a run all invariants hold.
use Rattle.std.proofs.Common.{◌≡◌, ℕ, zero, suc, true, Option, Some, None, List, [], ◌∷◌, slice_get, refl, sym, ap, ◌∙◌, subst, true≢false}
use Rattle.std.specs.List.{All}
use Rattle.std.proofs.lemmas.List.Elements.{All-head, All-tail}
use Rattle.program_model.specs.declared.kinds.ClassId.{ClassId}
use Rattle.program_model.specs.declared.kinds.MethodId.{MethodId}
use Rattle.program_model.specs.declared.kinds.VType.TheVariants as types
use Rattle.program_model.specs.declared.program.Method.{Method}
use Rattle.program_model.specs.declared.program.Program.{Program}
use Rattle.program_model.specs.Lookups.{method_at}
use Rattle.program_model.specs.Hierarchy.{itself}
use Rattle.program_model.specs.SuperTests.{is_under}
use Rattle.program_model.proofs.HierarchyLaws.{is_under_law}
use Rattle.ledger_obligations.specs.Bodies.{is_constructor_kind}
use Rattle.content_laws.specs.Accept.{Accept}
use Rattle.stub_conduct.specs.declared.choice.Choices.{Choices}
use Rattle.ledger_state.specs.Classes.{class_in}
use Rattle.ledger_state.specs.Contents.{HeapContents}
use Rattle.ledger_state.specs.Heaps.{object_at, unfinished}
use Rattle.ledger_state.specs.Locals.{temp_value}
use Rattle.ledger_state.specs.Values.{number_of}
use Rattle.ledger_state.specs.declared.entry.Entry.{Entry}
use Rattle.ledger_state.specs.declared.object.Object.{Object}
use Rattle.ledger_steps.specs.LedgerCallsCalls.{body_of}
use Rattle.content_laws.specs.Configuration.{Config, Frame}
use Rattle.run_command.specs.Runs.{go_on, run, run_from}
use Rattle.content_laws.specs.LedgerRunsOutcomes.{Outcome, went, ended, stray}
use Rattle.content_laws.specs.Starts.{start_config}
use Rattle.content_laws.specs.LedgerRunsSteps.{step}
use Rattle.content_laws.specs.Moves.{has_body}
use Rattle.run_command.specs.Mains.{is_main_in}
use Rattle.content_laws.specs.Frames.{HaveTargets}
use Rattle.content_laws.specs.Linking.{LinkedAreAliases}
use Rattle.content_laws.proofs.ThrownLaws.{targets_at_start, targets_step}
use Rattle.content_laws.specs.Safety.{IsMain, IsSafe}
use Rattle.content_laws.specs.LibraryClasses.{GivesLibraryClasses, ThrowsMadeClasses}
use Rattle.content_laws.specs.Agreement.{Agree, Agrees, AllStand}
use Rattle.content_laws.specs.PlainForms.{HasPlainForms}
use Rattle.content_laws.specs.FieldContents.{FieldsHold, FieldsOwn, IsBeingMade}
use Rattle.content_laws.specs.PlaceFacts.{AreCovered}
use Rattle.content_laws.specs.Ranges.{AreInRange, LocalsInRange}
use Rattle.content_laws.specs.Sight.{AllActInSight}
use Rattle.content_laws.proofs.InSight.{acts_in_sight}
use Rattle.content_laws.proofs.UpdatedTexts.{all_update_texts}
use Rattle.content_laws.proofs.LinkTargets.{links_reach_aliased_at_start, links_reach_aliased_step}
use Rattle.content_laws.specs.Making.{AreBeingMade}
use Rattle.content_laws.specs.Throws.{TopEndsAsDeclared, TopEndsByException, TopRaisesExceptions}
use Rattle.content_laws.proofs.GivenValues.{given_fits}
use Rattle.content_laws.specs.Types.{TopHoldsWhatIsThere}
use Rattle.content_laws.proofs.CoveringLaws.{types_at_start, types_step}
use Rattle.content_laws.proofs.CoveringLaws.{ranges_at_start, ranges_step}
use Rattle.content_laws.proofs.Runs.{fields_hold_at_start, fields_hold_step, top_stores_readily}
use Rattle.content_laws.proofs.CoveringLaws.{being_made_at_start, being_made_step, covered_at_start, covered_step, fields_own_at_start, fields_own_step, linked_are_aliases_at_start, linked_are_aliases_step, makers_own_at_start, makers_own_step}
use Rattle.content_laws.proofs.Chains.{object_there}
use Rattle.content_laws.proofs.NameCounts.{accepted_names}
use Rattle.java_control.specs.Control.{Step}
use Rattle.control_actions.specs.declared.action.Action.TheVariants as actions
use Rattle.control_actions.specs.declared.action.Completion.{Completion}
use Rattle.control_actions.specs.declared.action.Completion.TheVariants as completions
use Rattle.content_laws.specs.Ends.{is_throw}
use Rattle.content_laws.specs.Choosing.{frame_steps}
use Rattle.ledger_steps.specs.Ends.{exception_class, thrown_in}
use Rattle.content_laws.specs.Exits.{TopEndsByClass}
use Rattle.soundness_laws.specs.Holding.{Holds}
use Rattle.content_laws.specs.AgreementConditions.{MeetsFileConditions}
use Rattle.soundness_laws.specs.Supports.{IsSupported}
use Rattle.soundness_laws.proofs.PlainCalls.{plain_results, plain_runs}
use Rattle.soundness_laws.proofs.AcceptedForms.{plain_forms}
use Rattle.soundness_laws.proofs.Safe.{safe_at}
use Rattle.soundness_laws.proofs.Starts.{start_agrees, static_main}
use Rattle.content_laws.specs.Arguments.{HaveArguments}
use Rattle.content_laws.proofs.CoveringLaws.{arguments_at_start, arguments_step}
use Rattle.content_laws.specs.Exceptions.{TopRaisesException}
use Rattle.content_laws.proofs.ThrownLaws.{classes_at_start, classes_step}
use Rattle.content_laws.specs.Thrown.{HaveThrown}
use Rattle.content_laws.specs.ClassOperands.{IsNotAboveString, OfClass, result_of}
use Rattle.content_laws.specs.ClassValues.{FramesFitClass}
use Rattle.content_laws.specs.Values.{FitsClass, HasClassUnder}
use Rattle.content_laws.specs.Filled.{AreFilled}
use Rattle.content_laws.proofs.Laws.{filled_at_start, filled_step}
use Rattle.content_laws.proofs.ThrownLaws.{ends_by_exception, raised_values_are_exceptions, thrown_at_start, thrown_step}
use Rattle.soundness_laws.proofs.Holders.{top_runs_alone}
use Rattle.soundness_laws.proofs.KeptPromises.{TopShowsOperands}
use Rattle.soundness_laws.proofs.PromisedOperands.{operands_shown}
use Rattle.soundness_laws.proofs.SparedOwned.{apart_at_end}
use Rattle.soundness_laws.proofs.OnObjects.{objects_at_start, objects_step}
use Rattle.soundness_laws.proofs.KnowingRules.{all_by_rules}
use Rattle.soundness_laws.proofs.KnowingStarts.{known_at_start}
use Rattle.soundness_laws.proofs.KnowingSteps.{known_step}
use Rattle.soundness_laws.proofs.Steps.{step_agrees}
use Rattle.soundness_laws.proofs.Supporting.{stores_into_lent, supported}

pub agree_at_start : (p : Program) → Accept p → GivesLibraryClasses p → (main : MethodId) (choices : Choices) → IsMain p main → Agree p (start_config p main choices)
agree_at_start p ac gives main choices is = start_agrees p ac main gives choices is

top_supported : (p : Program) (ac : Accept p) (forms : HasPlainForms p) (h : HeapContents) (es : List Entry) (frs : List Frame) → Agrees p frs h es → FieldsHold p frs h → AreCovered p h frs → AreFilled p h frs
    → FieldsOwn p h → All (λ (f : Frame). LocalsInRange h f.locals) frs → HaveTargets p frs → LinkedAreAliases p h → AllActInSight p h frs → IsSupported p h frs
top_supported p ac forms h es [] agrees fields covered filled owned ranges targets linked sight = tt
top_supported p ac forms h es (fr ∷ frs) agrees fields covered filled owned ranges targets linked sight = (
  supported p ac forms h fr frs agrees.standing.0 agrees.standing.1 agrees.stacked fields.contents covered.0 covered.2 fields.unfinished fields.new filled.1 agrees.links owned (All-head (λ (f : Frame). LocalsInRange h f.locals) fr frs ranges) targets.0 linked sight.0,
  top_runs_alone p ac forms h (fr ∷ frs) agrees.standing agrees.stacked fields.contents fields.new filled,
  stores_into_lent p ac forms h fr frs agrees.standing.0 agrees.standing.1 agrees.stacked fields.contents covered.0 covered.2 fields.unfinished fields.new filled.1 agrees.links owned (All-head (λ (f : Frame). LocalsInRange h f.locals) fr frs ranges) targets.0 linked sight.0,
)

-- what the end of the top frame shows of what the one below has lent
top_shows : (p : Program) (ac : Accept p) (forms : HasPlainForms p) (h : HeapContents) (es : List Entry) (frs : List Frame) → Agrees p frs h es → FieldsHold p frs h → AreCovered p h frs → All (λ (f : Frame). LocalsInRange h f.locals) frs → FieldsOwn p h → HaveTargets p frs → HaveArguments p frs
    → TopEndsByException p h frs → AllActInSight p h frs → TopShowsOperands p h frs
top_shows p ac forms h es [] agrees fields covered ranges owned targets given exits sight = tt
top_shows p ac forms h es (fr ∷ []) agrees fields covered ranges owned targets given exits sight = tt
top_shows p ac forms h es (fr ∷ caller ∷ frs) agrees fields covered ranges owned targets given exits sight =
    λ below i j s t q o x anew w here is there row normal thrown before done heavy mine stays.
    operands_shown p ac forms h fr caller frs agrees.standing.0 agrees.stacked.0 covered.0 covered.2 given.0
    (apart_at_end p ac forms h es fr caller frs agrees fields covered (All-head (λ (f : Frame). LocalsInRange h f.locals) caller frs (All-tail (λ (f : Frame). LocalsInRange h f.locals) fr (caller ∷ frs) ranges)) owned targets.1.0 sight.1.0.makes) exits below i j s t q here is there row normal thrown o x anew w before done heavy mine stays

pub agree_step : (p : Program) → Accept p → HasPlainForms p → GivesLibraryClasses p → ThrowsMadeClasses p → (c d : Config) → Agree p c → HaveTargets p c.frames → FieldsHold p c.frames c.heap → AllActInSight p c.heap c.frames → AreCovered p c.heap c.frames → AreInRange c
    → AreBeingMade p c.heap c.frames → HaveArguments p c.frames → TopEndsByException p c.heap c.frames → AreFilled p c.heap c.frames → FieldsOwn p c.heap → LinkedAreAliases p c.heap → step p c ≡ went d → Agree p d
agree_step p ac forms gives throws c d agrees targets fields sight covered ranges making given exits filled owned linked is =
    step_agrees p ac forms (accepted_names p ac) gives throws c d agrees targets fields sight covered (top_supported p ac forms c.heap c.entries c.frames agrees fields covered filled owned ranges.frames targets linked sight) ranges making
    (top_shows p ac forms c.heap c.entries c.frames agrees fields covered ranges.frames owned targets given exits sight) owned is

-- an exception by which the top frame ends has a class
top_exits : (p : Program) (ac : Accept p) (h : HeapContents) (frs : List Frame) → AllStand p frs → All (λ (fr : Frame). LocalsInRange h fr.locals) frs → HaveThrown p frs → TopEndsByException p h frs
top_exits p ac h [] standing ranges thrown = tt
top_exits p ac h (fr ∷ frs) standing ranges thrown =
    λ i s d t pos here is no_class. ends_by_exception p ac h fr standing.0 (All-head (λ (x : Frame). LocalsInRange h x.locals) fr frs ranges) thrown.0 i s d t pos here is no_class

-- the top frame ends as its method declares
top_declared : (p : Program) → Accept p → (h : HeapContents) (frs : List Frame) → TopEndsByException p h frs → ((bound : ClassId) → IsNotAboveString p bound → FramesFitClass p bound h frs) → TopEndsAsDeclared p h frs
top_declared p ac h [] exits values = tt
top_declared p ac h (fr ∷ frs) exits values = record {
  throws = exits;
  gives = λ i s d pos m c k x here is m_at result apart value at.
      let itself' : OfClass p c (Some (types.Obj c)) = (is_under_law p ac.well_formed.valid.typed.hierarchy c c).1 (itself c) in
      let fitting : FitsClass p c h (temp_value fr.locals d) = given_fits p c ac apart h fr (values c apart).0 i s d pos here is (subst (OfClass p c) (sym (ap result_of m_at ∙ result)) itself') in
      subst (λ (o : Option Object). HasClassUnder p c (class_in o)) at (subst (FitsClass p c h) value fitting);
}

-- an object that a `throw` of the top frame throws is an exception
top_raises : (p : Program) (h : HeapContents) (frs : List Frame) → TopRaisesException p h frs → TopRaisesExceptions p h frs
top_raises p h [] raises = tt
top_raises p h (fr ∷ frs) raises = λ i s d c k here is same. there k (object_at h k) refl (subst (FitsClass p p.core.throwable h) same (raises i s d c here is))
  where
    there : (k : ℕ) (x : Option Object) → object_at h k ≡ x → HasClassUnder p p.core.throwable (class_in x) → (y : Object) × (object_at h k ≡ Some y) × (is_under p y.class p.core.throwable ≡ true)
    there k None at under = absurd under
    there k (Some y) at under = (y, at, under)

-- however it throws it
top_ends_by_class : (p : Program) (h : HeapContents) (frs : List Frame) → TopEndsByException p h frs → TopEndsByClass p h frs
top_ends_by_class p h [] exits = tt
top_ends_by_class p h (fr ∷ frs) exits = λ i s q here is throws none. go i s q here is throws none
  where
    go : (i : ℕ) (s : Step) (q : Completion) → slice_get (frame_steps p fr) i ≡ Some s → s.action ≡ actions.End q → is_throw q ≡ true → exception_class p h (thrown_in fr.locals q) ≡ None → ⊥
    go i s (completions.Throw d t pos) here is throws none = exits i s d t pos here is none
    go i s (completions.Return pos) here is throws none = true≢false (sym throws)
    go i s (completions.ReturnValue d pos) here is throws none = true≢false (sym throws)
    go i s (completions.Break pos) here is throws none = true≢false (sym throws)
    go i s (completions.Continue pos) here is throws none = true≢false (sym throws)

no_object : {X : Type 0} (x : X) → None ≡ Some x → ⊥
no_object x never = cc

-- what a temp of the top frame holds is there
frame_there : (h : HeapContents) (fr : Frame) → LocalsInRange h fr.locals → (d k : ℕ) → number_of (temp_value fr.locals d) ≡ Some k → object_at h k ≡ None → ⊥
frame_there h fr range d k is none =
    let inside = range.temps d k is in
    let class : ClassId = record { 0 = 0 } in
    let x = object_there h k (unfinished class) inside.0 inside.1 in
    no_object x.0 (sym none ∙ x.1)

top_there : (h : HeapContents) (frs : List Frame) → All (λ (fr : Frame). LocalsInRange h fr.locals) frs → TopHoldsWhatIsThere h frs
top_there h [] all = tt
top_there h (fr ∷ frs) all = frame_there h fr (All-head (λ (f : Frame). LocalsInRange h f.locals) fr frs all)

-- what the frame above the one that waits makes is not finished
top_making : (p : Program) (h : HeapContents) (frs : List Frame) (fr caller : Frame) (rest : List Frame) → frs ≡ fr ∷ caller ∷ rest → AreBeingMade p h frs → IsBeingMade p h fr caller
top_making p h frs fr caller rest is making = (subst (AreBeingMade p h) is making).0

pub holds_step : (p : Program) → Accept p → MeetsFileConditions p → (c d : Config) → Holds p c → step p c ≡ went d → Holds p d
holds_step p ac files c d holds is =
    let forms = plain_forms p ac files in
    let alike = plain_runs p ac files in
    let exits = top_exits p ac c.heap c.frames holds.agree.standing holds.ranges.frames holds.thrown in
    let declared = top_declared p ac c.heap c.frames exits (λ bound own. (holds.values bound own).frames) in
    let raises = top_raises p c.heap c.frames (raised_values_are_exceptions p ac files.texts c.heap c.frames (holds.values p.core.throwable files.texts).frames) in
    let sight = acts_in_sight p ac files.light_texts files.text_fields forms.library files.given.string c.heap c.frames holds.agree.standing holds.agree.links (λ bound own. (holds.values bound own).frames) holds.types.frames holds.aliases holds.reached
    (all_update_texts p ac forms files.texts files.light_texts c.heap c.frames (holds.values p.core.throwable files.texts).frames holds.types.frames holds.types.fields holds.aliases) holds.objects holds.agree.stacked holds.making (all_by_rules p ac forms c.frames holds.agree.standing holds.objects holds.known) in
    let alone = top_runs_alone p ac forms c.heap c.frames holds.agree.standing holds.agree.stacked holds.fields.contents holds.fields.new holds.filled in
    let agree' = agree_step p ac forms files.given files.exceptions c d holds.agree holds.targets holds.fields sight holds.covered holds.ranges holds.making holds.arguments exits holds.filled holds.owned holds.aliases is in record {
      agree = agree';
      targets = targets_step p ac c d holds.targets is;
      types = types_step p ac forms files.given.string c d holds.agree.classes (top_there c.heap c.frames holds.ranges.frames) holds.types is;
      ranges = ranges_step p ac forms c d holds.agree holds.targets holds.ranges is;
      covered = covered_step p ac forms alike (accepted_names p ac) files.light_texts c d holds.agree holds.targets holds.types holds.ranges holds.fields holds.making holds.aliases holds.owned holds.makers holds.covered holds.arguments declared raises sight alone is;
      making = being_made_step p ac forms alike (accepted_names p ac) files.light_texts c d holds.agree holds.targets holds.types holds.ranges holds.fields holds.making holds.aliases holds.owned holds.makers holds.covered holds.arguments declared raises sight alone is;
      aliases = linked_are_aliases_step p ac forms alike (accepted_names p ac) files.light_texts c d holds.agree holds.targets holds.types holds.ranges holds.fields holds.making holds.aliases holds.owned holds.makers holds.covered holds.arguments declared raises sight alone is;
      fields = fields_hold_step p ac forms c d holds.agree holds.targets holds.ranges holds.covered holds.fields holds.owned holds.aliases
          (λ fr caller rest frames. top_making p c.heap c.frames fr caller rest frames holds.making) sight agree'.links holds.arguments (top_ends_by_class p c.heap c.frames exits) is;
      owned = fields_own_step p ac forms alike (accepted_names p ac) files.light_texts c d holds.agree holds.targets holds.types holds.ranges holds.fields holds.making holds.aliases holds.owned holds.makers holds.covered holds.arguments declared raises sight alone is;
      makers = makers_own_step p ac forms alike (accepted_names p ac) files.light_texts c d holds.agree holds.targets holds.types holds.ranges holds.fields holds.making holds.aliases holds.owned holds.makers holds.covered holds.arguments declared raises sight alone is;
      arguments = arguments_step p ac forms c d holds.agree.classes holds.agree.standing holds.targets holds.arguments is;
      reached = links_reach_aliased_step p ac forms files.light_texts c d holds.agree holds.targets holds.ranges holds.fields holds.making holds.values holds.reached is;
      values = classes_step p ac forms (plain_results p ac files) c d holds.agree holds.targets exits holds.values is;
      thrown = thrown_step p ac forms files.texts c d holds.agree holds.targets holds.values holds.thrown is;
      filled = filled_step p ac forms c d holds.agree.classes holds.agree.standing holds.targets holds.ranges holds.fields.new holds.filled sight holds.fields.unfinished
          (top_stores_readily p ac forms c holds.agree holds.targets holds.ranges holds.covered holds.fields holds.owned holds.aliases sight) is;
      objects = objects_step p ac forms files.given c d holds.agree.standing holds.agree.classes holds.targets holds.objects is;
      known = known_step p ac forms alike c d holds.agree holds.targets holds.arguments exits holds.known is;
    }

module _ (p : Program) (ac : Accept p) (gives : GivesLibraryClasses p) (main : MethodId) (choices : Choices) (is : IsMain p main) where
  pub holds_at_start : Holds p (start_config p main choices)
  holds_at_start = go (method_at p main) refl is.0 is.1
    where
      go : (x : Option Method) → method_at p main ≡ x → is_main_in x ≡ true → has_body (body_of x) ≡ true → Holds p (start_config p main choices)
      go None at main' body = absurd (true≢false (sym main'))
      go (Some m) at main' body = record {
        agree = agree_at_start p ac gives main choices is;
        targets = targets_at_start p ac main m choices at (static_main m main') body;
        types = types_at_start p ac main m choices at body;
        ranges = ranges_at_start p main choices;
        covered = covered_at_start p ac main m choices at body;
        making = being_made_at_start p main choices;
        aliases = linked_are_aliases_at_start p main choices;
        fields = fields_hold_at_start p main m choices at (ap is_constructor_kind (static_main m main'));
        owned = fields_own_at_start p main choices;
        makers = makers_own_at_start p main choices;
        arguments = arguments_at_start p main choices;
        reached = links_reach_aliased_at_start p main choices;
        values = classes_at_start p ac main m choices at body;
        thrown = thrown_at_start p main choices;
        filled = filled_at_start p main choices;
        objects = objects_at_start p main m choices at (static_main m main');
        known = known_at_start p main m choices at (static_main m main');
      }

module _ (p : Program) (ac : Accept p) (files : MeetsFileConditions p) where
  run_holds : (n : ℕ) (c : Config) → Holds p c → Holds p (run_from n p c).config
  run_holds zero c holds = holds
  run_holds (suc n) c holds = go (run_holds n) (step p c) refl
    where
      go : ((d : Config) → Holds p d → Holds p (run_from n p d).config) → (o : Outcome) → step p c ≡ o → Holds p (go_on (run_from n p) c o).config
      go further (went d) is = further d (holds_step p ac files c d holds is)
      go further (ended e) is = holds
      go further (stray e pos) is = holds

pub accepted_is_safe : (p : Program) → Accept p → MeetsFileConditions p → IsSafe p
unfolding run
accepted_is_safe p ac files main choices n is =
    let holds = run_holds p ac files n (start_config p main choices) (holds_at_start p ac files.given main choices is) in
    safe_at p ac (run p main choices n).config holds.agree holds.fields.contents
