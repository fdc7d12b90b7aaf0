-- Each control that a body comes to keeps what its start does; so a body ends by covered exceptions alone.
use Rattle.std.proofs.Common.{◌≡◌, ◌∙◌, ◌∷◌, [], ℕ, zero, suc, List, Bool, true, false, Option, Some, None, map, slice_get, refl, sym, ap, subst}
use Rattle.std.specs.Prelude.{◌&&◌, ◌||◌, not}
use Rattle.std.specs.List.{list_any}
use Rattle.rlc_base.specs.declared.place.Pos.{Pos}
use Rattle.program_model.specs.declared.kinds.BodyId.{BodyId}
use Rattle.program_model.specs.declared.kinds.ClassId.{ClassId}
use Rattle.program_model.specs.declared.program.Program.{Program}
use Rattle.program_model.specs.declared.tree.Body.{Body}
use Rattle.program_model.specs.Hierarchy.{IsHierarchy, IsUnder, above, itself}
use Rattle.program_model.specs.Lookups.{body_at}
use Rattle.program_model.specs.SuperTests.{is_under}
use Rattle.program_model.specs.Validity.{IsTypedProgram, IsValidBody}
use Rattle.program_model.proofs.HierarchyLaws.{is_under_law}
use Rattle.control_actions.specs.declared.action.Action.{Action}
use Rattle.control_actions.specs.declared.action.Action.TheVariants as actions
use Rattle.control_actions.specs.declared.action.Completion.TheVariants as completions
use Rattle.java_control.specs.Control.{Step, control_place, next_of, start_in, start_of, step_at, steps_in, ways}
use Rattle.java_control.specs.Remaining.{Todo, Way}
use Rattle.java_control.specs.Statements.{body_front}
use Rattle.accepted_programs.specs.Paths.{Comes, Move, move_of, on, relation_of, start}
use Rattle.accepted_programs.specs.Coverage.{CoversItsExceptions, is_checked, is_declared, is_undeclared}
use Rattle.accepted_programs.specs.Exceptions.{body_exceptions, throws_clause}
use Rattle.accepted_programs.specs.TreeOrder.{PartsComeFirst}
use Rattle.exception_laws.specs.Ends.{EndsBy}
use Rattle.exception_laws.proofs.Exits.{ways_keep}
use Rattle.exception_laws.proofs.Handlers.{gets_out, not_found}
use Rattle.accepted_programs.proofs.Lists.{None', and_first_false, or_first, or_neither, or_second}
use Rattle.exception_laws.proofs.Starts.{start_keeps}
use Rattle.exception_laws.proofs.Steps.{EachWay, EndsWell, Keeps, KeepsWay}
use Rattle.exception_laws.proofs.ThrownClasses.{body_none, is_other}
use Rattle.exception_laws.proofs.Unchecked.{FindsNoUnchecked}

-- ---- what is looked for: a checked exception that is not declared, and a class that is none of exceptions

abbrev pub wanted : Program → List ClassId → ClassId → Bool
wanted p clause c = is_undeclared p clause c || is_other p c

none_of_both : (v w : ClassId → Bool) (xs : List ClassId) → None' v xs → None' w xs → None' (λ c. v c || w c) xs
none_of_both v w [] h h' = refl
none_of_both v w (x ∷ xs) h h' = or_neither (v x || w x) (list_any (λ c. v c || w c) xs) (or_neither (v x) (w x) (or_first (v x) (list_any v xs) h) (or_first (w x) (list_any w xs) h')) (none_of_both v w xs (or_second (v x) (list_any v xs) h) (or_second (w x) (list_any w xs) h'))

pub under_all : (p : Program) (c d e : ClassId) → IsUnder p c d → IsUnder p d e → IsUnder p c e
under_all p c d e (itself x) h = h
under_all p c d e (above x y z direct more) h = above x y e direct (under_all p y z e more h)

is_true : (p : Program) → IsHierarchy p → (c d : ClassId) → IsUnder p c d → is_under p c d ≡ true
is_true p hierarchy c d h = (is_under_law p hierarchy c d).1 h

-- what is under RuntimeException or Error is unchecked
unchecked_by : (p : Program) (c : ClassId) (t r e : Bool) → (r || e) ≡ true → (t && not r && not e) ≡ false
unchecked_by p c true true e h = refl
unchecked_by p c true false true h = refl
unchecked_by p c true false false h = absurd (let no : false ≡ true = h in cc)
unchecked_by p c false true e h = refl
unchecked_by p c false false true h = refl
unchecked_by p c false false false h = refl

never_wanted : (p : Program) → IsTypedProgram p → (clause : List ClassId) (c : ClassId) → (is_under p c p.core.runtime_exception || is_under p c p.core.error) ≡ true → IsUnder p c p.core.throwable → wanted p clause c ≡ false
never_wanted p typed clause c h under =
    or_neither (is_undeclared p clause c) (is_other p c) (and_first_false (is_checked p c) (not (is_declared p clause c)) (unchecked_by p c (is_under p c p.core.throwable) (is_under p c p.core.runtime_exception) (is_under p c p.core.error) h)) (ap not (is_true p typed.hierarchy c p.core.throwable under))

runtime_never : (p : Program) → IsTypedProgram p → (clause : List ClassId) (c : ClassId) → IsUnder p c p.core.runtime_exception → wanted p clause c ≡ false
runtime_never p typed clause c h = never_wanted p typed clause c (ap (λ (z : Bool). z || is_under p c p.core.error) (is_true p typed.hierarchy c p.core.runtime_exception h)) (under_all p c p.core.runtime_exception p.core.throwable h typed.exceptions.runtime_exception)

or_true : (a b : Bool) → b ≡ true → (a || b) ≡ true
or_true true b h = refl
or_true false b h = h

error_never : (p : Program) → IsTypedProgram p → (clause : List ClassId) → wanted p clause p.core.error ≡ false
error_never p typed clause = never_wanted p typed clause p.core.error (or_true (is_under p p.core.error p.core.runtime_exception) (is_under p p.core.error p.core.error) (is_true p typed.hierarchy p.core.error p.core.error (itself p.core.error))) typed.exceptions.error

finds_none : (p : Program) → IsTypedProgram p → (clause : List ClassId) (b : Body) (k : List Todo) → FindsNoUnchecked p (gets_out p b (wanted p clause) k)
finds_none p typed clause b k = record {
  runtime_exception = pass p.core.runtime_exception (runtime_never p typed clause p.core.runtime_exception (itself p.core.runtime_exception));
  error = pass p.core.error (error_never p typed clause);
  arithmetic_exception = pass p.core.arithmetic_exception (runtime_never p typed clause p.core.arithmetic_exception typed.exceptions.arithmetic_exception);
  array_index_exception = pass p.core.array_index_exception (runtime_never p typed clause p.core.array_index_exception typed.exceptions.array_index_exception);
  class_cast_exception = pass p.core.class_cast_exception (runtime_never p typed clause p.core.class_cast_exception typed.exceptions.class_cast_exception);
  negative_array_size_exception = pass p.core.negative_array_size_exception (runtime_never p typed clause p.core.negative_array_size_exception typed.exceptions.negative_array_size_exception);
  null_pointer_exception = pass p.core.null_pointer_exception (runtime_never p typed clause p.core.null_pointer_exception typed.exceptions.null_pointer_exception);
}
  where
    pass : (c : ClassId) → wanted p clause c ≡ false → gets_out p b (wanted p clause) k c ≡ false
    pass c h = not_found p b (wanted p clause) k c h

-- ---- the body as a tree

parts_first : (p : Program) (n : BodyId) (b : Body) → IsValidBody p n b → PartsComeFirst b
parts_first p n b valid = record {
  statements = λ s x here. (valid.statements s x here).parts.0;
  expressions = λ e x here. (valid.expressions e x here).operands;
}

-- ---- paths

at_way : (P : Way → Type 0) (ws : List Way) (pos : Pos) (i : ℕ) (t : Move (List Todo)) → EachWay P ws → slice_get (map move_of (map (step_at pos) ws)) i ≡ Some t → (w : Way) × (move_of (step_at pos w) ≡ t) × P w
at_way P [] pos i t each h = absurd (let no : None ≡ Some t = h in cc)
at_way P (w ∷ ws) pos zero t each h = (w, (let same : move_of (step_at pos w) ≡ t = cc in same), each.0)
at_way P (w ∷ ws) pos (suc i) t each h = at_way P ws pos i t each.1 h

next_is : (p : Program) (n : BodyId) (b : Body) (k : List Todo) → body_at p n ≡ Some b → next_of p n k ≡ map (step_at (control_place b k)) (ways p b k)
unfolding next_of
next_is p n b k here = ap (λ (o : Option Body). steps_in p o k) here

start_is : (p : Program) (n : BodyId) (b : Body) → body_at p n ≡ Some b → start_of p n ≡ body_front b
unfolding start_of
start_is p n b here = ap start_in here

-- the step that is taken is one of the ways
taken : (p : Program) (n : BodyId) (b : Body) → body_at p n ≡ Some b → (u : ClassId → Bool) (k : List Todo) → EachWay (KeepsWay p b u) (ways p b k) → (i : ℕ) (t : Move (List Todo)) → slice_get ((relation_of p n).next k) i ≡ Some t → (w : Way) × (move_of (step_at (control_place b k) w) ≡ t) × KeepsWay p b u w
taken p n b here u k each i t h = at_way (KeepsWay p b u) (ways p b k) (control_place b k) i t each (sym (ap (λ (steps : List Step). slice_get (map move_of steps) i) (next_is p n b k here)) ∙ h)

comes_keeps : (p : Program) (n : BodyId) (b : Body) → body_at p n ≡ Some b → PartsComeFirst b → (u : ClassId → Bool) → ((k : List Todo) → FindsNoUnchecked p (gets_out p b u k)) → None' u (body_exceptions p b) → {k : List Todo} → Comes (relation_of p n) k → Keeps p b u k
comes_keeps p n b here first u unchecked none start = subst (λ (k : List Todo). Keeps p b u k) (sym (start_is p n b here)) (start_keeps p b first u none)
comes_keeps p n b here first u unchecked none (on {k} i t before step) =
    let way = taken p n b here u k (ways_keep p b first u unchecked k (comes_keeps p n b here first u unchecked none before)) i t step in
    subst (λ (z : Move (List Todo)). Keeps p b u z.to) way.1 way.2.to

ends_well : (p : Program) (n : BodyId) (b : Body) → body_at p n ≡ Some b → PartsComeFirst b → (u : ClassId → Bool) → ((k : List Todo) → FindsNoUnchecked p (gets_out p b u k)) → None' u (body_exceptions p b) → (c : ClassId) → EndsBy p n c → u c ≡ false
ends_well p n b here first u unchecked none c e =
    let way = taken p n b here u e.control (ways_keep p b first u unchecked e.control (comes_keeps p n b here first u unchecked none e.reached)) e.index e.move e.step in
    let well : EndsWell u e.move.action = subst (λ (z : Move (List Todo)). EndsWell u z.action) way.1 way.2.ends in
    let at_end : EndsWell u (actions.End (completions.Throw e.depth c e.pos)) = subst (λ (a : Action). EndsWell u a) e.ends well in
    or_first (u c) false at_end

pub never_ends_so : (p : Program) → IsTypedProgram p → CoversItsExceptions p → (n : BodyId) (b : Body) → body_at p n ≡ Some b → (c : ClassId) → EndsBy p n c → wanted p (throws_clause p b.method) c ≡ false
never_ends_so p typed covers n b here c e =
    let valid : IsValidBody p n b = typed.bodies n b here in
    let clause : List ClassId = throws_clause p b.method in
    ends_well p n b here (parts_first p n b valid) (wanted p clause) (finds_none p typed clause b) (none_of_both (is_undeclared p clause) (is_other p) (body_exceptions p b) (covers n b here) (body_none p typed b (λ s x there. (valid.statements s x there).typed))) c e

not_other : (p : Program) (c : ClassId) → is_other p c ≡ false → is_under p c p.core.throwable ≡ true
not_other p c h = step (is_under p c p.core.throwable) h
  where
    step : (a : Bool) → not a ≡ false → a ≡ true
    step true h = refl
    step false h = absurd (let no : true ≡ false = h in cc)

pub ends_by_exception : (p : Program) → IsTypedProgram p → CoversItsExceptions p → (n : BodyId) (b : Body) → body_at p n ≡ Some b → (c : ClassId) → EndsBy p n c → is_under p c p.core.throwable ≡ true
ends_by_exception p typed covers n b here c e = not_other p c (or_second (is_undeclared p (throws_clause p b.method) c) (is_other p c) (never_ends_so p typed covers n b here c e))

pub ends_covered : (p : Program) → IsTypedProgram p → CoversItsExceptions p → (n : BodyId) (b : Body) → body_at p n ≡ Some b → (c : ClassId) → EndsBy p n c → is_undeclared p (throws_clause p b.method) c ≡ false
ends_covered p typed covers n b here c e = or_first (is_undeclared p (throws_clause p b.method) c) (is_other p c) (never_ends_so p typed covers n b here c e)
