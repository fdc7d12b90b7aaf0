-- What is taken from a stack by its kinds, and what is left there.
use Rattle.std.specs.Prelude.{◌≡◌, true, false, List, [], ◌∷◌, ◌++◌, map, Option, Some, None, is_some}
use Rattle.std.proofs.Common.{refl, sym, ◌∙◌, ap, subst, arith}
use Rattle.java_values.specs.Outcomes.{Outcome, Made, TooDeep, Misfit, ◌>>=◌, IsNoMisfit}
use Rattle.java_values.specs.Values.{Kind, Value_of, ValueTree, place, token, name, optional_name, identifiers, names, typ, optional_type, expression, optional_expression, expressions, call, operations, parenthesized, annotation, annotations, arguments, annotation_value, annotation_values, modifiers, variables, local, statement, statements, block, for_start, resources, catches, parameters, super_call, constructor_body, members, types, imports, unit, units, APlace, AToken, AName, AOptionalName, AIdentifiers, ANames, AType, AOptionalType, AExpression, AOptionalExpression, AExpressions, ACall, AOperations, AParenthesized, AAnnotation, AAnnotations, AArguments, AAnnotationValue, AAnnotationValues, AModifiers, AVariables, ALocal, AStatement, AStatements, ABlock, AForStart, AResources, ACatches, AParameters, ASuperCall, AConstructorBody, AMembers, ATypes, AImports, AUnit, AUnits}
use Rattle.java_values.specs.Kinds.{value_at, at_kind, Values, ◌▷◌, bottom, Taken, with_top, taken, put, kind_of, Fits, resume}

false_true : {A : Type 0} → false ≡ true → A
false_true h = let e : ⊥ = grind arith in absurd e

at_self : (v : ValueTree) → (x : Value_of (kind_of v)) × (at_kind v (kind_of v) ≡ Some x)
at_self (APlace x) = (x, refl)
at_self (AToken x) = (x, refl)
at_self (AName x) = (x, refl)
at_self (AOptionalName x) = (x, refl)
at_self (AIdentifiers x) = (x, refl)
at_self (ANames x) = (x, refl)
at_self (AType x) = (x, refl)
at_self (AOptionalType x) = (x, refl)
at_self (AExpression x) = (x, refl)
at_self (AOptionalExpression x) = (x, refl)
at_self (AExpressions x) = (x, refl)
at_self (ACall x) = (x, refl)
at_self (AOperations x) = (x, refl)
at_self (AParenthesized x) = (x, refl)
at_self (AAnnotation x) = (x, refl)
at_self (AAnnotations x) = (x, refl)
at_self (AArguments x) = (x, refl)
at_self (AAnnotationValue x) = (x, refl)
at_self (AAnnotationValues x) = (x, refl)
at_self (AModifiers x) = (x, refl)
at_self (AVariables x) = (x, refl)
at_self (ALocal x) = (x, refl)
at_self (AStatement x) = (x, refl)
at_self (AStatements x) = (x, refl)
at_self (ABlock x) = (x, refl)
at_self (AForStart x) = (x, refl)
at_self (AResources x) = (x, refl)
at_self (ACatches x) = (x, refl)
at_self (AParameters x) = (x, refl)
at_self (ASuperCall x) = (x, refl)
at_self (AConstructorBody x) = (x, refl)
at_self (AMembers x) = (x, refl)
at_self (ATypes x) = (x, refl)
at_self (AImports x) = (x, refl)
at_self (AUnit x) = (x, refl)
at_self (AUnits x) = (x, refl)

kind_is : (v : ValueTree) (k : Kind) → is_some (at_kind v k) ≡ true → kind_of v ≡ k
kind_is (APlace x) place h = refl
kind_is (APlace x) _ h = false_true h
kind_is (AToken x) token h = refl
kind_is (AToken x) _ h = false_true h
kind_is (AName x) name h = refl
kind_is (AName x) _ h = false_true h
kind_is (AOptionalName x) optional_name h = refl
kind_is (AOptionalName x) _ h = false_true h
kind_is (AIdentifiers x) identifiers h = refl
kind_is (AIdentifiers x) _ h = false_true h
kind_is (ANames x) names h = refl
kind_is (ANames x) _ h = false_true h
kind_is (AType x) typ h = refl
kind_is (AType x) _ h = false_true h
kind_is (AOptionalType x) optional_type h = refl
kind_is (AOptionalType x) _ h = false_true h
kind_is (AExpression x) expression h = refl
kind_is (AExpression x) _ h = false_true h
kind_is (AOptionalExpression x) optional_expression h = refl
kind_is (AOptionalExpression x) _ h = false_true h
kind_is (AExpressions x) expressions h = refl
kind_is (AExpressions x) _ h = false_true h
kind_is (ACall x) call h = refl
kind_is (ACall x) _ h = false_true h
kind_is (AOperations x) operations h = refl
kind_is (AOperations x) _ h = false_true h
kind_is (AParenthesized x) parenthesized h = refl
kind_is (AParenthesized x) _ h = false_true h
kind_is (AAnnotation x) annotation h = refl
kind_is (AAnnotation x) _ h = false_true h
kind_is (AAnnotations x) annotations h = refl
kind_is (AAnnotations x) _ h = false_true h
kind_is (AArguments x) arguments h = refl
kind_is (AArguments x) _ h = false_true h
kind_is (AAnnotationValue x) annotation_value h = refl
kind_is (AAnnotationValue x) _ h = false_true h
kind_is (AAnnotationValues x) annotation_values h = refl
kind_is (AAnnotationValues x) _ h = false_true h
kind_is (AModifiers x) modifiers h = refl
kind_is (AModifiers x) _ h = false_true h
kind_is (AVariables x) variables h = refl
kind_is (AVariables x) _ h = false_true h
kind_is (ALocal x) local h = refl
kind_is (ALocal x) _ h = false_true h
kind_is (AStatement x) statement h = refl
kind_is (AStatement x) _ h = false_true h
kind_is (AStatements x) statements h = refl
kind_is (AStatements x) _ h = false_true h
kind_is (ABlock x) block h = refl
kind_is (ABlock x) _ h = false_true h
kind_is (AForStart x) for_start h = refl
kind_is (AForStart x) _ h = false_true h
kind_is (AResources x) resources h = refl
kind_is (AResources x) _ h = false_true h
kind_is (ACatches x) catches h = refl
kind_is (ACatches x) _ h = false_true h
kind_is (AParameters x) parameters h = refl
kind_is (AParameters x) _ h = false_true h
kind_is (ASuperCall x) super_call h = refl
kind_is (ASuperCall x) _ h = false_true h
kind_is (AConstructorBody x) constructor_body h = refl
kind_is (AConstructorBody x) _ h = false_true h
kind_is (AMembers x) members h = refl
kind_is (AMembers x) _ h = false_true h
kind_is (ATypes x) types h = refl
kind_is (ATypes x) _ h = false_true h
kind_is (AImports x) imports h = refl
kind_is (AImports x) _ h = false_true h
kind_is (AUnit x) unit h = refl
kind_is (AUnit x) _ h = false_true h
kind_is (AUnits x) units h = refl
kind_is (AUnits x) _ h = false_true h

with_both : (k : Kind) (ks : List Kind) (o : Option (Value_of k)) (t : Option (Taken ks)) → is_some (with_top k ks o t) ≡ true → (is_some o ≡ true) × (is_some t ≡ true)
with_both k ks None t h = false_true h
with_both k ks (Some x) None h = false_true h
with_both k ks (Some x) (Some t) h = (refl, refl)

some_fits : (ks : List Kind) (s : List ValueTree) → is_some (taken ks s) ≡ true → Fits ks s
some_fits [] s h = tt
some_fits (k ∷ ks) [] h = false_true h
some_fits (k ∷ ks) (v ∷ s) h =
    let p = with_both k ks (at_kind v k) (taken ks s) h in
    (ap (λ y. Some y) (kind_is v k p.0), some_fits ks s p.1)

meant_some : (ins outs : List Kind) (f : Values ins → Outcome (Values outs)) (o : Option (Taken ins)) → IsNoMisfit (resume ins outs f o) → is_some o ≡ true
meant_some ins outs f None h = absurd h
meant_some ins outs f (Some t) h = refl

-- Of what an action makes something, that is of the kinds that it takes.
pub meant_fits : (ins outs : List Kind) (f : Values ins → Outcome (Values outs)) (s : List ValueTree) → IsNoMisfit (resume ins outs f (taken ins s)) → Fits ins s
meant_fits ins outs f s h = some_fits ins s (meant_some ins outs f (taken ins s) h)

at_of : (v : ValueTree) (k : Kind) → kind_of v ≡ k → (x : Value_of k) × (at_kind v k ≡ Some x)
at_of v k h = let P : Kind → Type 0 = λ l. (x : Value_of l) × (at_kind v l ≡ Some x) in subst P h (at_self v)

pub head_same : (k l : Kind) (ks ls : List Kind) → k ∷ ks ≡ l ∷ ls → k ≡ l
head_same k l ks ls h = grind arith

pub tail_same : (k l : Kind) (ks ls : List Kind) → k ∷ ks ≡ l ∷ ls → ks ≡ ls
tail_same k l ks ls h = grind arith

pub nil_cons : {A : Type 0} (k : Kind) (ks : List Kind) → [] ≡ k ∷ ks → A
nil_cons k ks h = let e : ⊥ = grind arith in absurd e

pub record Has (ins ms : List Kind) (s : List ValueTree) : Type 0 where
  pub got : Taken ins
  pub taken_is : taken ins s ≡ Some got
  pub rest_is : map kind_of got.rest ≡ ms

-- values of these kinds can be taken
pub has : (ins ms : List Kind) (s : List ValueTree) → map kind_of s ≡ ins ++ ms → Has ins ms s
has [] ms s h = record { got = record { values = bottom; rest = s }; taken_is = refl; rest_is = h }
has (k ∷ ks) ms [] h = nil_cons k (ks ++ ms) h
has (k ∷ ks) ms (v ∷ s) h =
    let p = at_of v k (head_same (kind_of v) k (map kind_of s) (ks ++ ms) h) in
    let r = has ks ms s (tail_same (kind_of v) k (map kind_of s) (ks ++ ms) h) in
    record { got = record { values = p.0 ▷ r.got.values; rest = r.got.rest }; taken_is = rw (p.1, r.taken_is) refl; rest_is = r.rest_is }

kind_value : (k : Kind) (x : Value_of k) → kind_of (value_at k x) ≡ k
kind_value place x = refl
kind_value token x = refl
kind_value name x = refl
kind_value optional_name x = refl
kind_value identifiers x = refl
kind_value names x = refl
kind_value typ x = refl
kind_value optional_type x = refl
kind_value expression x = refl
kind_value optional_expression x = refl
kind_value expressions x = refl
kind_value call x = refl
kind_value operations x = refl
kind_value parenthesized x = refl
kind_value annotation x = refl
kind_value annotations x = refl
kind_value arguments x = refl
kind_value annotation_value x = refl
kind_value annotation_values x = refl
kind_value modifiers x = refl
kind_value variables x = refl
kind_value local x = refl
kind_value statement x = refl
kind_value statements x = refl
kind_value block x = refl
kind_value for_start x = refl
kind_value resources x = refl
kind_value catches x = refl
kind_value parameters x = refl
kind_value super_call x = refl
kind_value constructor_body x = refl
kind_value members x = refl
kind_value types x = refl
kind_value imports x = refl
kind_value unit x = refl
kind_value units x = refl

put_kinds : (ks : List Kind) (xs : Values ks) (s : List ValueTree) → map kind_of (put ks xs s) ≡ ks ++ map kind_of s
put_kinds [] bottom s = refl
put_kinds (k ∷ ks) (x ▷ xs) s = ap (λ l. l ∷ map kind_of (put ks xs s)) (kind_value k x) ∙ ap (λ l. k ∷ l) (put_kinds ks xs s)

-- the outcome is of these kinds, or too deep
abbrev pub IsFine : List Kind → Outcome (List ValueTree) → Type 0
IsFine ks (Made s) = map kind_of s ≡ ks
IsFine ks TooDeep = Unit {0}
IsFine ks Misfit = ⊥

left_fine : (outs ms : List Kind) (rest : List ValueTree) → map kind_of rest ≡ ms → (o : Outcome (Values outs)) → IsNoMisfit o → IsFine (outs ++ ms) (o >>= (λ xs. Made (put outs xs rest)))
left_fine outs ms rest h (Made xs) k = put_kinds outs xs rest ∙ ap (λ l. outs ++ l) h
left_fine outs ms rest h TooDeep k = tt
left_fine outs ms rest h Misfit k = absurd k

-- An action that makes something of the values leaves what its kinds say.
pub resume_fine : (ins outs ms : List Kind) (f : Values ins → Outcome (Values outs)) (s : List ValueTree) → map kind_of s ≡ ins ++ ms
    → ((t : Taken ins) → taken ins s ≡ Some t → IsNoMisfit (f t.values)) → IsFine (outs ++ ms) (resume ins outs f (taken ins s))
resume_fine ins outs ms f s h k =
    let r = has ins ms s h in
    let P : Option (Taken ins) → Type 0 = λ o. IsFine (outs ++ ms) (resume ins outs f o) in
    subst P (sym r.taken_is) (left_fine outs ms r.got.rest r.rest_is (f r.got.values) (k r.got r.taken_is))
