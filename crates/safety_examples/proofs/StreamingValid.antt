-- The program that closes its stream is valid.
use Rattle.std.proofs.Common.{◌≡◌, ◌<◌, ℕ, zero, suc, refl, ap, sym, true, false, true≢false, is_some, ◌∙◌, Some, None, [], ◌∷◌, count_by, nat_eq, All, IsSomeAnd, lit<, lit≤, arith, inr}
use Rattle.program_model.specs.declared.kinds.BodyId.{BodyId}
use Rattle.program_model.specs.declared.kinds.ClassId.{ClassId}
use Rattle.program_model.specs.declared.kinds.ExprId.{ExprId}
use Rattle.program_model.specs.declared.kinds.FieldId.{FieldId}
use Rattle.program_model.specs.declared.kinds.MethodId.{MethodId}
use Rattle.program_model.specs.declared.kinds.StmtId.{StmtId}
use Rattle.program_model.specs.declared.program.Class.{Class}
use Rattle.program_model.specs.declared.program.Field.{Field}
use Rattle.program_model.specs.declared.program.Method.{Method}
use Rattle.program_model.specs.declared.program.Promise.{Promise}
use Rattle.program_model.specs.declared.program.ParamSig.{ParamSig}
use Rattle.program_model.specs.declared.program.Sig.{Sig}
use Rattle.program_model.specs.declared.tree.Body.{Body}
use Rattle.program_model.specs.declared.tree.TExpr.{TExpr}
use Rattle.program_model.specs.declared.tree.TStmt.{TStmt}
use Rattle.program_model.specs.declared.tree.Var.{Var}
use Rattle.program_model.specs.Heads.{constructed_class, is_head, is_super_call}
use Rattle.program_model.specs.Hierarchy.{HasClass, IsHierarchy, IsUnder, itself}
use Rattle.program_model.specs.Lookups.{body_at, class_at, expression_at, field_at, method_at, statement_at}
use Rattle.program_model.specs.SuperTests.{is_under}
use Rattle.program_model.specs.Trees.{IsForest, expression_children, statement_children}
use Rattle.program_model.specs.Typing.{IsDeclarable, IsDeclarator}
use Rattle.program_model.specs.Validity.{HasBodies, HasCoreClasses, HasExceptionClasses, HasMembers, IsFieldOf, IsMethodOf, IsNumbered, IsOrderedBody, IsPromised, IsTypedProgram, IsValid, IsValidBody, IsValidClass, IsValidExpression, IsValidField, IsValidMethod, IsValidStatement, RunsBody, has_super_class}
use Rattle.safety_examples.specs.CarefulPrograms.{class_number, error, expression_number, io_exception, main_parameter, method_number, runtime_exception, statement_number, throwable}
use Rattle.safety_examples.specs.StreamingPrograms.{close_signature, constructor_signature, get_stream, get_stream_signature, input_stream, main_class, main_method, main_signature, socket, socket_close, socket_constructor, socket_declarator, stream_close, stream_close_signature, stream_declarator, streaming, streaming_body, variables}
use Rattle.safety_examples.proofs.Hierarchy.{IsPlaced, hierarchy, increasing, is_under_listed}
use Rattle.safety_examples.proofs.Tests.{all_none, all_of, holds_at}

other_number : (c d : ClassId) → c ≡ d → c.0 ≡ d.0
other_number c d same = ap (λ (x : ClassId). x.0) same

placed : IsPlaced streaming
placed = record { before = refl; own = refl; supers = refl; due = refl; order = refl }

streaming_hierarchy : IsHierarchy streaming
streaming_hierarchy = hierarchy streaming placed

numbered : IsNumbered streaming
numbered = record { classes = lit< tt; methods = lit< tt; fields = lit< tt; bodies = lit< tt }

core : HasCoreClasses streaming
core = record {
  object = refl;
  string = refl;
  throwable = refl;
  error = refl;
  runtime_exception = refl;
  arithmetic_exception = refl;
  array_index_exception = refl;
  class_cast_exception = refl;
  negative_array_size_exception = refl;
  null_pointer_exception = refl;
}

under : (c d : ℕ) → is_under streaming (class_number c) (class_number d) ≡ true → IsUnder streaming (class_number c) (class_number d)
under c d listed = is_under_listed streaming placed (class_number c) (class_number d) listed

exceptions : HasExceptionClasses streaming
exceptions = record {
  error = under 3 2 refl;
  runtime_exception = under 5 2 refl;
  arithmetic_exception = under 6 5 refl;
  array_index_exception = under 7 5 refl;
  class_cast_exception = under 8 5 refl;
  negative_array_size_exception = under 9 5 refl;
  null_pointer_exception = under 10 5 refl;
}

-- ---- classes and members

-- a class that is no interface
valid : (i : ℕ) (k : Class) → k.interface ≡ false → is_some k.sup ≡ has_super_class streaming (class_number i) k → IsValidClass streaming (class_number i) k
valid i k class same = record { super_class = same; abstract = λ interface. absurd (true≢false (sym interface ∙ class)) }

valid_classes : (c : ClassId) (k : Class) → class_at streaming c ≡ Some k → IsValidClass streaming c k
valid_classes c k at =
    holds_at (λ i (x : Class). IsValidClass streaming (class_number i) x) streaming.classes.items c.0 k
    (valid 0 _ refl refl, (valid 1 _ refl refl, (valid 2 _ refl refl, (valid 3 _ refl refl, (valid 4 _ refl refl, (valid 5 _ refl refl, (valid 6 _ refl refl, (valid 7 _ refl refl, (valid 8 _ refl refl, (valid 9 _ refl refl, (valid 10 _ refl refl, (valid 11 _ refl refl, (valid 12 _ refl refl, (valid 13 _ refl refl, (valid 14 _ refl refl, tt))))))))))))))) at

no_members : (c : ClassId) → HasMembers streaming c [] []
no_members c = record {
  field_order = increasing [] refl;
  fields = all_none (IsFieldOf streaming c);
  method_order = increasing [] refl;
  methods = all_none (IsMethodOf streaming c);
}

stream_members : HasMembers streaming input_stream [] (stream_close ∷ [])
stream_members = record {
  field_order = increasing [] refl;
  fields = all_none (IsFieldOf streaming input_stream);
  method_order = increasing (0 ∷ []) refl;
  methods = all_of (IsMethodOf streaming input_stream) (stream_close ∷ []) (refl, tt);
}

socket_members : HasMembers streaming socket [] (socket_constructor ∷ socket_close ∷ get_stream ∷ [])
socket_members = record {
  field_order = increasing [] refl;
  fields = all_none (IsFieldOf streaming socket);
  method_order = increasing (1 ∷ 2 ∷ 3 ∷ []) refl;
  methods = all_of (IsMethodOf streaming socket) (socket_constructor ∷ socket_close ∷ get_stream ∷ []) (refl, (refl, (refl, tt)));
}

main_members : HasMembers streaming main_class [] (main_method ∷ [])
main_members = record {
  field_order = increasing [] refl;
  fields = all_none (IsFieldOf streaming main_class);
  method_order = increasing (4 ∷ []) refl;
  methods = all_of (IsMethodOf streaming main_class) (main_method ∷ []) (refl, tt);
}

members : (c : ClassId) (k : Class) → class_at streaming c ≡ Some k → HasMembers streaming c k.fields.items k.methods.items
members c k at =
    holds_at (λ i (x : Class). HasMembers streaming (class_number i) x.fields.items x.methods.items) streaming.classes.items c.0 k
    (no_members (class_number 0), (no_members (class_number 1), (no_members (class_number 2), (no_members (class_number 3), (no_members (class_number 4), (no_members (class_number 5), (no_members (class_number 6), (no_members (class_number 7), (no_members (class_number 8), (no_members (class_number 9), (no_members (class_number 10), (no_members (class_number 11), (stream_members, (socket_members, (main_members, tt))))))))))))))) at

valid_fields : (f : FieldId) (x : Field) → field_at streaming f ≡ Some x → IsValidField streaming f x
valid_fields f x at = holds_at (λ i (y : Field). IsValidField streaming (record { 0 = i }) y) [] f.0 x tt at

-- ---- methods

params_none : All (λ (x : ParamSig). IsDeclarable streaming x.vtype) []
params_none = all_none (λ (x : ParamSig). IsDeclarable streaming x.vtype)

throws_io : All (λ c. HasClass streaming c × IsUnder streaming c throwable) (io_exception ∷ [])
throws_io = all_of (λ c. HasClass streaming c × IsUnder streaming c throwable) (io_exception ∷ []) ((lit< tt, under 11 2 refl), tt)

promises_none : (s : Sig) → All (λ (x : Promise). IsPromised streaming s x.target) []
promises_none s = all_none (λ (x : Promise). IsPromised streaming s x.target)

valid_methods : (m : MethodId) (x : Method) → method_at streaming m ≡ Some x → IsValidMethod streaming m x
valid_methods m x at =
    holds_at (λ i (y : Method). IsValidMethod streaming (method_number i) y) streaming.methods.items m.0 x (
      record {
        listed = (0, lit< tt, refl);
        signature = record { params = params_none; result = tt; throws = throws_io; alias = tt; reset = tt; promises = promises_none stream_close_signature; on_throw = promises_none stream_close_signature };
        receiver = refl;
        kind = tt;
        body = tt;
        bodiless = tt;
      },
      (
        record {
          listed = (0, lit< tt, refl);
          signature = record { params = params_none; result = tt; throws = all_none (λ c. HasClass streaming c × IsUnder streaming c throwable); alias = tt; reset = tt; promises = promises_none constructor_signature; on_throw = promises_none constructor_signature };
          receiver = refl;
          kind = refl;
          body = tt;
          bodiless = tt;
        },
        (
          record {
            listed = (1, lit< tt, refl);
            signature = record { params = params_none; result = tt; throws = throws_io; alias = tt; reset = tt; promises = promises_none close_signature; on_throw = promises_none close_signature };
            receiver = refl;
            kind = tt;
            body = tt;
            bodiless = tt;
          },
          (
            record {
              listed = (2, lit< tt, refl);
              signature = record { params = params_none; result = (lit< tt, λ same. absurd (let wrong : 12 ≡ 1 = other_number _ _ same in omega arith)); throws = all_none (λ c. HasClass streaming c × IsUnder streaming c throwable); alias = lit≤ tt; reset = tt; promises = promises_none get_stream_signature; on_throw = promises_none get_stream_signature };
              receiver = refl;
              kind = tt;
              body = tt;
              bodiless = tt;
            },
            (
              record {
                listed = (0, lit< tt, refl);
                signature = record { params = all_of (λ (x : ParamSig). IsDeclarable streaming x.vtype) (main_parameter ∷ []) (tt, tt); result = tt; throws = throws_io; alias = tt; reset = tt; promises = promises_none main_signature; on_throw = promises_none main_signature };
                receiver = refl;
                kind = tt;
                body = refl;
                bodiless = (refl, refl, refl);
              },
              tt,
            ),
          ),
        ),
      ),
    ) at

-- ---- the body

one_parent : (k : ℕ) → k < 5 → count_by (λ j. nat_eq j k) (expression_children streaming_body) ≡ 1
one_parent zero within = refl
one_parent (suc zero) within = refl
one_parent (suc (suc zero)) within = refl
one_parent (suc (suc (suc zero))) within = refl
one_parent (suc (suc (suc (suc zero)))) within = refl
one_parent (suc (suc (suc (suc (suc k))))) within = absurd (omega arith)

one_block : (k : ℕ) → k < 3 → count_by (λ j. nat_eq j k) (statement_children streaming_body) ≡ 1
one_block zero within = refl
one_block (suc zero) within = refl
one_block (suc (suc zero)) within = refl
one_block (suc (suc (suc k))) within = absurd (omega arith)

forest : IsForest streaming_body
forest = record {
  small = lit< tt;
  short = lit< tt;
  own = all_of (λ (s : StmtId). s.0 < 3) (statement_number 0 ∷ statement_number 1 ∷ statement_number 2 ∷ []) (lit< tt, (lit< tt, (lit< tt, tt)));
  one_parent = one_parent;
  one_block = one_block;
}

valid_statements : (s : StmtId) (x : TStmt) → statement_at streaming_body s ≡ Some x → IsValidStatement streaming streaming_body s x
valid_statements s x at =
    holds_at (λ i (y : TStmt). IsValidStatement streaming streaming_body (statement_number i) y) streaming_body.statements.items s.0 x (
      record {
        parts = (all_none (λ (t : StmtId). t.0 < 0), all_of (λ (e : ExprId). e.0 < 5) (expression_number 0 ∷ []) (lit< tt, tt));
        headless = all_none (λ t. is_head streaming_body t ≡ false);
        typed = all_of (IsDeclarator streaming streaming_body) (socket_declarator ∷ []) (inr (itself socket), tt);
      },
      (
        record {
          parts = (all_none (λ (t : StmtId). t.0 < 1), all_of (λ (e : ExprId). e.0 < 5) (expression_number 2 ∷ []) (lit< tt, tt));
          headless = all_none (λ t. is_head streaming_body t ≡ false);
          typed = all_of (IsDeclarator streaming streaming_body) (stream_declarator ∷ []) (inr (itself input_stream), tt);
        },
        (
          record {
            parts = (all_none (λ (t : StmtId). t.0 < 2), all_of (λ (e : ExprId). e.0 < 5) (expression_number 4 ∷ []) (lit< tt, tt));
            headless = all_none (λ t. is_head streaming_body t ≡ false);
            typed = tt;
          },
          tt,
        ),
      ),
    ) at

valid_expressions : (e : ExprId) (x : TExpr) → expression_at streaming_body e ≡ Some x → IsValidExpression streaming streaming_body e x
valid_expressions e x at =
    holds_at (λ i (y : TExpr). IsValidExpression streaming streaming_body (expression_number i) y) streaming_body.expressions.items e.0 x
    (record { operands = all_none (λ (o : ExprId). o.0 < 0); typed = ((refl, refl, tt), refl, refl, refl) }, (record { operands = all_none (λ (o : ExprId). o.0 < 1); typed = refl }, (record { operands = all_of (λ (o : ExprId). o.0 < 2) (expression_number 1 ∷ []) (lit< tt, tt); typed = ((refl, refl, itself socket), tt, refl) }, (record { operands = all_none (λ (o : ExprId). o.0 < 3); typed = refl }, (record { operands = all_of (λ (o : ExprId). o.0 < 4) (expression_number 3 ∷ []) (lit< tt, tt); typed = ((refl, refl, itself input_stream), tt, refl) }, tt))))) at

valid_body : IsValidBody streaming (record { 0 = 0 }) streaming_body
valid_body = record {
  method = (refl, (refl, tt));
  variables = all_of (λ (x : Var). IsDeclarable streaming x.vtype) variables
      (tt, ((lit< tt, λ same. absurd (let wrong : 13 ≡ 1 = other_number _ _ same in omega arith)), ((lit< tt, λ same. absurd (let wrong : 12 ≡ 1 = other_number _ _ same in omega arith)), tt)));
  forest = forest;
  heads = all_of (λ t. is_head streaming_body t ≡ false) (statement_number 1 ∷ statement_number 2 ∷ []) (refl, (refl, tt));
  super_call = all_of (λ t. is_super_call streaming_body t ≡ false) (statement_number 1 ∷ statement_number 2 ∷ []) (refl, (refl, tt));
  statements = valid_statements;
  expressions = valid_expressions;
}

valid_bodies : (b : BodyId) (x : Body) → body_at streaming b ≡ Some x → IsValidBody streaming b x
valid_bodies b x at = holds_at (λ i (y : Body). IsValidBody streaming (record { 0 = i }) y) (streaming_body ∷ []) b.0 x (valid_body, tt) at

typed : IsTypedProgram streaming
typed = record {
  numbered = numbered;
  core = core;
  hierarchy = streaming_hierarchy;
  exceptions = exceptions;
  classes = valid_classes;
  members = members;
  fields = valid_fields;
  methods = valid_methods;
  bodies = valid_bodies;
  ignored = all_of (HasClass streaming) (runtime_exception ∷ error ∷ []) (lit< tt, (lit< tt, tt));
  exact = all_none (HasClass streaming);
}

ordered_body : (b : BodyId) (x : Body) → body_at streaming b ≡ Some x → IsOrderedBody streaming x
ordered_body b x at =
    holds_at (λ i (y : Body). IsOrderedBody streaming y) (streaming_body ∷ []) b.0 x
    (record { variables = (refl, (refl, refl)); jumps = refl; super_call = refl; initializers = increasing [] refl }, tt) at

-- the one body is no constructor's
constructs_nothing : (b : BodyId) (x : Body) → body_at streaming b ≡ Some x → constructed_class streaming x ≡ None
constructs_nothing b x at = holds_at (λ i (y : Body). constructed_class streaming y ≡ None) (streaming_body ∷ []) b.0 x (refl, tt) at

pub valid_program : IsValid streaming
valid_program = record {
  typed = typed;
  ordered = ordered_body;
  same_initializers = λ b x at d y other c is. absurd (let no : None ≡ Some c = sym (constructs_nothing b x at) ∙ is in cc);
}

pub has_bodies : HasBodies streaming
has_bodies m x at =
    holds_at (λ i (y : Method). RunsBody streaming y → IsSomeAnd y.body (λ b. Unit {0})) streaming.methods.items m.0 x
    (λ runs. absurd (true≢false runs.2), (λ runs. absurd (true≢false runs.2), (λ runs. absurd (true≢false runs.2), (λ runs. absurd (true≢false runs.2), (λ runs. tt, tt))))) at
