-- A small program whose constructor calls on `this` what creates the obligation of `this` anew: the constructor makes a resource and stores it into the owning field, and calls `reopen`, which closes what
-- the field holds and stores a new resource there; `close` closes what the field holds, and `main` makes a holder and closes it.
--
--     @InheritableMustCall("close")
--     class Holder {
--         @Owning private Resource held;
--         Holder() { this.held = new Resource(); this.reopen(); }
--         @CreatesMustCallFor
--         void reopen() { this.held.close(); this.held = new Resource(); }
--         @EnsuresCalledMethods(value = "this.held", methods = "close")
--         void close() { this.held.close(); }
--         static void main(String[] args) {
--             Holder h = new Holder();
--             h.close();
--         }
--     }
use Rattle.std.specs.Prelude.{None, List, [], ◌∷◌, codes}
use Rattle.std.proofs.Common.{lit<}
use Rattle.program_model.specs.declared.program.Program.{Program}
use Rattle.program_model.specs.declared.tree.Body.{Body}
use Rattle.program_model.specs.declared.tree.CallTarget.TheVariants as targets
use Rattle.program_model.specs.declared.tree.ExpressionKind.TheVariants as expressions
use Rattle.program_model.specs.declared.tree.TExpr.{TExpr}
use Rattle.safety_examples.specs.CarefulPrograms.{core_classes, error, expression_number, in_source, none, one, runtime_exception, statement_number, two, vector}
use Rattle.safety_examples.specs.OwnerPrograms.{evaluates, this_at}
use Rattle.safety_examples.specs.ReplacingPrograms.{calls_holder, classes, closing, declares_holder, holder_close, holder_constructor, holder_read, holder_reopen, main_method, main_variables, methods_declared, new_holder, new_resource, reopens, replaced_declared, stores}

-- ---- the constructor

-- `this.reopen()`
abbrev pub reopens_this : TExpr
reopens_this = record {
  kind = expressions.Call (record { target = targets.This (expression_number 3); method = holder_reopen; arguments = none });
  vtype = None;
  pos = in_source 4 49;
}

abbrev pub constructor_expressions : List TExpr
constructor_expressions = this_at (in_source 4 16) ∷ new_resource (in_source 4 28) ∷ stores 0 1 (in_source 4 26) ∷ this_at (in_source 4 44) ∷ reopens_this ∷ []

-- `{ this.held = new Resource(); this.reopen(); }`
abbrev pub constructing : Body
constructing = record {
  method = holder_constructor;
  vars = none;
  stmts = two (statement_number 0) (statement_number 1);
  end = in_source 4 59;
  statements = two (evaluates 2 (in_source 4 16)) (evaluates 4 (in_source 4 44));
  expressions = vector constructor_expressions (lit< tt);
}

-- ---- `main`

-- `{ Holder h = new Holder(); h.close(); }`
abbrev pub running : Body
running = record {
  method = main_method;
  vars = vector main_variables (lit< tt);
  stmts = two (statement_number 0) (statement_number 1);
  end = in_source 12 5;
  statements = two declares_holder (evaluates 2 (in_source 11 9));
  expressions = vector (new_holder ∷ holder_read 11 ∷ calls_holder 1 holder_close 11 ∷ []) (lit< tt);
}

-- ---- the program

abbrev pub opening : Program
opening = record {
  classes = vector classes (lit< tt);
  methods = vector methods_declared (lit< tt);
  fields = one replaced_declared;
  bodies = vector (constructing ∷ reopens ∷ closing ∷ running ∷ []) (lit< tt);
  ignored = two runtime_exception error;
  exact = none;
  names = codes "close" ∷ [];
  core = core_classes;
}
