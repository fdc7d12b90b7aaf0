use Rattle.std.proofs.Common.{◌++◌, ◌∷◌, [], sym, subst, List, All}
use Rattle.std.proofs.lemmas.List.Elements.{All-push}
use Rattle.program_model.specs.declared.program.Method.{Method}
use Rattle.class_declarations.specs.Members.{written_method_of}
use Rattle.table_members.specs.Methods.{HasFewParameters, IsKnownHead, IsMethod}
use Rattle.table_members.proofs.Zips.{view_at, view_end, view_turn}
use Rattle.table_members.proofs.methods.table_methods.Goals as goal

pub table_method-requires : goal.table_method-requires
table_method-requires c =
    view_at written_method_of (λ w. IsKnownHead c.args.names.now w.declaration.unit w.written) c.args.written.now c.each.method-index c.method-item.result c.requires c.each-test.true c.method-item.is

pub each-preserved : goal.each-preserved
each-preserved c =
    let P : List Method → Type 0 = All HasFewParameters in
    record {
      methods = view_turn written_method_of (IsMethod c.args.names.now) c.args.written.now c.each.method-index c.method-item.result c.each.methods.items c.push.new.self.items c.in_ok-table_method.field-0 c.each-test.true c.method-item.is c.in_ok-push.ensures.items c.each.invariant.methods c.in_ok-table_method.ensures.method;
      parameters = subst P (sym c.in_ok-push.ensures.items) (All-push HasFewParameters c.each.methods.items c.in_ok-table_method.field-0 c.each.invariant.parameters c.in_ok-table_method.ensures.parameters);
    }

pub returns-clause-methods : goal.returns-clause-methods
returns-clause-methods c = view_end written_method_of (IsMethod c.args.names.now) c.args.written.now c.each.method-index c.each.methods.items c.each-test.false c.each.invariant.methods
