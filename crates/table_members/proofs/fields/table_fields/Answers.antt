use Rattle.class_declarations.specs.Members.{written_field_of}
use Rattle.table_members.specs.Fields.{IsField}
use Rattle.table_members.specs.Methods.{IsKnown}
use Rattle.table_members.proofs.Zips.{view_at, view_end, view_turn}
use Rattle.table_members.proofs.fields.table_fields.Goals as goal

pub table_field-requires : goal.table_field-requires
table_field-requires c =
    view_at written_field_of (λ w. IsKnown c.args.names.now w.declaration.unit w.field.typ) c.args.written.now c.each.field-index c.field-item.result c.requires c.each-test.true c.field-item.is

pub each-preserved : goal.each-preserved
each-preserved c =
    view_turn written_field_of (IsField c.args.names.now) c.args.written.now c.each.field-index c.field-item.result c.each.fields.items c.push.new.self.items c.in_ok-table_field.field-0 c.each-test.true c.field-item.is c.in_ok-push.ensures.items c.each.invariant c.in_ok-table_field.ensures

pub returns : goal.returns
returns c = view_end written_field_of (IsField c.args.names.now) c.args.written.now c.each.field-index c.each.fields.items c.each-test.false c.each.invariant
