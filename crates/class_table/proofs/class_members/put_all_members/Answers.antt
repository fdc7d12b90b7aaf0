-- One class more.
use Rattle.std.proofs.Common.{◌∙◌, ◌<◌, subst, arith, List, length, ℕ}
use Rattle.std.proofs.lemmas.List.{length-set}
use Rattle.rlc_base.specs.Names.{texts}
use Rattle.class_order.specs.Declarations.{declaration_of}
use Rattle.class_table.specs.Numbers.{row_at}
use Rattle.class_table.specs.Table.{HasMembers}
use Rattle.class_table.proofs.MemberLemmas.{bare_kept, have_all, have_more}
use Rattle.class_table.proofs.NumberLemmas.{row_read}
use Rattle.class_table.proofs.class_members.put_all_members.Goals as goal

pub loop-number-preserved : goal.loop-number-preserved
loop-number-preserved c =
    let order = c.args.order.now in
    let classes = c.loop-number.classes in
    let i = c.loop-number.number in
    let d = c.index-order-number.result in
    let new = c.put_members.new.class in
    let test = c.loop-number-test.true in
    let long = c.loop-number.invariant.long in
    let wide = c.requires.fields in
    let broad = c.requires.methods in
    let first : i < length c.args.fields.now = omega arith in
    let second : i < length c.args.methods.now = omega arith in
    let inside : i < length classes = omega arith in
    let own_fields = row_read c.args.fields.now i c.index-fields-number.result c.deref.result.now first c.index-fields-number.is c.deref.ensures.value in
    let own_methods = row_read c.args.methods.now i c.index-methods-number.result c.deref-in-loop-number.result.now second c.index-methods-number.is c.deref-in-loop-number.ensures.value in
    let F : List ℕ → Type 0 = λ ns. HasMembers ns c.deref-in-loop-number.result.now (declaration_of d) new in
    let M : List ℕ → Type 0 = λ ns. HasMembers (row_at (texts c.args.fields.now) i) ns (declaration_of d) new in
    record {
      long = length-set classes i new ∙ long;
      bare = bare_kept classes i c.index-classes-number.result new inside c.in_ok-put_members.ensures.bare ∙ c.loop-number.invariant.bare;
      members =
          have_more (row_at (texts c.args.fields.now)) (row_at (texts c.args.methods.now)) order classes i d new test c.index-order-number.is c.loop-number.invariant.members
          (subst M own_methods (subst F own_fields c.in_ok-put_members.ensures.members));
    }

pub returns-clause-members : goal.returns-clause-members
returns-clause-members c =
    have_all (row_at (texts c.args.fields.now)) (row_at (texts c.args.methods.now)) c.args.order.now c.loop-number.classes c.loop-number.number c.loop-number-test.false c.loop-number.invariant.members
