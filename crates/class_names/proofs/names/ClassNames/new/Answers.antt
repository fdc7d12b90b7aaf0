-- The parts of the index are those of the classes.
use Rattle.std.proofs.Common.{◌∙◌, sym, ap, arith}
use Rattle.std.proofs.lemmas.List.{length-map, nil_from_length}
use Rattle.std.proofs.lemmas.Bool.{eqb-true}
use Rattle.std.specs.Prelude.{vec_len}
use Rattle.rlc_base.proofs.TableLemmas.{length-texts}
use Rattle.class_names.specs.ClassNames.{names_of, simply_named}
use Rattle.class_names.proofs.names.ClassNames.new.Goals as goal

pub invariant_of-result : goal.invariant_of-result
invariant_of-result c =
    let few = c.if-len.false in
    let long = c.len.ensures in
    let first = c.deref.ensures.value in
    let zero = eqb-true (vec_len c.in_ok-qualified.qualified.doubles) 0 (sym c.if-not-is_empty.ensures) in
    let none = nil_from_length c.in_ok-qualified.qualified.doubles.items (omega arith) in
    record {
      few = omega arith;
      names = c.in_ok-qualified.ensures.names none ∙ ap names_of first;
      beside = length-map c.in_ok-rows.rows.classes.items (λ r. r.items) ∙ c.in_ok-rows.ensures.beside ∙ sym (length-texts c.in_ok-rows.rows.names.keys);
      rows_are = λ n. c.in_ok-rows.ensures.rows n ∙ ap (λ classes. simply_named classes n) c.deref-2.ensures.value;
    }
