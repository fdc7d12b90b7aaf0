use Rattle.std.proofs.Common.{◌∙◌, ◌++◌, map, flat_map, ap, ap₂, List, Bor}
use Rattle.program_model.specs.declared.program.RawAnno.{RawAnno}
use Rattle.program_model.specs.declared.program.Class.{Class}
use Rattle.program_model.specs.declared.program.Field.{Field}
use Rattle.program_model.specs.declared.program.Method.{Method}
use Rattle.must_call_types.specs.NameTable.{annotations_of}
use Rattle.must_call_types.proofs.names.annotations.Goals as goal

pub returns : goal.returns
returns c =
    let joined = λ (xs : List RawAnno) (ys : List RawAnno). xs ++ ys in
    let of_classes = λ (ks : List Class). flat_map (λ (k : Class). k.annos.items) ks in
    let of_fields = λ (fs : List Field). flat_map (λ (x : Field). x.annos.items) fs in
    let of_methods = λ (ms : List Method). flat_map annotations_of ms in
    c.in_ok-put_of_methods.ensures
    ∙ ap₂ joined (
    c.in_ok-put_of_fields.ensures
    ∙ ap₂ joined (
    c.in_ok-put_of_classes.ensures
    ∙ ap₂ joined (ap (map (λ (a : Bor RawAnno). a.now)) c.new-list.ensures.items) (ap of_classes c.deref.ensures.value))
    (ap of_fields c.deref-2.ensures.value))
    (ap of_methods c.deref-3.ensures.value)
