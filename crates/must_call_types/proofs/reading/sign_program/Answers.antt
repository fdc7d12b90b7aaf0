use Rattle.std.proofs.Common.{◌≡◌, ◌∙◌, map, ap, sym, subst, refl, All, length, ◌<◌}
use Rattle.std.specs.List.{AllZip}
use Rattle.std.specs.Vec.{with_items}
use Rattle.std.proofs.lemmas.Simd.{map-map}
use Rattle.std.proofs.lemmas.List.{with_items_is}
use Rattle.program_model.specs.declared.program.Method.{Method}
use Rattle.must_call_types.specs.MustSets.{but_set, with_own_set, IsGraded, IsMustSet}
use Rattle.effective_signatures.specs.SignedMethods.{IsSignedMethod}
use Rattle.must_call_types.proofs.Hierarchies.{graded}
use Rattle.must_call_types.proofs.Settling.{graded_own}
use Rattle.must_call_types.proofs.Signing.{moved_methods, signed_lengths}
use Rattle.must_call_types.proofs.reading.sign_program.Goals as goal

pub settle-requires : goal.settle-requires
settle-requires c =
    let own = with_own_set c.in_ok-names.names in
    let put = with_items_is c.args.p.now.classes c.put_own_sets.new.classes (c.put_own_sets.auto.classes ∙ c.deref_mut-2.ensures.len) in
    let held : c.deref_mut-3.result.now ≡ map own c.args.p.now.classes.items =
    c.deref_mut-3.ensures.value ∙ put ∙ c.put_own_sets.ensures ∙ ap (map own) c.deref_mut-2.ensures.value in
    subst IsGraded (sym held) (graded_own c.in_ok-names.names c.args.p.now.classes.items (graded c.args.p.now c.requires.hierarchy))

pub returns-clause-signed : goal.returns-clause-signed
returns-clause-signed c =
    let own = with_own_set c.in_ok-names.names in
    let put = with_items_is c.args.p.now.classes c.put_own_sets.new.classes (c.put_own_sets.auto.classes ∙ c.deref_mut-2.ensures.len) in
    let held : c.deref_mut-3.result.now ≡ map own c.args.p.now.classes.items =
    c.deref_mut-3.ensures.value ∙ put ∙ c.put_own_sets.ensures ∙ ap (map own) c.deref_mut-2.ensures.value in
    let settled = with_items_is (with_items c.args.p.now.classes c.put_own_sets.new.classes) c.settle.new.classes (c.settle.auto.classes ∙ c.deref_mut-3.ensures.len) in
    let signed = with_items_is c.args.p.now.methods c.sign_methods.new.methods (c.sign_methods.auto.methods ∙ c.deref_mut.ensures.len) in
    record {
      names = c.in_ok-names.ensures.table;
      classes = ap (map but_set) settled ∙ c.settle.ensures.kept ∙ ap (map but_set) held ∙ map-map but_set own c.args.p.now.classes.items;
      sets = subst (λ ks. All (IsMustSet ks) ks) (sym settled) c.settle.ensures.sets;
      methods =
          subst (λ ms. AllZip (IsSignedMethod c.in_ok-names.names c.args.p.now.fields.items c.args.p.now.classes.items) c.args.p.now.methods.items ms) (sym signed)
          (moved_methods c.in_ok-names.names c.deref.result.now c.args.p.now.fields.items c.deref-2.result.now c.args.p.now.classes.items c.deref_mut.result.now
          c.args.p.now.methods.items c.sign_methods.new.methods c.deref.ensures.value c.deref-2.ensures.value c.deref_mut.ensures.value c.in_ok-sign_methods.ensures);
      fields = refl;
      bodies = refl;
      ignored = refl;
      exact = refl;
      core = refl;
    }

pub returns-clause-kept : goal.returns-clause-kept
returns-clause-kept c =
    let signed = with_items_is c.args.p.now.methods c.sign_methods.new.methods (c.sign_methods.auto.methods ∙ c.deref_mut.ensures.len) in
    let methods =
    moved_methods c.in_ok-names.names c.deref.result.now c.args.p.now.fields.items c.deref-2.result.now c.args.p.now.classes.items c.deref_mut.result.now
    c.args.p.now.methods.items c.sign_methods.new.methods c.deref.ensures.value c.deref-2.ensures.value c.deref_mut.ensures.value c.in_ok-sign_methods.ensures in
    subst (λ ms. All (λ (m : Method). length m.sig.params.items < 4294967295) ms) (sym signed)
    (signed_lengths c.in_ok-names.names c.args.p.now.fields.items c.args.p.now.classes.items 4294967295 c.args.p.now.methods.items c.sign_methods.new.methods methods c.requires.parameters)
