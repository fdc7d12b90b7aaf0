use Rattle.std.proofs.Common.{rules, Bor}
use Rattle.std.proofs.lemmas.List.Sorted.{IsNonDecreasingBy-from_sort_by_key, IsPermutation-map}
use Rattle.program_model.specs.declared.program.RawAnno.{RawAnno}
use Rattle.must_call_types.specs.NameTable.{place_number, place_of_annotation}
use Rattle.must_call_types.proofs.Orders.{nondecreasing_map}
use Rattle.must_call_types.proofs.names.sort_annotations.Goals as goal

pub returns : goal.returns
returns c = record {
  same = IsPermutation-map (λ (a : Bor RawAnno). a.now) c.args.list.now.items c.sort_by_key.new.self.items c.sort_by_key.ensures.permutation;
  order =
      nondecreasing_map (λ (a : Bor RawAnno). a.now) place_of_annotation c.sort_by_key.new.self.items
      (IsNonDecreasingBy-from_sort_by_key (λ (a : Bor RawAnno). place_number a.now.pos) c.sort_by_key.new.self.items c.in_ok-sort_by_key.ensures.sorted (λ a r f' k. search rules));
}
