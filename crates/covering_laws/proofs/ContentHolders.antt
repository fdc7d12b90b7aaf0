-- The objects whose fields own something: a class with an owning field whose type has an obligation has one itself, so the way up from an object with an obligation leads through such
-- objects, which are linked to none.
use Rattle.std.proofs.Common.{◌≡◌, ℕ, Bool, true, false, not, Some, List, refl, sym, ap, ◌∙◌, true≢false}
use Rattle.std.specs.FinSet as set
use Rattle.std.proofs.lemmas.Bool.{or_right}
use Rattle.rlc_base.proofs.SetLaws.{member_of-empty, within_at, within_from}
use Rattle.program_model.specs.declared.kinds.ClassId.{ClassId}
use Rattle.program_model.specs.declared.kinds.FieldId.{FieldId}
use Rattle.program_model.specs.declared.program.Field.{Field}
use Rattle.program_model.specs.declared.program.Program.{Program}
use Rattle.program_model.specs.Lookups.{field_at}
use Rattle.must_call_sets.specs.MustCallSets.{is_empty, is_heavy_class, must_of, must_of_type, no_names}
use Rattle.must_call_sets.specs.OwningCases.{finalized}
use Rattle.ledger_state.specs.Contents.{HeapContents}
use Rattle.ledger_obligations.specs.Obligations.{is_unmet}
use Rattle.value_laws.specs.Accept.{Accept}
use Rattle.value_laws.specs.Configuration.{Frame}
use Rattle.value_laws.specs.FieldContents.{HaveContents}
use Rattle.value_laws.specs.Holders.{HoldersAreUnlinked}
use Rattle.covering_laws.proofs.Finalizers.{is_promised, owned_names}

module _ (p : Program) (ac : Accept p) where
  -- the class of an owning field asks for calls, where what the field may hold does
  pub field_class_is_heavy : (c : ClassId) (f : FieldId) (x : Field) → field_at p f ≡ Some x → x.owning ≡ true → set.is_subset (must_of p c) (must_of_type p x.vtype) ≡ true → is_heavy_class p c ≡ true
      → is_heavy_class p x.class ≡ true
  field_class_is_heavy c f x at owning bounded heavy = go (is_empty (must_of p x.class)) refl
    where
      none : is_empty (must_of p x.class) ≡ true → (k : ℕ) → set.contains (must_of p c) k ≡ true → set.contains no_names k ≡ true
      none light k has =
          let typed = within_at (must_of p c) (must_of_type p x.vtype) bounded k has in
          let promised = is_promised p ac x.class f k (within_at (must_of_type p x.vtype) (finalized p x.class f) (owned_names p ac f x at owning) k typed) in
          absurd (true≢false (sym (within_at (must_of p x.class) no_names light promised.name.0 promised.needed) ∙ member_of-empty promised.name.0))

      go : (b : Bool) → is_empty (must_of p x.class) ≡ b → not b ≡ true
      go true light = absurd (true≢false (sym heavy ∙ ap not (within_from (must_of p c) set.empty (none light))))
      go false full = refl

  -- the object whose field owns one with an obligation is linked to none, and its class has one
  pub contents_have_holders : (frs : List Frame) (h : HeapContents) → HaveContents p frs h → HoldersAreUnlinked (is_heavy_class p) h
  contents_have_holders frs h have o x w f at heavy owned =
      let content = have o x w f at (or_right (is_unmet x) (is_heavy_class p x.class) heavy) owned in (
        content.holder,
        content.at,
        content.unlinked,
        ap (is_heavy_class p) content.class ∙ field_class_is_heavy x.class f content.field content.declared content.owning content.bounded heavy,
      )
