-- No super constructor that is called gives a resource alias: the rule on aliases refuses it.
use Rattle.std.proofs.Common.{◌≡◌, ◌∙◌, ℕ, true, false, ◌||◌, true≢false, Option, Some, None, IsSomeAnd, [], ◌++◌, Contains, refl, sym, ap}
use Rattle.std.specs.List.{flat_map}
use Rattle.std.proofs.lemmas.Bool.{or_parts}
use Rattle.rlc_base.specs.declared.code.Code.TheVariants as refused
use Rattle.program_model.specs.declared.kinds.BodyId.{BodyId}
use Rattle.program_model.specs.declared.kinds.MethodId.{MethodId}
use Rattle.program_model.specs.declared.kinds.StmtId.{StmtId}
use Rattle.program_model.specs.declared.program.Method.{Method}
use Rattle.program_model.specs.declared.program.Program.{Program}
use Rattle.program_model.specs.declared.tree.Body.{Body}
use Rattle.program_model.specs.declared.tree.StatementKind.{StatementKind}
use Rattle.program_model.specs.declared.tree.StatementKind.TheVariants as statements
use Rattle.program_model.specs.declared.tree.TStmt.{TStmt}
use Rattle.program_model.specs.Lookups.{body_at, class_at, method_at, statement_at}
use Rattle.program_model.specs.Validity.{IsBodyOf}
use Rattle.ownership_rules.specs.AliasCases.{alias_cases_in, alias_cases_of_method, alias_cases_of_override, calls_alias, calls_alias_at, calls_alias_by, calls_alias_in, gives_exception, has_bad_alias_form, has_owning_alias, has_unequal_sets, is_bad_alias_method, is_half_marked, names_alias_constructor, optional_body}
use Rattle.ownership_rules.specs.Bodies.{alias_in}
use Rattle.ownership_rules.specs.Overridings.{class_ids, overridings}
use Rattle.ownership_rules.specs.Signatures.{is_present}
use Rattle.content_laws.specs.Accept.{Accept}
use Rattle.ledger_steps.proofs.Elements.{none-has}
use Rattle.dispatch_laws.proofs.Lists.{contains_at, nil_left, none_gathered, not_refused}
use Rattle.content_laws.specs.Constructors.{IsCallOf}

not_present : (o : Option Method) → names_alias_constructor o ≡ false → alias_in o ≡ None
not_present None is = refl
not_present (Some m) is = go m.sig.alias is
  where
    go : (a : Option ℕ) → is_present a ≡ false → a ≡ None
    go None none = refl
    go (Some k) none = absurd (true≢false none)

-- the call of a super constructor names none with an alias
called : (p : Program) (m : MethodId) (k : StatementKind) → IsCallOf m k → calls_alias_by p k ≡ false → alias_in (method_at p m) ≡ None
called p m (statements.SuperCall c) is none = not_present (method_at p m) (ap (λ (z : MethodId). names_alias_constructor (method_at p z)) (sym is) ∙ none)
called p m (statements.Block ss end) is none = absurd is
called p m k is none = absurd is

module _ (p : Program) (ac : Accept p) where
  method_calls_none : (m : MethodId) (x : Method) → method_at p m ≡ Some x → calls_alias p x ≡ false
  method_calls_none m x at =
      let classes = flat_map (alias_cases_of_method p) p.methods.items ++ flat_map (λ c. alias_cases_in p c (class_at p c)) (class_ids p) in
      let every : flat_map (alias_cases_of_method p) p.methods.items ≡ [] =
      nil_left (flat_map (alias_cases_of_method p) p.methods.items) (flat_map (λ c. alias_cases_in p c (class_at p c)) (class_ids p))
      (nil_left classes (flat_map alias_cases_of_override (overridings p)) ac.well_formed.aliases) in
      let one : alias_cases_of_method p x ≡ [] = none_gathered (alias_cases_of_method p) p.methods.items x every (contains_at p.methods.items m.0 x at) in
      let fine : is_bad_alias_method p x ≡ false = not_refused (is_bad_alias_method p x) refused.BadAlias x.pos one in
      let form : has_bad_alias_form p x ≡ false = (or_parts (has_bad_alias_form p x) (gives_exception p x) fine).0 in
      (or_parts (is_half_marked x || has_unequal_sets p x x.sig.alias || has_owning_alias x x.sig.alias) (calls_alias p x) form).1

  body_calls_none : (n : BodyId) (b : Body) → body_at p n ≡ Some b → calls_alias_in p (Some b) ≡ false
  body_calls_none n b at = go (method_at p b.method) refl (ac.well_formed.valid.typed.bodies n b at).method
    where
      go : (o : Option Method) → method_at p b.method ≡ o → IsSomeAnd o (IsBodyOf n b) → calls_alias_in p (Some b) ≡ false
      go None none has = absurd has
      go (Some x) there has =
          let same : optional_body p x.body ≡ Some b = ap (optional_body p) has.0 ∙ at in
          sym (ap (calls_alias_in p) same) ∙ method_calls_none b.method x there

  pub super_gives_no_alias : (n : BodyId) (b : Body) (m : MethodId) (s : StmtId) → body_at p n ≡ Some b → Contains b.stmts.items s → IsSomeAnd (statement_at b s) (λ x. IsCallOf m x.kind) → alias_in (method_at p m) ≡ None
  super_gives_no_alias n b m s at own calls =
      go (statement_at b s) calls (none-has (λ (t : StmtId). calls_alias_at p (statement_at b t)) b.stmts.items (body_calls_none n b at) s own)
    where
      go : (o : Option TStmt) → IsSomeAnd o (λ x. IsCallOf m x.kind) → calls_alias_at p o ≡ false → alias_in (method_at p m) ≡ None
      go None has none = absurd has
      go (Some x) has none = called p m x.kind has none
