-- A call that counts for what is behind an alias of the program, by another name than the one of the alias, is none that must be made on this.
use Rattle.std.proofs.Common.{◌≡◌, ◌⊎◌, inl, inr, ℕ, zero, suc, ◌≤◌, ◌&&◌, ◌||◌, not, Bool, true, false, true≢false, eqb, eqb-true, Option, Some, None, Contains, IsSomeAnd, length, if◌then◌else◌, refl, sym, ap, ◌∙◌, subst, arith}
use Rattle.std.specs.FinSet as set
use Rattle.std.specs.List.{list_any, range_with_len}
use Rattle.std.proofs.lemmas.Bool.{and_from, or_left, or_right}
use Rattle.rlc_base.proofs.SetLaws.{Decides-is_same, member_of-empty, member_of-insert, within_at, within_self}
use Rattle.rlc_base.specs.NameSet.{is_same}
use Rattle.rlc_base.specs.declared.name_id.NameId.{NameId}
use Rattle.program_model.specs.declared.kinds.ClassId.{ClassId}
use Rattle.program_model.specs.declared.kinds.MethodId.{MethodId}
use Rattle.program_model.specs.declared.kinds.VType.{VType}
use Rattle.program_model.specs.declared.kinds.VType.TheVariants as types
use Rattle.program_model.specs.declared.program.Class.{Class}
use Rattle.program_model.specs.declared.program.Method.{Method}
use Rattle.program_model.specs.declared.program.Program.{Program}
use Rattle.program_model.specs.Lookups.{class_at, method_at}
use Rattle.program_model.specs.NameSets.{no_names}
use Rattle.program_model.specs.Overrides.{is_library, is_library_in}
use Rattle.program_model.specs.SuperTests.{classes_above, has_class, is_under}
use Rattle.must_call_sets.specs.AliasCases.{gives_before, is_alias_class, is_alias_constructor_in, is_bad_alias_class, is_heavy_super, is_library_alias_with, is_made_alias, is_miscounted, is_one_final, is_passed_over, is_single, makes_as_alias, may_be_behind, may_be_called_on, may_stand_at, owning_fields, passes_over, resets_near, result_set}
use Rattle.must_call_sets.specs.Bodies.{is_constructor_kind}
use Rattle.must_call_sets.specs.MustCallSets.{Names, must_in, must_of, must_of_optional}
use Rattle.must_call_sets.specs.OwningCases.{gives_alias_of, gives_as_alias, is_of_type, type_at_some}
use Rattle.must_call_sets.specs.Signatures.{has_name, is_present, type_at}
use Rattle.ledger_obligations.specs.Obligations.{goes_on, is_the_one}
use Rattle.ledger_state.specs.Classes.{class_in}
use Rattle.ledger_state.specs.Contents.{HeapContents}
use Rattle.ledger_state.specs.Heaps.{object_at, root}
use Rattle.ledger_state.specs.declared.object.Link.{Link}
use Rattle.ledger_state.specs.declared.object.Object.{Object}
use Rattle.covering_laws.specs.Accept.{Accept}
use Rattle.covering_laws.specs.Heaps.{HasEarlierLinks}
use Rattle.covering_laws.specs.Linking.{GivesClass, IsAliased, IsAliasedAs, IsGivenAsAlias, LinkedAreAliases, LinksReachAliased}
use Rattle.covering_laws.specs.Objects.{object_class}
use Rattle.covering_laws.proofs.AliasConducts.{one_name}
use Rattle.covering_laws.proofs.GivenAliases.{gives_as, some_passes}
use Rattle.covering_laws.proofs.HeapLaws.{roots_of_links-itself, roots_of_links-linked}
use Rattle.covering_laws.proofs.UnlinkedThis.{not_bad, passes_one}
use Rattle.content_laws.specs.Passing.{PassesProgram, by_library, by_program}
use Rattle.content_laws.proofs.InSight.{aliased_class, aliased_gives, any_passes, in_table, object_of, under_type}

-- object `k`, the first number, is linked to object `j`, the second, by one link or more
data Behind (h : HeapContents) : ℕ → ℕ → Type 0 where
  next : (k : ℕ) (x : Object) (l : Link) → object_at h k ≡ Some x → x.link ≡ Some l → Behind h k l.to
  after : (k j : ℕ) (x : Object) (l : Link) → object_at h k ≡ Some x → x.link ≡ Some l → Behind h l.to j → Behind h k j

-- the object is linked
record IsLinked (h : HeapContents) (k : ℕ) : Type 0 where
  object : Object
  link : Link
  at : object_at h k ≡ Some object
  linked : object.link ≡ Some link

linked_first : (h : HeapContents) (k j : ℕ) → Behind h k j → IsLinked h k
linked_first h k j (next k' x l at link) = record { object = x; link = l; at = at; linked = link }
linked_first h k j (after k' j' x l at link rest) = record { object = x; link = l; at = at; linked = link }

-- an alias of the program through which the name goes on; the call is noted on it, or on an alias of it that the library made
record IsPassed (p : Program) (h : HeapContents) (n : NameId) (k : ℕ) : Type 0 where
  number : ℕ
  alias : IsLinked h number
  program : alias.link.by_library ≡ false
  goes : goes_on p n alias.object alias.link ≡ true
  front : (number ≡ k) ⊎ (Behind h k number × ((first : IsLinked h k) × (first.link.by_library ≡ true)))

passed : (p : Program) (h : HeapContents) (n : NameId) (k : ℕ) → PassesProgram p h n k → IsPassed p h n k
passed p h n k (by_program k' x l at link program goes) = record { number = k; alias = record { object = x; link = l; at = at; linked = link }; program = program; goes = goes; front = inl refl }
passed p h n k (by_library k' x l at link library rest) =
    let f = passed p h n l.to rest in
    let first : IsLinked h k = record { object = x; link = l; at = at; linked = link } in
    record { number = f.number; alias = f.alias; program = f.program; goes = f.goes; front = inr (further f.number f.front, (first, library)) }
  where
    further : (j : ℕ) → (j ≡ l.to) ⊎ (Behind h l.to j × ((first : IsLinked h l.to) × (first.link.by_library ≡ true))) → Behind h k j
    further j (inl same) = subst (Behind h k) (sym same) (next k x l at link)
    further j (inr more) = after k j x l at link more.0

three : (a b c : Bool) → a ≡ true → b ≡ true → c ≡ true → (a && b && c) ≡ true
three true true true x y z = refl
three false b c x y z = absurd (true≢false (sym x))
three true false c x y z = absurd (true≢false (sym y))
three true true false x y z = absurd (true≢false (sym z))

of_class : (h : HeapContents) (j : ℕ) (z : Object) (e : ClassId) → object_at h j ≡ Some z → object_class h j ≡ Some e → z.class ≡ e
of_class h j z e at class = let both : Some z.class ≡ Some e = ap class_in (sym at) ∙ class in (let one : z.class ≡ e = cc in one)

-- a set that has one name has no other
the_one : (p : Program) (s t : Names) (n : NameId) → is_same s t ≡ true → is_single p s ≡ true → set.contains t n.0 ≡ true → is_the_one t n ≡ true
the_one p s t n same single has =
    let i = any_passes (λ (k : ℕ). is_same s (set.insert no_names k)) (range_with_len 0 (length p.names)) single in
    let whole : t ≡ set.insert no_names i.1 = sym ((Decides-is_same s t).0 same) ∙ (Decides-is_same s (set.insert no_names i.1)).0 i.3 in
    let here : set.contains (set.insert no_names i.1) n.0 ≡ true = ap (λ (u : Names). set.contains u n.0) (sym whole) ∙ has in
    let it : n.0 ≡ i.1 = only i.1 here in
    and_from (set.contains t n.0) (set.is_subset t (set.insert set.empty n.0)) has
    (subst (λ (u : Names). set.is_subset u (set.insert set.empty n.0) ≡ true) (ap (set.insert no_names) it ∙ sym whole) (within_self (set.insert no_names n.0)))
  where
    only : (i : ℕ) → set.contains (set.insert no_names i) n.0 ≡ true → n.0 ≡ i
    only i has' = go (eqb n.0 i) refl (sym (member_of-insert no_names i n.0) ∙ has')
      where
        go : (b : Bool) → eqb n.0 i ≡ b → (b || set.contains no_names n.0) ≡ true → n.0 ≡ i
        go true same all = eqb-true n.0 i same
        go false same all = absurd (true≢false (sym all ∙ member_of-empty n.0))

module _ (p : Program) (ac : Accept p) (h : HeapContents) (links : HasEarlierLinks h) (aliases : LinkedAreAliases p h) (reached : LinksReachAliased p h) where
  -- ---- what is behind an alias

  -- what a link leads to
  abbrev target : (k : ℕ) (f : IsLinked h k) → (e : ClassId) × (object_class h f.link.to ≡ Some e) × IsAliasedAs p f.object.class f.link.by_library e
  target k f = reached k f.object f.link f.at f.linked

  aliased_behind : (k j : ℕ) → Behind h k j → (z : Object) → object_at h j ≡ Some z → IsAliased p z.class
  aliased_behind k j (next k' x l at link) z there =
      let g = reached k x l at link in
      subst (IsAliased p) (sym (of_class h l.to z g.0 there g.1)) g.2.argument
  aliased_behind k j (after k' j' x l at link rest) z there = aliased_behind l.to j rest z there

  -- the constructor or method by whose signature the link was made
  abbrev maker : (k : ℕ) (f : IsLinked h k) → Method
  maker k f = (target k f).2.argument.method

  argument_type : (k : ℕ) (f : IsLinked h k) → type_at_some (maker k f).sig (maker k f).sig.alias ≡ Some (types.Obj (target k f).2.argument.type)
  argument_type k f = let g = (target k f).2.argument in ap (type_at_some g.method.sig) g.alias ∙ g.takes

  same_links : (k : ℕ) (f : IsLinked h k) (x : Object) (l : Link) → object_at h k ≡ Some x → x.link ≡ Some l → l ≡ f.link
  same_links k f x l at link =
      let object : x ≡ f.object = (let both : Some x ≡ Some f.object = sym at ∙ f.at in cc) in
      let both : Some l ≡ Some f.link = sym link ∙ ap (λ (o : Object). o.link) object ∙ f.linked in
      (let one : l ≡ f.link = cc in one)

  -- the object is made as an alias, in the words of the rule
  made_class : (e : ClassId) (k : Class) → class_at p e ≡ Some k → (given : IsGivenAsAlias p e) → list_any (makes_as_alias k) p.methods.items ≡ true
  made_class e k at given =
      some_passes (makes_as_alias k) p.methods.items given.number.0 given.method given.at (and_from (gives_as_alias k given.method) (k.library || is_constructor_kind given.method.kind) (gives_as p ac e k at given) (by given.class))
    where
      by : GivesClass p given.method e → (k.library || is_constructor_kind given.method.kind) ≡ true
      by (inl own) = or_right k.library (is_constructor_kind given.method.kind) own.0
      by (inr (c, result, heavy, under, library)) = or_left k.library (is_constructor_kind given.method.kind) (sym (ap is_library_in at) ∙ library)

  -- what is under the maker's type may be what it makes an alias of, or an alias
  stands : (t : ClassId) (d : Class) → is_of_type d (Some (types.Obj t)) ≡ true → may_stand_at p (Some (types.Obj t)) d ≡ true
  stands t d of = or_left (is_of_type d (Some (types.Obj t))) (list_any (gives_alias_of d) p.methods.items && list_any (is_made_alias p (types.Obj t)) p.classes.items) of

  stands_through : (t : ClassId) (d : Class) → list_any (gives_alias_of d) p.methods.items ≡ true → list_any (is_made_alias p (types.Obj t)) p.classes.items ≡ true → may_stand_at p (Some (types.Obj t)) d ≡ true
  stands_through t d gives made =
      or_right (is_of_type d (Some (types.Obj t))) (list_any (gives_alias_of d) p.methods.items && list_any (is_made_alias p (types.Obj t)) p.classes.items)
      (and_from (list_any (gives_alias_of d) p.methods.items) (list_any (is_made_alias p (types.Obj t)) p.classes.items) gives made)

  -- the maker's argument may be what is behind the alias
  behind_by_type : (k j : ℕ) (f : IsLinked h k) → Behind h k j → (z : Object) → object_at h j ≡ Some z → (d : Class) → class_at p z.class ≡ Some d → may_stand_at p (Some (types.Obj (target k f).2.argument.type)) d ≡ true
  behind_by_type k j f (next k' x l at link) z there d in' =
      let g = target k f in
      let class : z.class ≡ g.0 = of_class h f.link.to z g.0 (ap (λ (m : Link). object_at h m.to) (sym (same_links k f x l at link)) ∙ there) g.1 in
      stands g.2.argument.type d (under_type p z.class g.2.argument.type d in' (ap (λ (e : ClassId). is_under p e g.2.argument.type) class ∙ g.2.argument.under))
  behind_by_type k j f (after k' j' x l at link rest) z there d in' =
      let g = target k f in
      let inner = linked_first h l.to j rest in
      let class : inner.object.class ≡ g.0 = of_class h f.link.to inner.object g.0 (ap (λ (m : Link). object_at h m.to) (sym (same_links k f x l at link)) ∙ inner.at) g.1 in
      let its = aliased_class p ac h links aliases reached g.0 g.2.argument in
      let given : IsGivenAsAlias p g.0 = subst (IsGivenAsAlias p) class (aliases l.to inner.object inner.link inner.at inner.linked) in
      stands_through g.2.argument.type d (aliased_gives p ac h links aliases reached z.class d in' (aliased_behind l.to j rest z there))
      (some_passes (is_made_alias p (types.Obj g.2.argument.type)) p.classes.items g.0.0 its.0 its.1
      (and_from (is_of_type its.0 (Some (types.Obj g.2.argument.type))) (list_any (makes_as_alias its.0) p.methods.items) (under_type p g.0 g.2.argument.type its.0 its.1 g.2.argument.under) (made_class g.0 its.0 its.1 given)))

  may_stand_behind : (k j : ℕ) (f : IsLinked h k) → Behind h k j → (z : Object) → object_at h j ≡ Some z → (d : Class) → class_at p z.class ≡ Some d → may_be_behind p (maker k f) d ≡ true
  may_stand_behind k j f behind z there d in' = ap (λ (t : Option VType). may_stand_at p t d) (argument_type k f) ∙ behind_by_type k j f behind z there d in'

  -- the root is behind each linked object
  root_further : (m : ℕ) → ((k : ℕ) → k ≤ m → IsLinked h k → Behind h k (root h k)) → (k : ℕ) → k ≤ suc m → (f : IsLinked h k) → Behind h k (root h k)
  root_further m before k small f = go z.0.link refl
    where
      z : (w : Object) × (object_at h f.link.to ≡ Some w) × (w.class ≡ (target k f).0)
      z = object_of h f.link.to (target k f).0 (target k f).1

      same_root : root h k ≡ root h f.link.to
      same_root = roots_of_links-linked h k f.object f.link links f.at f.linked

      below : f.link.to ≤ m
      below = let earlier = (links k f.object f.link f.at f.linked).before in omega (arith, earlier, small)

      go : (o : Option Link) → z.0.link ≡ o → Behind h k (root h k)
      go None none = subst (Behind h k) (sym (same_root ∙ roots_of_links-itself h f.link.to z.0 z.1 none)) (next k f.object f.link f.at f.linked)
      go (Some l) some = subst (Behind h k) (sym same_root) (after k (root h f.link.to) f.object f.link f.at f.linked (before f.link.to below (record { object = z.0; link = l; at = z.1; linked = some })))

  to_root : (n k : ℕ) → k ≤ n → IsLinked h k → Behind h k (root h k)
  to_root zero k small f = absurd (let earlier = (links k f.object f.link f.at f.linked).before in let never : ⊥ = omega (arith, earlier, small) in never)
  to_root (suc m) k small f = root_further m (to_root m) k small f

  must_is : (c : ClassId) (k : Class) → class_at p c ≡ Some k → must_of p c ≡ k.must
  must_is c k at = ap must_in at

  -- ---- the rule

  module _ (j : ℕ) (f : IsLinked h j) (program : f.link.by_library ≡ false) where
    abbrev z : Object
    z = f.object

    abbrev g : IsAliasedAs p z.class f.link.by_library (target j f).0
    g = (target j f).2

    abbrev m : Method
    m = g.argument.method

    its_own : is_library p z.class ≡ false
    its_own = g.library ∙ program

    makes : (is_constructor_kind m.kind ≡ true) × (z.class ≡ m.class)
    makes = by g.class
      where
        by : GivesClass p m z.class → (is_constructor_kind m.kind ≡ true) × (z.class ≡ m.class)
        by (inl own) = own
        by (inr (c, result, heavy, under, library)) = absurd (true≢false (sym library ∙ its_own))

    -- its class is an alias class, which is not refused
    not_passed_over : (k : Class) → class_at p z.class ≡ Some k → list_any (is_passed_over p k m) p.classes.items ≡ true → ⊥
    not_passed_over k in' over = true≢false (sym (and_from (is_alias_class p k) (is_bad_alias_class p z.class k) alias_class bad) ∙ not_bad p ac z.class k in')
      where
        listed : Contains k.methods.items g.argument.number
        listed = subst (λ (o : Option Class). IsSomeAnd o (λ (i : Class). Contains i.methods.items g.argument.number)) (ap (class_at p) (sym makes.1) ∙ in') (ac.well_formed.valid.typed.methods g.argument.number m g.argument.at).listed

        constructor : is_alias_constructor_in (method_at p g.argument.number) ≡ true
        constructor = ap is_alias_constructor_in g.argument.at ∙ and_from (is_constructor_kind m.kind) (is_present m.sig.alias) makes.0 (ap is_present g.argument.alias)

        alias_class : is_alias_class p k ≡ true
        alias_class = and_from (not k.library) (list_any (λ (i : MethodId). is_alias_constructor_in (method_at p i)) k.methods.items) (ap not (sym (ap is_library_in in') ∙ its_own))
            (passes_one (λ (i : MethodId). is_alias_constructor_in (method_at p i)) k.methods.items g.argument.number listed constructor)

        passes : passes_over p k (method_at p g.argument.number) ≡ true
        passes = ap (passes_over p k) g.argument.at ∙ and_from (is_constructor_kind m.kind) (list_any (is_passed_over p k m) p.classes.items) makes.0 over

        bad : is_bad_alias_class p z.class k ≡ true
        bad = or_right (not (is_one_final p (owning_fields p k)) || is_heavy_super p k.sup || list_any (resets_near p z.class) p.methods.items) (list_any (λ (i : MethodId). passes_over p k (method_at p i)) k.methods.items)
            (passes_one (λ (i : MethodId). passes_over p k (method_at p i)) k.methods.items g.argument.number listed passes)

    -- a name that its link passes on is none of its set
    not_its_own : (n : NameId) → goes_on p n z f.link ≡ true → set.contains (must_of p z.class) n.0 ≡ false
    not_its_own n goes = by (set.contains (must_of p z.class) n.0) refl
      where
        stopped : is_the_one (must_of p z.class) n ≡ true → ⊥
        stopped one = true≢false (sym goes ∙ ap (λ (b : Bool). b || not (is_the_one (must_of p z.class) n)) program ∙ ap not one)

        sets : (is_same (must_of_optional p (type_at m.sig g.argument.position)) (result_set p m) ≡ true) × (is_single p (must_of_optional p (type_at m.sig g.argument.position)) ≡ true)
        sets = one_name p ac.well_formed g.argument.number m g.argument.at g.argument.position g.argument.alias

        result_is : result_set p m ≡ must_of p z.class
        result_is = by_kind (is_constructor_kind m.kind) refl
          where
            by_kind : (b : Bool) → is_constructor_kind m.kind ≡ b → (if b then must_of p m.class else must_of_optional p m.sig.result) ≡ must_of p z.class
            by_kind true is = ap (must_of p) (sym makes.1)
            by_kind false is = absurd (true≢false (sym makes.0 ∙ is))

        by : (b : Bool) → set.contains (must_of p z.class) n.0 ≡ b → set.contains (must_of p z.class) n.0 ≡ false
        by true has =
            absurd (stopped (the_one p (must_of_optional p (type_at m.sig g.argument.position)) (must_of p z.class) n (subst (λ (s : Names). is_same (must_of_optional p (type_at m.sig g.argument.position)) s ≡ true) result_is sets.0) sets.1 has))
        by false none = none

    -- what may be called on the alias is none that must be called on what is behind it alone
    passes_none : (i : MethodId) (d : Method) (n : NameId) → method_at p i ≡ Some d → d.sig.interest ≡ Some n → (k : Class) → class_at p z.class ≡ Some k → may_be_called_on p k d ≡ true → goes_on p n z f.link ≡ true
        → (o : ℕ) (y : Object) → root h j ≡ o → object_at h o ≡ Some y → set.contains (must_of p y.class) n.0 ≡ false
    passes_none i d n at interest k in' called goes o y root' there = by (set.contains (must_of p y.class) n.0) refl
      where
        behind : Behind h j o
        behind = subst (Behind h j) root' (to_root j j (omega arith) f)

        its : (e : Class) × (class_at p y.class ≡ Some e)
        its = aliased_class p ac h links aliases reached y.class (aliased_behind j o behind y there)

        not_named : set.contains k.must n.0 ≡ false
        not_named = sym (ap (λ (s : Names). set.contains s n.0) (must_is z.class k in')) ∙ not_its_own n goes

        by : (b : Bool) → set.contains (must_of p y.class) n.0 ≡ b → set.contains (must_of p y.class) n.0 ≡ false
        by false none = none
        by true has = absurd (not_passed_over k in' (some_passes (is_passed_over p k m) p.classes.items y.class.0 its.0 its.1 over))
          where
            named : set.contains (its.0).must n.0 ≡ true
            named = sym (ap (λ (s : Names). set.contains s n.0) (must_is y.class its.0 its.1)) ∙ has

            more : not (set.is_subset (its.0).must k.must) ≡ true
            more = go (set.is_subset (its.0).must k.must) refl
              where
                go : (c : Bool) → set.is_subset (its.0).must k.must ≡ c → not c ≡ true
                go true within = absurd (true≢false (sym (within_at (its.0).must k.must within n.0 named) ∙ not_named))
                go false within = refl

            miscounted : is_miscounted p k its.0 d ≡ true
            miscounted = three (has_name (its.0).must d.sig.interest) (not (has_name k.must d.sig.interest)) (may_be_called_on p k d) (ap (has_name (its.0).must) interest ∙ named) (ap (λ (a : Option NameId). not (has_name k.must a)) interest ∙ ap not not_named) called

            over : is_passed_over p k m its.0 ≡ true
            over = three (not (set.is_subset (its.0).must k.must)) (may_be_behind p m its.0) (list_any (is_miscounted p k its.0) p.methods.items) more (may_stand_behind j o f behind y there its.0 its.1)
                (some_passes (is_miscounted p k its.0) p.methods.items i.0 d at miscounted)

  -- ---- the call

  -- objects on one way have one root
  same_roots : (k j : ℕ) → Behind h k j → root h j ≡ root h k
  same_roots k j (next k' x l at link) = sym (roots_of_links-linked h k x l links at link)
  same_roots k j (after k' j' x l at link rest) = same_roots l.to j rest ∙ sym (roots_of_links-linked h k x l links at link)

  has_above : (e c : ClassId) (k : Class) → class_at p e ≡ Some k → is_under p e c ≡ true → has_class k.above.items c ≡ true
  has_above e c k at under = sym (ap (λ (o : Option Class). has_class (classes_above e o) c) at) ∙ under

  module _ (i : MethodId) (d : Method) (at : method_at p i ≡ Some d) (k : ℕ) (x : Object) (there : object_at h k ≡ Some x) (under : is_under p x.class d.class ≡ true) where
    -- the class of an object on which the method is called is in the table
    receiver : (e : Class) × (class_at p x.class ≡ Some e)
    receiver = go (class_at p d.class) refl (ac.well_formed.valid.typed.methods i d at).listed
      where
        go : (o : Option Class) → class_at p d.class ≡ o → IsSomeAnd o (λ (e : Class). Contains e.methods.items i) → (e : Class) × (class_at p x.class ≡ Some e)
        go None none listed = absurd listed
        go (Some e) some listed = in_table p x.class d.class e some under

    -- a call on a library's alias of what is behind it
    called_before : (first : IsLinked h k) → first.link.by_library ≡ true → (j : ℕ) → Behind h k j → (z : Object) → object_at h j ≡ Some z → (e : Class) → class_at p z.class ≡ Some e → may_be_called_on p e d ≡ true
    called_before first library j behind z in_heap e in' =
        or_right (has_class e.above.items d.class) (list_any (is_library_alias_with p e d) p.classes.items)
        (some_passes (is_library_alias_with p e d) p.classes.items x.class.0 receiver.0 receiver.1 (three (receiver.0).library (has_class (receiver.0).above.items d.class) (list_any (gives_before p e receiver.0) p.methods.items) of_library above gives))
      where
        same : first.object ≡ x
        same = let both : Some first.object ≡ Some x = sym first.at ∙ there in cc

        g : IsAliasedAs p x.class first.link.by_library (target k first).0
        g = subst (λ (w : Object). IsAliasedAs p w.class first.link.by_library (target k first).0) same (target k first).2

        of_library : (receiver.0).library ≡ true
        of_library = sym (ap is_library_in receiver.1) ∙ ap (λ (w : Object). is_library p w.class) (sym same) ∙ (target k first).2.library ∙ library

        above : has_class (receiver.0).above.items d.class ≡ true
        above = has_above x.class d.class receiver.0 receiver.1 under

        given : IsGivenAsAlias p x.class
        given = let a = (target k first).2.argument in
            record { number = a.number; method = a.method; at = a.at; position = a.position; alias = a.alias; class = subst (λ (w : Object). GivesClass p a.method w.class) same (target k first).2.class }

        gives : list_any (gives_before p e receiver.0) p.methods.items ≡ true
        gives = some_passes (gives_before p e receiver.0) p.methods.items (target k first).2.argument.number.0 (maker k first) (target k first).2.argument.at
            (and_from (gives_as_alias receiver.0 (maker k first)) (may_be_behind p (maker k first) e) (gives_as p ac x.class receiver.0 receiver.1 given) (may_stand_behind k j first behind z in_heap e in'))

    module _ (n : NameId) (interest : d.sig.interest ≡ Some n) (f : IsPassed p h n k) where
      abbrev own : Object
      own = f.alias.object

      -- the class of the alias of the program
      its_class : (e : Class) × (class_at p own.class ≡ Some e)
      its_class = go (class_at p m.class) refl (ac.well_formed.valid.typed.methods g.number m g.at).listed
        where
          g : IsAliased p (target f.number f.alias).0
          g = (target f.number f.alias).2.argument

          m : Method
          m = (target f.number f.alias).2.argument.method

          go : (o : Option Class) → class_at p (maker f.number f.alias).class ≡ o → IsSomeAnd o (λ (e : Class). Contains e.methods.items (target f.number f.alias).2.argument.number) → (e : Class) × (class_at p own.class ≡ Some e)
          go None none listed = absurd listed
          go (Some e) some listed = (e, ap (class_at p) (makes f.number f.alias f.program).1 ∙ some)

      called : may_be_called_on p its_class.0 d ≡ true
      called = by f.front
        where
          by : (f.number ≡ k) ⊎ (Behind h k f.number × ((first : IsLinked h k) × (first.link.by_library ≡ true))) → may_be_called_on p its_class.0 d ≡ true
          by (inl same) =
              let one : own ≡ x = (let both : Some own ≡ Some x = sym f.alias.at ∙ ap (object_at h) same ∙ there in cc) in
              or_left (has_class (its_class.0).above.items d.class) (list_any (is_library_alias_with p its_class.0 d) p.classes.items)
              (has_above own.class d.class its_class.0 its_class.1 (ap (λ (w : Object). is_under p w.class d.class) one ∙ under))
          by (inr (behind, (first, library))) = called_before first library f.number behind own f.alias.at its_class.0 its_class.1

      root_of_alias : root h f.number ≡ root h k
      root_of_alias = by f.front
        where
          by : (f.number ≡ k) ⊎ (Behind h k f.number × ((first : IsLinked h k) × (first.link.by_library ≡ true))) → root h f.number ≡ root h k
          by (inl same) = ap (root h) same
          by (inr (behind, first)) = same_roots k f.number behind

      none_asked : (o : ℕ) (y : Object) → root h k ≡ o → object_at h o ≡ Some y → set.contains (must_of p y.class) n.0 ≡ false
      none_asked o y root' in_heap = passes_none f.number f.alias f.program i d n at interest its_class.0 its_class.1 called f.goes o y (root_of_alias ∙ root') in_heap

pub passes_nothing : (p : Program) → Accept p → (h : HeapContents) → HasEarlierLinks h → LinkedAreAliases p h → LinksReachAliased p h → (i : MethodId) (d : Method) (n : NameId) → method_at p i ≡ Some d → d.sig.interest ≡ Some n
    → (k : ℕ) (x : Object) → object_at h k ≡ Some x → is_under p x.class d.class ≡ true → PassesProgram p h n k → (o : ℕ) (y : Object) → root h k ≡ o → object_at h o ≡ Some y → set.contains (must_of p y.class) n.0 ≡ false
passes_nothing p ac h links aliases reached i d n at interest k x there under passes = none_asked p ac h links aliases reached i d at k x there under n interest (passed p h n k passes)
