-- Which resource aliases are refused (Checker Framework manual, Resource Leak Checker, "Aliased resources").
use Rattle.std.specs.Prelude.{ℕ, Bool, true, false, ◌&&◌, ◌||◌, not, nat_eq, Option, Some, None, List, [], ◌∷◌, ◌++◌, filter, length, count_by, codes, if◌then◌else◌}
use Rattle.std.specs.List.{list_any, list_all, flat_map, range_with_len}
use Rattle.std.specs.FinSet as set
use Rattle.std.specs.Str.{bytes_eq}
use Rattle.rlc_base.specs.declared.code.Code.TheVariants as refused
use Rattle.rlc_base.specs.declared.faults.Refusal.{Refusal}
use Rattle.rlc_base.specs.declared.place.Pos.{Pos}
use Rattle.program_model.specs.declared.kinds.ClassId.{ClassId}
use Rattle.program_model.specs.declared.kinds.FieldId.{FieldId}
use Rattle.program_model.specs.declared.kinds.VType.{VType}
use Rattle.program_model.specs.declared.kinds.VType.TheVariants as types
use Rattle.program_model.specs.declared.program.Program.{Program}
use Rattle.program_model.specs.declared.program.Class.{Class}
use Rattle.program_model.specs.declared.program.Method.{Method}
use Rattle.program_model.specs.declared.program.Field.{Field}
use Rattle.program_model.specs.declared.program.Sig.{Sig}
use Rattle.program_model.specs.declared.program.RawAnno.{RawAnno}
use Rattle.program_model.specs.declared.program.ParamSig.{ParamSig}
use Rattle.program_model.specs.declared.tree.Body.{Body}
use Rattle.program_model.specs.declared.tree.TStmt.{TStmt}
use Rattle.program_model.specs.declared.tree.StatementKind.{StatementKind}
use Rattle.program_model.specs.declared.tree.StatementKind.TheVariants as statements
use Rattle.program_model.specs.declared.kinds.BodyId.{BodyId}
use Rattle.program_model.specs.Lookups.{class_at, method_at, field_at, body_at, statement_at}
use Rattle.program_model.specs.SuperTests.{has_class, is_under}
use Rattle.program_model.specs.Overrides.{Overriding}
use Rattle.rlc_base.specs.NameSet.{is_same}
use Rattle.must_call_sets.specs.MustCallSets.{Names, no_names, must_of, must_of_optional, is_heavy_class}
use Rattle.must_call_sets.specs.Signatures.{has_name, is_position, is_present, is_owning_at, type_at}
use Rattle.must_call_sets.specs.Overridings.{class_ids, overridings}
use Rattle.must_call_sets.specs.Bodies.{is_constructor_kind}
use Rattle.must_call_sets.specs.OwningCases.{gives_alias_of, gives_as_alias, is_of_type, type_at_some}
use Rattle.refusal_order.specs.Refusals.{where_true}

abbrev pub bad_alias : Bool → Pos → List Refusal
bad_alias holds pos = where_true holds refused.BadAlias pos

-- ---- at a method or constructor

-- `@MustCallAlias` stands there
abbrev pub is_marked : List RawAnno → Bool
is_marked annos = list_any (λ (a : RawAnno). bytes_eq a.name (codes "MustCallAlias")) annos

-- at how many positions it stands
abbrev pub marks : Sig → ℕ
marks s = count_by (λ (x : ParamSig). is_marked x.annos.items) (s.receiver ∷ s.params.items)

-- It stands somewhere, and not on exactly one position and on the method or constructor.
abbrev pub is_half_marked : Method → Bool
is_half_marked m = (is_marked m.annos.items || not (nat_eq (marks m.sig) 0)) && not (is_marked m.annos.items && nat_eq (marks m.sig) 1)

-- what must be called on the result, or on the constructed object
abbrev pub result_set : Program → Method → Names
result_set p m = if is_constructor_kind m.kind then must_of p m.class else must_of_optional p m.sig.result

-- the set has one name of the table, and no other
abbrev pub is_single : Program → Names → Bool
is_single p names = list_any (λ n. is_same names (set.insert no_names n)) (range_with_len 0 (length p.names))

-- the two sets are equal and have one name
abbrev pub are_one_name : Program → Names → Names → Bool
are_one_name p x y = is_same x y && is_single p x

abbrev pub has_unequal_sets : Program → Method → Option ℕ → Bool
has_unequal_sets p m None = false
has_unequal_sets p m (Some k) = not (are_one_name p (must_of_optional p (type_at m.sig k)) (result_set p m))

abbrev pub has_owning_alias : Method → Option ℕ → Bool
has_owning_alias m None = false
has_owning_alias m (Some k) = is_owning_at m.sig k

abbrev pub names_alias_constructor : Option Method → Bool
names_alias_constructor None = false
names_alias_constructor (Some m) = is_present m.sig.alias

abbrev pub calls_alias_by : Program → StatementKind → Bool
calls_alias_by p (statements.SuperCall c) = names_alias_constructor (method_at p c.constructor)
calls_alias_by p _ = false

abbrev pub calls_alias_at : Program → Option TStmt → Bool
calls_alias_at p None = false
calls_alias_at p (Some s) = calls_alias_by p s.kind

abbrev pub calls_alias_in : Program → Option Body → Bool
calls_alias_in p None = false
calls_alias_in p (Some b) = list_any (λ s. calls_alias_at p (statement_at b s)) b.stmts.items

abbrev pub optional_body : Program → Option BodyId → Option Body
optional_body p None = None
optional_body p (Some b) = body_at p b

-- its super call names an alias constructor
abbrev pub calls_alias : Program → Method → Bool
calls_alias p m = calls_alias_in p (optional_body p m.body)

-- the class is the named one or under it, and one of exceptions (JLS 11.1.1)
abbrev pub is_exception_under : Program → ClassId → Class → Bool
is_exception_under p c k = has_class k.above.items c && has_class k.above.items p.core.throwable

-- there is such a class
abbrev pub has_exception_under : Program → ClassId → Bool
has_exception_under p c = list_any (is_exception_under p c) p.classes.items

abbrev pub may_be_exception : Program → Option VType → Bool
may_be_exception p (Some (types.Obj c)) = has_exception_under p c
may_be_exception p _ = false

-- The alias may be an exception. No rule follows a resource through a `throw`, so such an alias would leave their sight.
abbrev pub gives_exception : Program → Method → Bool
gives_exception p m = is_present m.sig.alias && may_be_exception p m.sig.result

-- the annotations, the sets or the super call do not go with an alias
abbrev pub has_bad_alias_form : Program → Method → Bool
has_bad_alias_form p m =
    is_half_marked m
    || has_unequal_sets p m m.sig.alias
    || has_owning_alias m m.sig.alias
    || calls_alias p m

abbrev pub is_bad_alias_method : Program → Method → Bool
is_bad_alias_method p m = has_bad_alias_form p m || gives_exception p m

abbrev pub alias_cases_of_method : Program → Method → List Refusal
alias_cases_of_method p m = bad_alias (is_bad_alias_method p m) m.pos

-- ---- at a program class with an alias constructor

abbrev pub is_alias_constructor_in : Option Method → Bool
is_alias_constructor_in None = false
is_alias_constructor_in (Some m) = is_constructor_kind m.kind && is_present m.sig.alias

-- a program class with an alias constructor
abbrev pub is_alias_class : Program → Class → Bool
is_alias_class p k = not k.library && list_any (λ m. is_alias_constructor_in (method_at p m)) k.methods.items

abbrev pub is_owning_in : Option Field → Bool
is_owning_in None = false
is_owning_in (Some x) = x.owning

abbrev pub is_final_in : Option Field → Bool
is_final_in None = false
is_final_in (Some x) = x.is_final

-- the owning fields that a class declares, in textual order
abbrev pub owning_fields : Program → Class → List FieldId
owning_fields p k = filter (λ f. is_owning_in (field_at p f)) k.fields.items

-- exactly one field, which is final
abbrev pub is_one_final : Program → List FieldId → Bool
is_one_final p fields = nat_eq (length fields) 1 && list_all (λ f. is_final_in (field_at p f)) fields

abbrev pub is_heavy_super : Program → Option ClassId → Bool
is_heavy_super p None = false
is_heavy_super p (Some d) = is_heavy_class p d

-- a method that creates the obligation of `this` anew, declared by the class or by one above or under it
abbrev pub resets_near : Program → ClassId → Method → Bool
resets_near p c m = is_position m.sig.reset 0 && (is_under p c m.class || is_under p m.class c)

-- A call on an alias counts for the object behind it, whatever the alias does there; but for the one name of an alias of the program, whose method has to
-- call it on what its field holds. So no other name that must be called on the object may be that of a call on the alias.

-- objects of the class may be made as aliases by the method or constructor: those of a class of the program by its constructors alone
abbrev pub makes_as_alias : Class → Method → Bool
makes_as_alias k m = gives_as_alias k m && (k.library || is_constructor_kind m.kind)

-- objects of the class are of the type, and may be made as aliases
abbrev pub is_made_alias : Program → VType → Class → Bool
is_made_alias p t k = is_of_type k (Some t) && list_any (makes_as_alias k) p.methods.items

-- what is of the type may be an object of the class, or an alias that is made while some method or constructor gives aliases of such objects
abbrev pub may_stand_at : Program → Option VType → Class → Bool
may_stand_at p None d = false
may_stand_at p (Some t) d = is_of_type d (Some t) || list_any (gives_alias_of d) p.methods.items && list_any (is_made_alias p t) p.classes.items

-- the aliased argument of the method or constructor may be an object of the class, or an alias of one
abbrev pub may_be_behind : Program → Method → Class → Bool
may_be_behind p m d = may_stand_at p (type_at_some m.sig m.sig.alias) d

-- it gives objects of class `x` as aliases, behind which objects of class `d` may be
abbrev pub gives_before : Program → Class → Class → Method → Bool
gives_before p d x m = gives_as_alias x m && may_be_behind p m d

-- a class of the library that has the method, and whose objects may be aliases of objects of class `k`
abbrev pub is_library_alias_with : Program → Class → Method → Class → Bool
is_library_alias_with p k m x = x.library && has_class x.above.items m.class && list_any (gives_before p k x) p.methods.items

-- the method may be called on objects of the class, or on aliases of them that the library makes
abbrev pub may_be_called_on : Program → Class → Method → Bool
may_be_called_on p k m = has_class k.above.items m.class || list_any (is_library_alias_with p k m) p.classes.items

-- the call must be made on objects of class `d`, and not on those of the alias class `k`, but may be made on these
abbrev pub is_miscounted : Program → Class → Class → Method → Bool
is_miscounted p k d m = has_name d.must m.sig.interest && not (has_name k.must m.sig.interest) && may_be_called_on p k m

-- behind aliases that the constructor of class `k` makes there may be objects of class `d`, on which more must be called than on the alias, and for which
-- some call on an alias would count
abbrev pub is_passed_over : Program → Class → Method → Class → Bool
is_passed_over p k m d = not (set.is_subset d.must k.must) && may_be_behind p m d && list_any (is_miscounted p k d) p.methods.items

abbrev pub passes_over : Program → Class → Option Method → Bool
passes_over p k None = false
passes_over p k (Some m) = is_constructor_kind m.kind && list_any (is_passed_over p k m) p.classes.items

abbrev pub is_bad_alias_class : Program → ClassId → Class → Bool
is_bad_alias_class p c k =
    not (is_one_final p (owning_fields p k))
    || is_heavy_super p k.sup
    || list_any (resets_near p c) p.methods.items
    || list_any (λ m. passes_over p k (method_at p m)) k.methods.items

abbrev pub alias_cases_in : Program → ClassId → Option Class → List Refusal
alias_cases_in p c None = []
alias_cases_in p c (Some k) = bad_alias (is_alias_class p k && is_bad_alias_class p c k) k.pos

-- ---- at an override

abbrev pub is_same_position : Option ℕ → Option ℕ → Bool
is_same_position None None = true
is_same_position None (Some k) = false
is_same_position (Some j) None = false
is_same_position (Some j) (Some k) = nat_eq j k

abbrev pub alias_cases_of_override : Overriding → List Refusal
alias_cases_of_override o = bad_alias (not (is_same_position o.by.sig.alias o.overridden.sig.alias)) o.pos

-- all cases
abbrev pub alias_cases : Program → List Refusal
alias_cases p =
    flat_map (alias_cases_of_method p) p.methods.items
    ++ flat_map (λ c. alias_cases_in p c (class_at p c)) (class_ids p)
    ++ flat_map alias_cases_of_override (overridings p)
