-- What the annotations of a method or constructor make of its signature. Where no annotation says otherwise, parameters are not
-- owning and results are.
use Rattle.std.specs.Prelude.{ℕ, ◌+◌, Bool, true, false, ◌&&◌, not, nat_eq, nat_lt, Option, Some, None, List, [], ◌∷◌, length, count_by, position, codes, if◌then◌else◌}
use Rattle.std.specs.List.{filter_map}
use Rattle.std.specs.Option.{option_map}
use Rattle.rlc_base.specs.Names.{place_of}
use Rattle.rlc_base.specs.declared.name_id.NameId.{NameId}
use Rattle.program_model.specs.declared.kinds.FieldId.{FieldId}
use Rattle.program_model.specs.declared.kinds.MethodKind.{MethodKind}
use Rattle.program_model.specs.declared.kinds.Target.{Target}
use Rattle.program_model.specs.declared.kinds.MethodKind.TheVariants as methods
use Rattle.program_model.specs.declared.program.Field.{Field}
use Rattle.program_model.specs.declared.program.Method.{Method}
use Rattle.program_model.specs.declared.program.Sig.{Sig}
use Rattle.program_model.specs.declared.program.ParamSig.{ParamSig}
use Rattle.program_model.specs.declared.program.Promise.{Promise}
use Rattle.program_model.specs.declared.program.RawAnno.{RawAnno}
use Rattle.program_model.specs.NameSets.{Names, no_names}
use Rattle.annotation_kinds.specs.declared.annotation.AnnotationKind.TheVariants as annotations
use Rattle.annotation_kinds.specs.Annotations.{first_of, is_marked, texts_at}
use Rattle.effective_signatures.specs.Sets.{numbers_of, own_or, value_set}
use Rattle.effective_signatures.specs.Targets.{has_object, keeps_object, position_of, target_of}

-- ---- parameters

-- the names that a parameter's `@CalledMethods` lists
abbrev pub called_before : List (List ℕ) → List RawAnno → Names
called_before table annos = own_or (value_set table (first_of annotations.CalledMethods annos)) no_names

abbrev pub signed_parameter : List (List ℕ) → ParamSig → ParamSig
signed_parameter table x = record x { owning = is_marked annotations.Owning x.annos.items; before = called_before table x.annos.items }

-- neither mark may stand on the receiver
abbrev pub signed_receiver : ParamSig → ParamSig
signed_receiver x = record x { owning = false; before = no_names }

-- ---- the result

abbrev pub is_constant_kind : MethodKind → Bool
is_constant_kind methods.Constant = true
is_constant_kind _ = false

-- a result is owning where no annotation says otherwise, and that of a library constant never is
abbrev pub has_owning_result : Method → Bool
has_owning_result m = not (is_constant_kind m.kind) && not (is_marked annotations.NotOwning m.annos.items)

-- the set that bounds a fresh result
abbrev pub first_set : List (List ℕ) → Method → Option Names
first_set table m = value_set table (first_of annotations.MustCall m.annos.items)

-- ---- resource aliases

abbrev pub is_aliased : ParamSig → Bool
is_aliased x = is_marked annotations.MustCallAlias x.annos.items

abbrev pub first_aliased : Sig → Option ℕ
first_aliased s = if is_aliased s.receiver then Some 0 else option_map (λ k. k + 1) (position is_aliased s.params.items)

-- the position that stands for the same resource: `@MustCallAlias` is on it alone, and on the method or constructor
abbrev pub alias_position : Method → Option ℕ
alias_position m =
    if is_marked annotations.MustCallAlias m.annos.items && nat_eq (count_by is_aliased (m.sig.receiver ∷ m.sig.params.items)) 1
    then first_aliased m.sig else None

-- ---- resets

-- without a value the obligation is that of `this`
abbrev pub reset_text : List (List ℕ) → List ℕ
reset_text [] = codes "this"
reset_text (text ∷ texts) = text

abbrev pub reset_by : Method → RawAnno → Option ℕ
reset_by m a = position_of (has_object m.kind) (length m.sig.params.items) (reset_text (texts_at a (codes "value")))

abbrev pub reset_in : Method → Option RawAnno → Option ℕ
reset_in m None = None
reset_in m (Some a) = reset_by m a

-- the position whose obligation the call creates anew
abbrev pub reset_position : Method → Option ℕ
reset_position m = reset_in m (first_of annotations.CreatesMustCallFor m.annos.items)

-- ---- promises

abbrev pub promise : Names → Option Target → Option Promise
promise names None = None
promise names (Some target) = Some (record { target = target; names = names })

-- what an annotation promises, in the order of its texts
abbrev pub promises_by : List (List ℕ) → List Field → List FieldId → ℕ → Bool → Option RawAnno → List Promise
promises_by table fields own count with_object None = []
promises_by table fields own count with_object (Some a) =
    filter_map (λ text. promise (numbers_of table (texts_at a (codes "methods"))) (target_of with_object count fields own text)) (texts_at a (codes "value"))

-- what was called when the method ends normally
abbrev pub normal_promises : List (List ℕ) → List Field → List FieldId → Method → List Promise
normal_promises table fields own m =
    promises_by table fields own (length m.sig.params.items) (has_object m.kind) (first_of annotations.EnsuresCalledMethods m.annos.items)

-- what was called when it ends by an exception
abbrev pub throwing_promises : List (List ℕ) → List Field → List FieldId → Method → List Promise
throwing_promises table fields own m =
    promises_by table fields own (length m.sig.params.items) (keeps_object m.kind) (first_of annotations.EnsuresCalledMethodsOnException m.annos.items)

-- ---- the name of interest

abbrev pub is_instance_kind : MethodKind → Bool
is_instance_kind methods.Instance = true
is_instance_kind _ = false

-- an instance method without parameters
abbrev pub is_plain : Method → Bool
is_plain m = is_instance_kind m.kind && nat_eq (length m.sig.params.items) 0

abbrev pub number_in : List (List ℕ) → List ℕ → Option NameId
number_in table name = if nat_lt (place_of table name) (length table) then Some (record { 0 = place_of table name }) else None

-- the name of an instance method without parameters, where the table holds it
abbrev pub interest : List (List ℕ) → Method → Option NameId
interest table m = if is_plain m then number_in table m.name else None
