-- An index from the fields of objects to their values, as the list of what the fields hold.
use Rattle.std.specs.Prelude.{Bool, List, map}
use Rattle.ledger_state.specs.declared.object.StoredField.{StoredField}
use Rattle.ledger_state.specs.declared.stored_fields.ObjectField.{ObjectField}
use Rattle.ledger_state.specs.contracts.stored_fields.ObjectFieldPartialEq.TheImpl as same_field
use Rattle.ledger_state.specs.declared.value.Value.{Value}
use Rattle.ledger_state.specs.Heaps.{stored}

-- both are the same field of the same object
abbrev pub is_same_field : ObjectField → ObjectField → Bool
is_same_field = (same_field.ghosts).eq

-- what the field of an entry holds
abbrev pub field_of_entry : ObjectField × Value → StoredField
field_of_entry e = stored e.0.holder e.0.field e.1

abbrev pub fields_of : List (ObjectField × Value) → List StoredField
fields_of es = map field_of_entry es
