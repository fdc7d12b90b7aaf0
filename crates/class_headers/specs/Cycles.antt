-- Whether a class stands above itself, by all that it stands under.
use Rattle.std.specs.Prelude.{Bool, false, List, slice_index_or, map, filter, length}
use Rattle.std.specs.List.{list_any, range_with_len}
use Rattle.program_model.specs.declared.kinds.ClassId.{ClassId}
use Rattle.program_model.specs.SuperTests.{has_class}
use Rattle.class_names.specs.ClassNames.{class_number}
use Rattle.class_headers.specs.SuperTypes.{right_above}

-- one of the classes has the class right above it
abbrev pub closes : List (List ClassId) → List ClassId → ClassId → Bool
closes direct found c = list_any (λ b. has_class (right_above direct b) c) found

-- the classes with a mark, in class order
abbrev pub marked_classes : List Bool → List ClassId
marked_classes marks = map class_number (filter (λ n. slice_index_or marks n false) (range_with_len 0 (length marks)))
