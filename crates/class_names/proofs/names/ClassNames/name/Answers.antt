-- The key at a number is the qualified name of that class.
use Rattle.std.proofs.Common.{◌∙◌, ap}
use Rattle.class_names.specs.ClassNames.{class_at, name_in}
use Rattle.class_names.proofs.NameLemmas.{key_name}
use Rattle.class_names.proofs.names.ClassNames.name.Goals as goal

pub returns-in-Some : goal.returns-in-Some
returns-in-Some c = c.as_slice.ensures.value ∙ key_name c.self.inside.classes.items c.self.inside.qualified.keys c.args.class c.in-Some.name.now c.self.invariant.names c.in-Some.ensures.key ∙ ap (λ classes. name_in (class_at classes c.args.class)) c.self.view_is
