-- The place of a qualified name is the number of its class.
use Rattle.std.proofs.Common.{◌∙◌, sym, ap, Some, None}
use Rattle.class_names.specs.ClassNames.{class_of_name}
use Rattle.class_names.proofs.NameLemmas.{found_class}
use Rattle.class_names.proofs.names.ClassNames.find.Goals as goal

pub returns-in-None : goal.returns-in-None
returns-in-None c = found_class c.self.inside.classes.items c.self.inside.qualified.keys c.args.name.now None c.self.invariant.names (sym c.in-None.is ∙ c.get_index_of.ensures.index) ∙ ap (λ classes. class_of_name classes c.args.name.now) c.self.view_is

pub returns-in-Some : goal.returns-in-Some
returns-in-Some c = found_class c.self.inside.classes.items c.self.inside.qualified.keys c.args.name.now (Some c.in-Some.place) c.self.invariant.names (sym c.in-Some.is ∙ c.get_index_of.ensures.index) ∙ ap (λ classes. class_of_name classes c.args.name.now) c.self.view_is
