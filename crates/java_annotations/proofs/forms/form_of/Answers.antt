use Rattle.std.proofs.Common.{rules}
use Rattle.java_syntax.specs.declared.annotation_trees.AnnoValue.{the_lemmas}
use Rattle.java_annotations.proofs.Trees.{listed_values}
use Rattle.java_annotations.proofs.forms.form_of.Goals as goal

pub returns-in-List : goal.returns-in-List
returns-in-List c = rw c.in-List.is (search (rules, the_lemmas, listed_values))
