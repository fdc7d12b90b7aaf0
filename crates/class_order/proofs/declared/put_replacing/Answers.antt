-- The name of a class of a user's stub is taken in.
use Rattle.std.proofs.Common.{◌∙◌, sym, ap}
use Rattle.std.specs.Str.{bytes_eq}
use Rattle.rlc_base.specs.Names.{texts}
use Rattle.class_names.specs.ClassNames.{is_among}
use Rattle.class_names.proofs.NameLemmas.{inserted_member}
use Rattle.class_order.specs.Declarations.{declaration_of, is_core, name_of}
use Rattle.class_order.proofs.DeclarationLemmas.{core_replaces_none, other_replaces}
use Rattle.class_order.proofs.declared.put_replacing.Goals as goal

pub returns-then-is_core : goal.returns-then-is_core
returns-then-is_core c = λ q. core_replaces_none (is_among (texts c.args.names.now.keys) q) (is_core (declaration_of c.args.stub.now)) (bytes_eq q (name_of (declaration_of c.args.stub.now))) (sym c.if-is_core.ensures)

pub returns : goal.returns
returns c = λ q. inserted_member c.args.names.now.keys c.insert.new.self.keys c.in_ok-name.name q c.in_ok-insert.ensures.keys
    ∙ other_replaces (is_among (texts c.args.names.now.keys) q) (is_core (declaration_of c.args.stub.now)) (bytes_eq q c.in_ok-name.name.items) (bytes_eq q (name_of (declaration_of c.args.stub.now))) (sym c.if-is_core.ensures) (ap (bytes_eq q) c.in_ok-name.ensures)
