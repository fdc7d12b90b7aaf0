use Rattle.command_trees.proofs.FileNames.{source_named, stub_named}
use Rattle.command_trees.proofs.names.files_have_their_names.Goals as goal

pub returns-clause-stubs : goal.returns-clause-stubs
returns-clause-stubs c = stub_named

pub returns-clause-sources : goal.returns-clause-sources
returns-clause-sources c = source_named
