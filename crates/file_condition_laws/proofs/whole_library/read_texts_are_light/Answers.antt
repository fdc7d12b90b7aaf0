use Rattle.file_condition_laws.proofs.Read.{read_light_texts}
use Rattle.file_condition_laws.proofs.whole_library.read_texts_are_light.Goals as goal

pub returns : goal.returns
returns c = read_light_texts
