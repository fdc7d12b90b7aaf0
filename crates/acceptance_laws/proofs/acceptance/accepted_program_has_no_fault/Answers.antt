use Rattle.acceptance_laws.proofs.acceptance.accepted_program_has_no_fault.Goals as goal

pub returns : goal.returns
returns c = λ p accept f. accept.no_fault f.body f.origin f.rule f.at f.names f.faulty
