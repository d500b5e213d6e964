use Rattle.licence.proofs.NoOther.{no_memory, no_memory_sealed, no_memory_in_text, no_memory_in_keys}
use Rattle.licence.proofs.laws.no_text_is_out_of_memory.Goals as goal

pub returns-clause-body : goal.returns-clause-body
returns-clause-body c = no_memory

pub returns-clause-sealed : goal.returns-clause-sealed
returns-clause-sealed c = no_memory_sealed

pub returns-clause-text : goal.returns-clause-text
returns-clause-text c = no_memory_in_text

pub returns-clause-keys : goal.returns-clause-keys
returns-clause-keys c = no_memory_in_keys
