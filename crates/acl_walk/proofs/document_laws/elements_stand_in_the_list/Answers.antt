use Rattle.acl_walk.proofs.BegunLaws.{stands_in_list}
use Rattle.acl_walk.proofs.document_laws.elements_stand_in_the_list.Goals as goal

pub returns : goal.returns
returns c = λ names d list place e few. stands_in_list names d list place e
