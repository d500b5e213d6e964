use Rattle.acl_walk.proofs.OnceLaws.{begins_once, finishes_once}
use Rattle.acl_walk.proofs.document_laws.elements_begin_once.Goals as goal

pub returns : goal.returns
returns c = record {
  begins = λ names d list place i j few. begins_once names d list place i j;
  finishes = λ names d list place i j few. finishes_once names d list place i j;
}
