-- The laws of ReadLaws.
use Rattle.token_stack.proofs.ReadLaws.{texts_open, texts_whole, raw_whole}
use Rattle.token_stack.proofs.predicate_laws.values_are_read_whole.Goals as goal

pub returns : goal.returns
returns c = record {
  texts = texts_open;
  value = λ names d list place e i few. texts_whole names d list place e i;
  attribute = λ names d list place x i piece few. raw_whole names d list place x i piece;
}
