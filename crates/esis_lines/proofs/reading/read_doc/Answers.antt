use Rattle.std.proofs.Common.{ℕ, List, subst}
use Rattle.esis_lines.specs.DocumentAnswers.{ButForMemory}
use Rattle.esis_lines.specs.LineMachine.{read_doc_of}
use Rattle.esis_lines.proofs.Answering.{whole_answer, whole_count, whole_form, whole_taken}
use Rattle.esis_lines.proofs.reading.read_doc.Goals as goal

pub returns-in-Ok-clause-document : goal.returns-in-Ok-clause-document
returns-in-Ok-clause-document g c = whole_answer (g.Q.Source.left c.args.source.now) (g.Q.Source.left c.read_all.new.source) c.in-Ok.bytes c.document_of.result 33554432 c.in-Ok.ensures.whole c.in-Ok.ensures.end c.in-Ok.ensures.bytes (subst (λ (bs : List ℕ). ButForMemory c.document_of.result (read_doc_of bs)) c.as_slice.ensures c.document_of.ensures)

pub returns-in-Ok-clause-taken : goal.returns-in-Ok-clause-taken
returns-in-Ok-clause-taken g c = whole_taken c.document_of.result (g.Q.Source.left c.args.source.now) (g.Q.Source.left c.read_all.new.source) c.in-Ok.bytes 33554432 c.in-Ok.ensures.whole c.in-Ok.ensures.end c.in-Ok.ensures.within

pub returns-in-Ok-clause-count : goal.returns-in-Ok-clause-count
returns-in-Ok-clause-count g c = whole_count c.document_of.result c.as_slice.result.now (g.Q.Source.faults c.args.source.now) (g.Q.Source.faults c.read_all.new.source) c.document_of.ensures c.in-Ok.ensures.count

pub returns-in-Ok-clause-form : goal.returns-in-Ok-clause-form
returns-in-Ok-clause-form g c = whole_form c.document_of.result c.in-Ok.bytes c.in-Ok.ensures.bytes (subst (λ (bs : List ℕ). ButForMemory c.document_of.result (read_doc_of bs)) c.as_slice.ensures c.document_of.ensures)
