use Rattle.acl_run.proofs.Files.{made_has_file, refused_file}
use Rattle.acl_run.proofs.readers.make_file.Goals as goal

pub returns-in-Ok-clause-has_file : goal.returns-in-Ok-clause-has_file
returns-in-Ok-clause-has_file c = made_has_file c.args.doc.now c.args.key c.in-Ok.encoded c.in-Ok.ensures.file

pub returns-in-Err-clause-refused : goal.returns-in-Err-clause-refused
returns-in-Err-clause-refused c =
    refused_file c.args.doc.now c.file_outcome.result c.in-Err.fault c.encode_file.result c.file_outcome.ensures c.in-Err.is
    c.encode_file.ensures.too_many c.encode_file.ensures.few c.encode_file.ensures.too_large
