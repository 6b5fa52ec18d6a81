use Rattle.lx_record.proofs.RecordLaws.{law_of_records}
use Rattle.lx_record.proofs.laws.records.Goals as goal

pub returns : goal.returns
returns c = law_of_records
