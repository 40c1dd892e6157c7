use Rattle.record_model.proofs.OutlivingLemmas.{records-outlive_values}
use Rattle.record_model.proofs.laws.records_outlive_values.Goals as goal

pub returns : goal.returns
returns c = records-outlive_values
