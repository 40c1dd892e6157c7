use Rattle.format_model.proofs.DescribesLemmas.{described_parts-are_held}
use Rattle.format_model.proofs.laws.described_parts_are_held.Goals as goal

pub returns : goal.returns
returns c = described_parts-are_held
