use Rattle.examples.proofs.Mended.{mended}
use Rattle.examples.proofs.mended_examples_stand.Goals as goal

pub returns : goal.returns
returns c = mended
