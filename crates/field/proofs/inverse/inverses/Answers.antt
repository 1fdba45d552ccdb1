-- `inverse::inverses` meets its contract: the test at each entry is computed.
use Rattle.field.proofs.Entries.{table-rule}
use Rattle.field.proofs.inverse.inverses.Goals as goal

pub returns : goal.returns
returns c = table-rule _ tt tt
