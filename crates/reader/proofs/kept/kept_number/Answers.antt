-- `kept::kept_number` meets its contract.
use borrow.Author.Rules.{rules}
use Rattle.reader.proofs.kept.kept_number.Goals as goal

pub returns-then-kept-lt-UNKNOWN : goal.returns-then-kept-lt-UNKNOWN
returns-then-kept-lt-UNKNOWN c = λ p kept. kept.at_row _ (search rules)

pub returns : goal.returns
returns c = λ p kept. c.number_by.ensures p kept.by_table
