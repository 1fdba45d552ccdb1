-- `header::after_header` meets its contract: the bytes are those of the header, by computation.
use Rattle.theory_dumps.specs.Dumps.{header, bytes, var_lines, columns}
use Rattle.dump.proofs.ReadLaws.{stripped}
use Rattle.dump.proofs.header.after_header.Goals as goal

pub returns : goal.returns
unfolding bytes columns header var_lines
returns c = stripped header c.args.text.now c.strip_prefix.result c.strip_prefix.ensures.cases
