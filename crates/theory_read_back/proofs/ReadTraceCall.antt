-- `read_trace` itself: its code meets its contract, and what a caller learns of a call is `ReadsTrace`.
use Rattle.reader.specs.Reads.{told_trace, ReadsTrace}
use Rattle.reader.proofs.trace.read_trace.Reads as read_trace
use Rattle.reader.proofs.trace.read_trace.Statement.{statement}
use Rattle.reader.proofs.trace.read_trace.Met.{met}

-- the code meets the contract
pub meets-contract : {M : Type 1} → statement M
meets-contract = met

-- what a caller learns, where a has the profile, the cells and the depth numbers that are passed, r is the result, which `told_trace` gives the values of, and s has what was passed as it
-- is at exit
pub learns : (κs : _) (a : _) (r : _) (s : _) → read_trace.Learnt κs a r s → ReadsTrace a.0 a.1.0.now a.1.1.0.now (told_trace r) s.1.1.0.now
learns κs a r s call = call
