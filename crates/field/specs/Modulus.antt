-- The modulus of the field. Document 01: "A cell is a u64 below p = 18446744069414584321." How a number from p on is read: Cells.antt (N2)
use Rattle.std.specs.Prelude.{ℕ}

-- document 01's p
abbrev pub P : ℕ
P = 18446744069414584321
