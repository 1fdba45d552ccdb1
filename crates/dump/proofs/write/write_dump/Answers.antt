-- `write::write_dump` meets its contract.
use mathlib.Core.Path.{◌≡◌, ◌∙◌, refl, sym, ap}
use mathlib.Core.List.{◌++◌}
use Prim.Native.Nat.{ℕ}
use native.Mathlib.Omega.{arith}
use lib.ListN.{length, drop}
use Rattle.groups.specs.Answer.{accepted}
use Rattle.theory_dumps.specs.Dumps.{dump}
use Rattle.dump.specs.Dumping.{text_after}
use Rattle.dump.proofs.Writing.{rows-within, rows-wrong, text-short, text-fits}
use Rattle.dump.proofs.write.write_dump.Goals as goal

pub returns-then-rows_wrong : goal.returns-then-rows_wrong
unfolding text_after
returns-then-rows_wrong c = rw (rows-wrong c.args.cells.now (length c.args.text.now) (sym c.rows_wrong.ensures ∙ c.if-rows_wrong.true)) (record { answer = refl; text_after = refl })

pub dump_bytes-bytes-requires : goal.dump_bytes-bytes-requires
dump_bytes-bytes-requires c = rows-within (length c.args.cells.now) (sym c.rows_wrong.ensures ∙ c.if-rows_wrong.false)

pub returns-then-text-bytes : goal.returns-then-text-bytes
unfolding text_after
returns-then-text-bytes c = rw (text-short c.args.cells.now (length c.args.text.now) (sym c.rows_wrong.ensures ∙ c.if-rows_wrong.false) (omega (arith, c.if-text-bytes.true, c.dump_bytes-bytes.ensures)))
    (record { answer = refl; text_after = refl })

pub put_dump-requires : goal.put_dump-requires
put_dump-requires c = rows-within (length c.args.cells.now) (sym c.rows_wrong.ensures ∙ c.if-rows_wrong.false)

pub returns : goal.returns
unfolding text_after
returns c = let f : c.put_dump.result ≡ length (dump c.args.cells.now) = omega (arith, c.put_dump.ensures.is_end) in
    rw (text-fits c.args.cells.now (length c.args.text.now) (sym c.rows_wrong.ensures ∙ c.if-rows_wrong.false) (omega (arith, c.if-text-bytes.false, c.dump_bytes-bytes.ensures))) (record { answer = ap accepted c.dump_bytes-bytes.ensures; text_after = c.put_dump.ensures.is_put (omega (arith, c.if-text-bytes.false, c.dump_bytes-bytes.ensures, f)) ∙ ap (λ (n : ℕ). dump c.args.cells.now ++ drop n c.args.text.now) f })
