-- `kept::note_kind` meets its contract.
use mathlib.Core.Path.{◌∙◌, ap}
use lib.ListN.{length, length-set}
use Rattle.reader.proofs.KindLaws.{kinds-more}
use Rattle.reader.proofs.kept.note_kind.Goals as goal
use Rattle.reader.proofs.kept.note_kind.Goals.{else-row-kinds, then-row-kinds}

pub shape_of-kinds : goal.shape_of-kinds
shape_of-kinds c = elim c.if-row-kinds.branch [ then-row-kinds w ↦ ap length w.kinds-is ∙ length-set c.args.kinds.now c.args.row c.number_by-number.result | else-row-kinds w ↦ ap length w.kinds-is ]

pub returns : goal.returns
returns c = record { value = c.kind_told.ensures (c.number_by-number.ensures _ c.requires.by_table); kept_kinds = elim c.if-row-kinds.branch [ then-row-kinds w ↦ rw w.kinds-is (kinds-more _ _ _ _ _ c.number_by-number.result c.requires (c.number_by-number.ensures _ c.requires.by_table)) | else-row-kinds w ↦ rw w.kinds-is c.requires ] }
