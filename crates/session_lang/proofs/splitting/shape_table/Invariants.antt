use Rattle.std.proofs.Common.{drop, map}
use Rattle.session_lang.specs.ShapeTable.{HasShapes}
use Rattle.session_lang.specs.Views.{shape_of}
use Rattle.session_lang.proofs.splitting.shape_table.Given as goal

abbrev pub invariant-loop-i : goal.invariant-loop-i
invariant-loop-i l = HasShapes l.table (map shape_of (drop l.i l.shapes))
