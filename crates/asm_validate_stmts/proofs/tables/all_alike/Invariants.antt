use Rattle.std.proofs.Common.{◌≡◌, drop}
use Rattle.asm_tree.specs.Views.{module_view, texts_view}
use Rattle.asm_lang_valid.specs.Typed as typed
use Rattle.asm_validate_exprs.specs.Signatures.{signature_option}
use Rattle.asm_validate_stmts.proofs.tables.all_alike.Given as goal

abbrev pub invariant-loop-member : goal.invariant-loop-member
invariant-loop-member l = typed.all_alike (module_view l.environment.home.now) (signature_option l.signature) (texts_view l.members) ≡ typed.all_alike (module_view l.environment.home.now) (signature_option l.signature) (texts_view (drop l.member-index l.members))
