use Rattle.std.proofs.Common.{ap, map}
use Rattle.asm_lang.specs.Modules as plain
use Rattle.asm_tree.specs.Views.{param_view, local_view}
use Rattle.asm_short_modules.proofs.Gathered.{two_pushed}
use Rattle.asm_short_modules.proofs.locals.local_names.Goals as goal

pub returns : goal.returns
returns c =
    two_pushed _ _ _ _ _ _ _ c.new-names.ensures.items c.in_ok-push_params.ensures (ap (λ l. map (λ (p : plain.Param). p.name) (map param_view l)) c.as_slice.ensures) c.in_ok-push_locals.ensures (ap (λ l. map (λ (v : plain.Variable). v.name) (map local_view l)) c.as_slice-2.ensures)
