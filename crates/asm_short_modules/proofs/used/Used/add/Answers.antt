use Rattle.std.proofs.Common.{◌≡◌, Some, ap, sym, ◌∙◌, ◌&&◌, ◌||◌}
use Rattle.std.specs.Prelude.{bytes_eq, option_map}
use Rattle.asm_short_lang.specs.Sequence.{numbered}
use Rattle.asm_short_tree.specs.declared.names.NewName.{NewName}
use Rattle.asm_short_tree.specs.declared.names.NewName.TheVariants.{Numbered}
use Rattle.asm_short_tree.specs.Looking.{new_name}
use Rattle.asm_short_modules.specs.Using.{leaves_out, is_named}
use Rattle.asm_short_modules.proofs.Leaving.{number_added}
use Rattle.asm_short_modules.proofs.used.Used.add.Goals as goal

pub returns-in_ok-insert-in-Some-Numbered : goal.returns-in_ok-insert-in-Some-Numbered
returns-in_ok-insert-in-Some-Numbered c = λ kept n.
    let number = c.in-Some-Numbered.number in
    let name = rw c.in-Some-Numbered.is at c.in-Some-Numbered.field-0-is in
    let is : c.args.new ≡ Some (Numbered number) = c.in-Some-Numbered.is ∙ ap (λ (w : NewName). Some w) name in
    number_added _ _ (c.args.self.now.kept && bytes_eq kept (numbered n)) kept number n (c.in_ok-insert-in-Some-Numbered.ensures.updates.0 n)
    ∙ ap (λ o. leaves_out c.args.self.now kept n || is_named n (option_map (new_name kept) o)) (sym is)
