use Rattle.std.proofs.Common.{ap, ◌∙◌, sym}
use Rattle.std.specs.Prelude.{if◌then◌else◌}
use Rattle.std.specs.Str.{bytes_eq}
use Rattle.asm_tree.specs.Views.{init_view}
use Rattle.asm_lang_valid.specs.Scope.{is_name}
use Rattle.asm_names.specs.Members.{member_name, number_in}
use Rattle.asm_names.proofs.Numbered.{found_put}
use Rattle.asm_names.proofs.imports.put_import.Goals as goal

pub returns-in_ok-insert-in-Member : goal.returns-in_ok-insert-in-Member
returns-in_ok-insert-in-Member c = λ n o.
    found_put (bytes_eq c.of.result n) c.args.number o _ _ (c.in_ok-insert-in-Member.ensures.updates.0 n)
    ∙ ap (λ k. if bytes_eq k n then c.args.number else number_in c.args.imports.now n o) (c.of.ensures ∙ c.as_bytes.ensures)
    ∙ ap (λ i. if is_name n (member_name (init_view i)) then c.args.number else number_in c.args.imports.now n o) (sym c.in-Member.is)
