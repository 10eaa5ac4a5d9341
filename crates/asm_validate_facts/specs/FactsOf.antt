-- The facts of a module.
use Rattle.std.specs.Prelude.{◌≡◌}
use Rattle.sem_words.specs.Lists.{list_items}
use Rattle.asm_lang.specs.Modules.{Module}
use Rattle.asm_tree.specs.Views.{texts_view}
use Rattle.asm_lang_valid.specs.Refusal as typing
use Rattle.asm_validate_facts.specs.declared.facts.Facts.{Facts}
use Rattle.asm_validate_facts.specs.Numbers.{exports_said}

pub record FactsOf (f : Facts) (m : Module) : Type 0 where
  pub exports : exports_said f.exports ≡ typing.exported_from m m.exports
  pub foreign_globals : texts_view (list_items f.foreign_globals) ≡ typing.foreign_globals m
  pub has_heap : f.has_heap ≡ typing.has_heap m
