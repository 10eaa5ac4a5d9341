use Rattle.std.proofs.lemmas.Result.{on_ok_weaker}
use Rattle.wat_lang.specs.declared.parts.Space.TheVariants as spaces
use Rattle.wat_read_names.specs.Bound.{HasNames}
use Rattle.wat_read_names.proofs.Passing.{names_joined}
use Rattle.wat_read_names.proofs.naming.Naming.bind.Goals as goal

pub returns-clause-names : goal.returns-clause-names
returns-clause-names c = λ fs h. on_ok_weaker {Q = HasNames (record { types = c.bind.new.ids; functions = c.bind-2.new.ids; tables = c.bind-3.new.ids; memories = c.bind-4.new.ids; globals = c.bind-5.new.ids; elements = c.bind-6.new.ids; segments = c.bind-7.new.ids }) fs} _ (λ e. record {
  types = names_joined spaces.Type fs _ _ h.types c.in_ok-bind.ensures;
  functions = names_joined spaces.Func fs _ _ h.functions c.in_ok-bind-2.ensures;
  tables = names_joined spaces.Table fs _ _ h.tables c.in_ok-bind-3.ensures;
  memories = names_joined spaces.Memory fs _ _ h.memories c.in_ok-bind-4.ensures;
  globals = names_joined spaces.Global fs _ _ h.globals c.in_ok-bind-5.ensures;
  elements = names_joined spaces.Elem fs _ _ h.elements c.in_ok-bind-6.ensures;
  segments = names_joined spaces.Data fs _ _ h.segments e;
}) c.bind-7.ensures
