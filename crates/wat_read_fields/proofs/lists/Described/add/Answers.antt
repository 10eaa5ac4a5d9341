use Rattle.std.proofs.Common.{[], ◌∷◌, ◌++◌}
use Rattle.std.proofs.lemmas.Result.{on_ok_weaker}
use Rattle.wat_lang.specs.declared.parts.Space.TheVariants as spaces
use Rattle.wat_lang.specs.Names as names
use Rattle.wat_lang.specs.Modules as spec
use Rattle.wat_read_names.specs.Bound.{space_names}
use Rattle.wat_read_names.specs.Fields.{field_of}
use Rattle.wat_read_fields.specs.Fit.{defines_in}
use Rattle.wat_read_fields.specs.Lists.{HasDescribed}
use Rattle.wat_read_fields.proofs.OneMore.{added}
use Rattle.wat_read_fields.proofs.lists.Described.add.Goals as goal

pub returns : goal.returns
returns c = λ fs h.
    let names_of = space_names c.args.context.spaces.now in
    let g = field_of c.args.field.now in
    on_ok_weaker {Q = HasDescribed names_of (record { imports = c.push_import.new.list; tables = c.push_table.new.list; memories = c.push_memory.new.list; globals = c.push_global.new.list }) (fs ++ g ∷ [])} _ (λ e. record {
      imports = added (λ f. names.is_import f.kind) (spec.import_of names_of) fs g _ _ h.imports c.in_ok-push_import.ensures;
      tables = added (defines_in spaces.Table) spec.limits_in fs g _ _ h.tables c.in_ok-push_table.ensures;
      memories = added (defines_in spaces.Memory) spec.limits_in fs g _ _ h.memories c.in_ok-push_memory.ensures;
      globals = added (defines_in spaces.Global) (spec.global_of names_of) fs g _ _ h.globals e;
    }) c.push_global.ensures
