use Rattle.asm_run_names.proofs.module.ModuleNames.new.Goals as goal

pub invariant_of-result : goal.invariant_of-result
invariant_of-result c = record {
  home_is = c.in-Ok.ensures.of;
  complete = c.in-Ok.ensures.complete;
  functions_are = c.in_ok-places.ensures.functions;
  globals_are = c.in_ok-places.ensures.globals;
  tables_are = c.in_ok-places.ensures.tables;
}
