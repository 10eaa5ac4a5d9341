-- Which of some modules are small.
use Rattle.std.proofs.Common.{◌≡◌, ◌≤◌, false, refl, arith}
use Rattle.std.proofs.lemmas.List.Elements.{All-from_recursion, recursion_from_All}
use Rattle.asm_lang.specs.Modules.{Variable, Function, Module}
use Rattle.asm_lang_valid.specs.Rows.{function_count}
use Rattle.asm2wasm_translation.specs.Pieces.{continuing, small_elements, switching, few_cases, tabled}
use Rattle.asm2wasm_lang.specs.Small.{is_foreign_member, HaveNoSwitch, IsSmall}

abbrev HasNone : Function → Type 0
HasNone f = HaveNoSwitch f.body

abbrev IsOwn : Module → Variable → Type 0
IsOwn m v = is_foreign_member m v.init ≡ false

abbrev HasFew : Function → Type 0
HasFew f = function_count f ≤ 1000

pub loops_are_small : IsSmall continuing
loops_are_small = record {
  no_table = refl;
  no_switch = All-from_recursion HasNone continuing.functions ((tt, tt), tt);
  no_foreign_member = All-from_recursion (IsOwn continuing) continuing.globals (refl, tt);
  functions = omega arith;
  globals = omega arith;
  height = omega arith;
  nodes = All-from_recursion HasFew continuing.functions (omega arith, tt);
}

pub elements_are_small : IsSmall small_elements
elements_are_small = record {
  no_table = refl;
  no_switch = All-from_recursion HasNone small_elements.functions ((tt, (tt, (tt, tt))), tt);
  no_foreign_member = All-from_recursion (IsOwn small_elements) small_elements.globals (refl, (refl, (refl, (refl, tt))));
  functions = omega arith;
  globals = omega arith;
  height = omega arith;
  nodes = All-from_recursion HasFew small_elements.functions (omega arith, tt);
}

pub switches_are_not : IsSmall (switching few_cases) → ⊥
switches_are_not small = (recursion_from_All HasNone (switching few_cases).functions small.no_switch).0.0

pub tables_are_not : IsSmall tabled → ⊥
tables_are_not small = let none = small.no_table in cc none
