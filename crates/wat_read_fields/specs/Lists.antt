-- What fields that are whole say, as lists of the code have it.
use Rattle.std.specs.Prelude.{◌≡◌, List, map, slice_get}
use Rattle.sem_words.specs.Lists.{list_items}
use Rattle.wasm_tree.specs.Views as views
use Rattle.wasm_lang.specs.Modules.{FunctionType}
use Rattle.wat_lang.specs.declared.parts.Space.{Space}
use Rattle.wat_lang.specs.declared.parts.Space.TheVariants as spaces
use Rattle.wat_lang.specs.Names as names
use Rattle.wat_lang.specs.Modules as spec
use Rattle.wat_read_fields.specs.declared.lists.Described.{Described}
use Rattle.wat_read_fields.specs.declared.lists.Listed.{Listed}
use Rattle.wat_read_fields.specs.declared.lists.Functions.{Functions}
use Rattle.wat_read_fields.specs.declared.lists.Lists.{Lists}

pub record HasDescribed (names_of : Space → names.Names) (l : Described) (fs : List names.Field) : Type 0 where
  pub imports : map views.import_of (list_items l.imports) ≡ map (spec.import_of names_of) (spec.parts_of (λ f. names.is_import f.kind) fs)
  pub tables : list_items l.tables ≡ map spec.limits_in (spec.own_of fs spaces.Table)
  pub memories : list_items l.memories ≡ map spec.limits_in (spec.own_of fs spaces.Memory)
  pub globals : map views.global_of (list_items l.globals) ≡ map (spec.global_of names_of) (spec.own_of fs spaces.Global)

pub record HasListed (names_of : Space → names.Names) (l : Listed) (fs : List names.Field) : Type 0 where
  pub exports : map views.export_of (list_items l.exports) ≡ map (spec.export_of names_of) (spec.parts_of (λ f. spec.is_export f.kind) fs)
  pub start : l.start ≡ slice_get (map (spec.first_used names_of spaces.Func) (spec.parts_of (λ f. spec.is_start f.kind) fs)) 0
  pub elements : map views.element_of (list_items l.elements) ≡ map (spec.element_of names_of) (spec.own_of fs spaces.Elem)
  pub segments : map views.segment_of (list_items l.segments) ≡ map (spec.segment_of names_of) (spec.own_of fs spaces.Data)

pub record HasFunctions (names_of : Space → names.Names) (known : List FunctionType) (l : Functions) (fs : List names.Field) : Type 0 where
  pub types : list_items l.types ≡ map (spec.function_type_in names_of) (spec.own_of fs spaces.Func)
  pub bodies : map views.body_of (list_items l.bodies) ≡ map (spec.body_of names_of known) (spec.own_of fs spaces.Func)

pub record HasLists (names_of : Space → names.Names) (types : List FunctionType) (l : Lists) (fs : List names.Field) : Type 0 where
  pub described : HasDescribed names_of l.described fs
  pub listed : HasListed names_of l.listed fs
  pub functions : HasFunctions names_of types l.functions fs
