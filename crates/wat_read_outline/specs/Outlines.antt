-- What the first reading of a text notes, token by token and field by field.
use Rattle.std.specs.Prelude.{◌≡◌, Bool, true, false, List, [], ◌++◌, map, flat_map, fold, Option, Some, None}
use Rattle.key_hashes.specs.Hashes as made
use Rattle.wasm_tree.specs.Views.{type_of}
use Rattle.wat_lang.specs.Grammar.{Mark, uses, a_word_32, a_word_64, an_offset, an_alignment, a_block_result, a_global_type, some_bytes, an_instruction, Marked}
use Rattle.wat_lang.specs.Names as names
use Rattle.wat_lang.specs.Rows.{utf8_rows, taken_in, order_rows, count_rows, entry_rows, least}
use Rattle.wat_laws_kept.specs.Heads.{heads, headed}
use Rattle.wat_laws_kept.specs.FieldByField.{no_field, Stands}
use Rattle.wat_read_tokens.specs.Marks.{marks_of}
use Rattle.wat_read_names.specs.Bound.{HasNames, HasNamed, seed_with}
use Rattle.wat_read_refusals.specs.Single.{binds_in_module, module_spaces}
use Rattle.wat_read_rows.specs.Ordered.{HasOrder}
use Rattle.wat_read_outline.specs.declared.outline.Begun.{Begun}
use Rattle.wat_read_outline.specs.declared.outline.TokenNotes.{TokenNotes}
use Rattle.wat_read_outline.specs.declared.outline.FieldNotes.{FieldNotes}
use Rattle.wat_read_outline.specs.declared.outline.Outline.{Outline}
use Rattle.wat_read_outline.specs.declared.outline.Outlined.{Outlined}

-- such a mark says nothing of the spaces, heads, names and limits of a text
abbrev pub says_nothing : Mark → Bool
says_nothing (an_instruction form) = true
says_nothing (uses s) = true
says_nothing a_word_32 = true
says_nothing a_word_64 = true
says_nothing an_offset = true
says_nothing an_alignment = true
says_nothing a_block_result = true
says_nothing a_global_type = true
says_nothing some_bytes = true
says_nothing _ = false

pub record HasNoted (n : TokenNotes) (ks : List Marked) : Type 0 where
  pub seed : n.seed ≡ fold seed_with made.no_keys ks
  pub bindings : marks_of n.bindings.items ≡ names.all_with binds_in_module ks
  pub names : n.names ≡ least (utf8_rows ks)
  pub entries : n.entries ≡ least (entry_rows ks)

pub record HasFields (n : FieldNotes) (fs : List names.Field) : Type 0 where
  pub naming : HasNamed n.naming fs
  pub orders : HasOrder n.orders fs

-- the field that stands open, behind those that are whole
pub record HasOpen (n : Outline) (b : Begun) (ks : List Marked) : Type 0 where
  pub whole : List names.Field
  pub field : names.Field
  pub stands : Stands ks whole field
  pub kind : field.kind ≡ b.kind
  pub at : field.at ≡ b.at
  pub heads : marks_of n.heads.items ≡ heads field.parts
  pub fields : HasFields n.fields (map headed whole)

pub record HasNone (n : Outline) (ks : List Marked) : Type 0 where
  pub none : no_field ks ≡ true
  pub fields : HasFields n.fields []

abbrev pub HasOpened : Outline → List Marked → Option Begun → Type 0
HasOpened n ks None = HasNone n ks
HasOpened n ks (Some b) = HasOpen n b ks

pub record HasOutlined (n : Outline) (ks : List Marked) : Type 0 where
  pub tokens : HasNoted n.tokens ks
  pub opened : HasOpened n ks n.open

-- all fields are whole
pub record HasClosed (n : Outline) (ks : List Marked) : Type 0 where
  pub tokens : HasNoted n.tokens ks
  pub fields : HasFields n.fields (map headed (names.fields_of ks))

pub record IsOutlineOf (o : Outlined) (ks : List Marked) : Type 0 where
  pub spaces : HasNames o.names.spaces (names.fields_of ks)
  pub types : map type_of o.names.types.items ≡ names.types_of (names.fields_of ks)
  pub utf8 : o.utf8 ≡ least (utf8_rows ks)
  pub taken : o.taken ≡ least (flat_map (λ s. taken_in s ks) module_spaces)
  pub orders : o.orders ≡ least (order_rows false false (names.fields_of ks) ++ count_rows (names.fields_of ks))
  pub entries : o.entries ≡ least (entry_rows ks)
