-- The sequences of items that the code names.
use Rattle.std.specs.Prelude.{List, [], ◌∷◌, true, false, codes}
use Rattle.wat_lang.specs.declared.parts.Space.TheVariants as spaces
use Rattle.wat_lang.specs.declared.parts.Part.TheVariants.{Param}
use Rattle.wat_lang.specs.declared.parts.Rule.TheVariants as rules
use Rattle.wat_lang.specs.Grammar.{a_string, a_number, an_index, a_value_type, a_word, a_type_use, a_type, a_block_result, a_global_type, mutable, a_minimum, a_module_name, a_field_name, an_export_name, a_word_32, a_word_64, Item, token, rule, opened, closed, says, uses_one, end_item}
use Rattle.wat_grammar.specs.declared.sequences.Sequence.{Sequence}
use Rattle.wat_grammar.specs.declared.sequences.Sequence.TheVariants as sequences

abbrev pub sequence_of : Sequence → List Item
sequence_of sequences.Empty = []
sequence_of sequences.Module = says (codes "module") ∷ rule rules.Name ∷ rule rules.Fields ∷ closed ∷ []
sequence_of sequences.FieldAndMore = rule rules.Field ∷ closed ∷ rule rules.Fields ∷ []
sequence_of sequences.TypeField = rule (rules.Bound spaces.Type) ∷ opened ∷ says (codes "func") ∷ rule (rules.Heads false Param) ∷ closed ∷ []
sequence_of sequences.ImportField = token a_string a_module_name ∷ token a_string a_field_name ∷ opened ∷ rule rules.Described ∷ closed ∷ []
sequence_of sequences.FuncField = rule (rules.Bound spaces.Func) ∷ opened ∷ says (codes "type") ∷ token an_index a_type_use ∷ closed ∷ rule (rules.Heads true Param) ∷ rule rules.Code ∷ []
sequence_of sequences.Table = rule (rules.Bound spaces.Table) ∷ token a_number (a_minimum spaces.Table) ∷ rule rules.TableEnd ∷ []
sequence_of sequences.Memory = rule (rules.Bound spaces.Memory) ∷ token a_number (a_minimum spaces.Memory) ∷ rule rules.Maximum ∷ []
sequence_of sequences.GlobalField = rule (rules.Bound spaces.Global) ∷ rule rules.Kind ∷ opened ∷ rule rules.Constant ∷ []
sequence_of sequences.ExportField = token a_string an_export_name ∷ opened ∷ rule rules.Exported ∷ closed ∷ []
sequence_of sequences.ElemField = rule (rules.Bound spaces.Elem) ∷ opened ∷ rule rules.Constant ∷ rule rules.FuncWord ∷ rule rules.Functions ∷ []
sequence_of sequences.DataField = rule (rules.Bound spaces.Data) ∷ opened ∷ rule rules.Constant ∷ rule rules.Strings ∷ []
sequence_of sequences.DescribedFunc = rule (rules.Bound spaces.Func) ∷ opened ∷ says (codes "type") ∷ token an_index a_type_use ∷ closed ∷ rule (rules.Heads false Param) ∷ []
sequence_of sequences.DescribedGlobal = rule (rules.Bound spaces.Global) ∷ rule rules.Kind ∷ []
sequence_of sequences.UsesFunc = uses_one spaces.Func ∷ []
sequence_of sequences.UsesTable = uses_one spaces.Table ∷ []
sequence_of sequences.UsesMemory = uses_one spaces.Memory ∷ []
sequence_of sequences.UsesGlobal = uses_one spaces.Global ∷ []
sequence_of sequences.Funcref = says (codes "funcref") ∷ []
sequence_of sequences.MutableType = token (a_word (codes "mut")) mutable ∷ token a_value_type a_global_type ∷ closed ∷ []
sequence_of sequences.Constant32 = token a_number a_word_32 ∷ closed ∷ []
sequence_of sequences.Constant64 = token a_number a_word_64 ∷ closed ∷ []
sequence_of sequences.ConstantGlobal = uses_one spaces.Global ∷ closed ∷ []
sequence_of sequences.Functions = rule rules.Functions ∷ []
sequence_of sequences.Labels = rule rules.Labels ∷ []
sequence_of sequences.Strings = rule rules.Strings ∷ []
sequence_of sequences.ResultType = says (codes "result") ∷ token a_value_type a_block_result ∷ closed ∷ []
sequence_of sequences.ElseArm = rule rules.Code ∷ end_item ∷ []
sequence_of (sequences.Head locals part) = rule (rules.Head locals part) ∷ []
sequence_of (sequences.HeadList locals part) = rule (rules.Types part) ∷ closed ∷ rule (rules.Heads locals part) ∷ []
sequence_of (sequences.MoreTypes part) = rule (rules.More part) ∷ []
sequence_of (sequences.OneType part) = token a_value_type (a_type part) ∷ []
