-- The rules by number and name, as they are printed. The numbers below these belong to texts that say no module.
use Rattle.std.specs.Prelude.{ℕ, List, ◌++◌, codes}
use Rattle.std.specs.Fmt.{decimal}
use Rattle.asm_lang_valid.specs.declared.rule.Rule.{Rule}
use Rattle.asm_lang_valid.specs.declared.rule.Rule.TheVariants as rules

abbrev pub rule_number : Rule → ℕ
rule_number rules.NameTaken = 8
rule_number rules.ForbiddenName = 9
rule_number rules.UnknownName = 10
rule_number rules.WrongKind = 11
rule_number rules.LiteralRange = 12
rule_number rules.OutsideInteger = 13
rule_number rules.Operand = 14
rule_number rules.CallShape = 15
rule_number rules.BareByteIndex = 16
rule_number rules.ViewShift = 17
rule_number rules.TableSize = 18
rule_number rules.TableMask = 19
rule_number rules.ReturnKind = 20
rule_number rules.Label = 21
rule_number rules.SwitchCases = 22
rule_number rules.ChainLong = 23
rule_number rules.PastLimit = 24

abbrev pub rule_word : Rule → List ℕ
rule_word rules.NameTaken = codes "NameTaken"
rule_word rules.ForbiddenName = codes "ForbiddenName"
rule_word rules.UnknownName = codes "UnknownName"
rule_word rules.WrongKind = codes "WrongKind"
rule_word rules.LiteralRange = codes "LiteralRange"
rule_word rules.OutsideInteger = codes "OutsideInteger"
rule_word rules.Operand = codes "Operand"
rule_word rules.CallShape = codes "CallShape"
rule_word rules.BareByteIndex = codes "BareByteIndex"
rule_word rules.ViewShift = codes "ViewShift"
rule_word rules.TableSize = codes "TableSize"
rule_word rules.TableMask = codes "TableMask"
rule_word rules.ReturnKind = codes "ReturnKind"
rule_word rules.Label = codes "Label"
rule_word rules.SwitchCases = codes "SwitchCases"
rule_word rules.ChainLong = codes "ChainLong"
rule_word rules.PastLimit = codes "Limit"

abbrev pub rule_name : Rule → List ℕ
rule_name rule = codes "A" ++ (decimal (rule_number rule) ++ (codes " " ++ rule_word rule))
