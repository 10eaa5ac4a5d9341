use Rattle.std.proofs.Common.{sym, ap}
use Rattle.std.specs.Fmt.{digits}
use Rattle.asm_lang_valid.specs.RuleNames.{rule_name}
use Rattle.asm_lang_valid.proofs.rule.Rule.name.Goals as goal

pub returns-in-NameTaken : goal.returns-in-NameTaken
unfolding digits
returns-in-NameTaken c = ap rule_name (sym c.in-NameTaken.is)

pub returns-in-ForbiddenName : goal.returns-in-ForbiddenName
unfolding digits
returns-in-ForbiddenName c = ap rule_name (sym c.in-ForbiddenName.is)

pub returns-in-UnknownName : goal.returns-in-UnknownName
unfolding digits
returns-in-UnknownName c = ap rule_name (sym c.in-UnknownName.is)

pub returns-in-WrongKind : goal.returns-in-WrongKind
unfolding digits
returns-in-WrongKind c = ap rule_name (sym c.in-WrongKind.is)

pub returns-in-LiteralRange : goal.returns-in-LiteralRange
unfolding digits
returns-in-LiteralRange c = ap rule_name (sym c.in-LiteralRange.is)

pub returns-in-OutsideInteger : goal.returns-in-OutsideInteger
unfolding digits
returns-in-OutsideInteger c = ap rule_name (sym c.in-OutsideInteger.is)

pub returns-in-Operand : goal.returns-in-Operand
unfolding digits
returns-in-Operand c = ap rule_name (sym c.in-Operand.is)

pub returns-in-CallShape : goal.returns-in-CallShape
unfolding digits
returns-in-CallShape c = ap rule_name (sym c.in-CallShape.is)

pub returns-in-BareByteIndex : goal.returns-in-BareByteIndex
unfolding digits
returns-in-BareByteIndex c = ap rule_name (sym c.in-BareByteIndex.is)

pub returns-in-ViewShift : goal.returns-in-ViewShift
unfolding digits
returns-in-ViewShift c = ap rule_name (sym c.in-ViewShift.is)

pub returns-in-TableSize : goal.returns-in-TableSize
unfolding digits
returns-in-TableSize c = ap rule_name (sym c.in-TableSize.is)

pub returns-in-TableMask : goal.returns-in-TableMask
unfolding digits
returns-in-TableMask c = ap rule_name (sym c.in-TableMask.is)

pub returns-in-ReturnKind : goal.returns-in-ReturnKind
unfolding digits
returns-in-ReturnKind c = ap rule_name (sym c.in-ReturnKind.is)

pub returns-in-Label : goal.returns-in-Label
unfolding digits
returns-in-Label c = ap rule_name (sym c.in-Label.is)

pub returns-in-SwitchCases : goal.returns-in-SwitchCases
unfolding digits
returns-in-SwitchCases c = ap rule_name (sym c.in-SwitchCases.is)

pub returns-in-ChainLong : goal.returns-in-ChainLong
unfolding digits
returns-in-ChainLong c = ap rule_name (sym c.in-ChainLong.is)

pub returns-in-PastLimit : goal.returns-in-PastLimit
unfolding digits
returns-in-PastLimit c = ap rule_name (sym c.in-PastLimit.is)
