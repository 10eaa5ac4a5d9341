use Rattle.asm_validate.proofs.InOrder.{few_there, signature_there, signature_past}
use Rattle.asm_validate.proofs.checked.Checked.signature.Goals as goal

pub narrow_signature-requires : goal.narrow_signature-requires
narrow_signature-requires c = few_there c.self.inside.«module» c.args.self.now c.args.function c.self.view_is c.in-Some.function.now c.self.invariant.1 c.in-Some.ensures.value

pub returns-in-Some : goal.returns-in-Some
returns-in-Some c = signature_there c.self.inside.«module» c.args.self.now c.args.function c.self.view_is c.in-Some.function.now c.narrow_signature.result c.in-Some.ensures.value c.narrow_signature.ensures

pub returns-in-None : goal.returns-in-None
returns-in-None c = signature_past c.self.inside.«module» c.args.self.now c.args.function c.self.view_is c.in-None.ensures.value
