use Rattle.asm_short_modules.proofs.Whole.{function_is}
use Rattle.asm_short_modules.proofs.functions.renamed_function.Goals as goal

pub returns : goal.returns
returns c = λ m of.
    function_is m c.args.function.now _ _ _ _ _ _ _ _ c.in_ok-params.ensures c.as_slice-2.ensures c.in_ok-locals.ensures c.as_slice-3.ensures c.in_ok-body.ensures c.as_slice-4.ensures c.in_ok-name.ensures of (c.in_ok-variables.ensures m of)
