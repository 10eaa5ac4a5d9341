-- What the code's runners are.
use Rattle.asm_tree.specs.Views.{module_view}
use Rattle.bridge_lang.specs.Runs as spec
use Rattle.bridge_lang.specs.Runs.{text_runner, binary_runner}
use Rattle.bridge_cmd.specs.declared.runner.Runner.{Runner}
use Rattle.bridge_cmd.specs.declared.runner.Runner.TheVariants.{Text, Binary}

abbrev pub runner_of : Runner → spec.Runner
runner_of (Text checked heap) = text_runner (module_view checked) heap.bytes
runner_of (Binary valid) = binary_runner valid
