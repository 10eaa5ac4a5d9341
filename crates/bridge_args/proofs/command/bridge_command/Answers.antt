use Rattle.std.proofs.Common.{rules, ap, ap₂, true, ◌≡◌, ◌∙◌}
use Rattle.std.proofs.lemmas.Result.{IfOk-weaker}
use Rattle.clap.specs.Walk.{rule_of}
use Rattle.clap.specs.Simple.{app_of, app_of_fields, on_top, with_rule}
use Rattle.bridge_lang.specs.App.{bare_app, bridge_app, command_rule, heap_rule, operands_rule, steps_rule}
use Rattle.bridge_args.proofs.command.bridge_command.Goals as goal

pub returns : goal.returns
unfolding bridge_app
returns c =
    let heap_is : rule_of c.action-heap.result ≡ heap_rule = search rules in
    let steps_is : rule_of c.action-steps.result ≡ steps_rule = search rules in
    let command_is : rule_of c.action-command.result ≡ command_rule = search rules in
    let operands_is : rule_of c.action-operands.result ≡ operands_rule = search rules in
    let no_help : app_of c.disable_help_flag.result ≡ on_top (λ s. record s { disable_help_flag = true }) (app_of c.new-5.result) =
    ap app_of_fields c.disable_help_flag.ensures in
    let no_version : app_of c.disable_version_flag.result ≡ on_top (λ s. record s { disable_version_flag = true }) (app_of c.disable_help_flag.result) =
    ap app_of_fields c.disable_version_flag.ensures in
    let bare_is : app_of c.disable_version_flag.result ≡ bare_app =
    no_version ∙ ap (on_top (λ s. record s { disable_version_flag = true })) (no_help ∙ ap (on_top (λ s. record s { disable_help_flag = true })) c.new-5.ensures.app) in
    let one = c.in_ok-arg.ensures.shape (search rules) ∙ ap₂ with_rule bare_is heap_is in
    let two = c.in_ok-arg-2.ensures.shape (search rules) ∙ ap₂ with_rule one steps_is in
    let three = c.in_ok-arg-3.ensures.shape (search rules) ∙ ap₂ with_rule two command_is in
    IfOk-weaker c.arg-4.result _ _ (λ m h. h.shape (search rules) ∙ ap₂ with_rule three operands_is) c.arg-4.ensures
